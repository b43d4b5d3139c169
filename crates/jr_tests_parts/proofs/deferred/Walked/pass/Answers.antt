use Rattle.std.proofs.Common.{sym, ◌∙◌, ap}
use Rattle.jr_backlog.specs.Rounds.{Round}
use Rattle.jr_backlog.specs.Deferred.{is_committed, round_now}
use Rattle.jr_backlog.proofs.WalkedFacts.{both_passed}
use Rattle.jr_tests_parts.proofs.deferred.Walked.pass.Goals as goal

pub invariant_of-self : goal.invariant_of-self
invariant_of-self g c =
    let both = both_passed c.self.inside.deferred c.self.inside.plain c.args.write c.self.inside.to_check.items (ap is_committed c.self.view_is ∙ c.requires) c.self.invariant.0 c.self.invariant.1 in
    (ap round_now c.passed.ensures ∙ both.0 ∙ sym c.passed-2.ensures, ap (λ (r : Round). r.to_check) c.passed-2.ensures ∙ both.1 ∙ sym c.take_out.ensures)
