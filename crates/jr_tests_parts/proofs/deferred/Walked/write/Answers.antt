use Rattle.std.proofs.Common.{sym, ◌∙◌, ap}
use Rattle.jr_backlog.specs.Rounds.{Round}
use Rattle.jr_backlog.specs.Deferred.{is_committed, round_now}
use Rattle.jr_backlog.proofs.WalkedFacts.{both_written}
use Rattle.jr_tests_parts.proofs.deferred.Walked.write.Goals as goal

pub invariant_of-self-2 : goal.invariant_of-self-2
invariant_of-self-2 g c =
    let both = both_written c.self.inside.deferred c.self.inside.plain c.args.write c.args.ended c.self.inside.to_check.items (ap is_committed c.self.view_is ∙ c.requires) c.self.invariant.0 c.self.invariant.1 in
    (ap round_now c.issued.ensures ∙ both.0 ∙ sym c.in_ok-put.ensures.plain, ap (λ (r : Round). r.to_check) c.in_ok-put.ensures.plain ∙ both.1 ∙ sym c.in_ok-put.ensures.writes)
