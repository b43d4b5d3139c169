use Rattle.std.proofs.Common.{sym, ap, ◌∙◌}
use Rattle.std.specs.Prelude.{slice_get}
use Rattle.jr_replay.proofs.PhaseLaws.{drawn_at}
use Rattle.jr_replay.proofs.phases.legal_step_of_number.Goals as goal

pub legal_step_of-requires-clause-drawn : goal.legal_step_of-requires-clause-drawn
legal_step_of-requires-clause-drawn c =
    let pass = c.args.pass.now in
    ap (slice_get pass.draws) (drawn_at pass c.args.number c.in-Some.draw c.facts.ensures (sym c.in-Some.ensures)) ∙ sym c.in-Some.ensures
