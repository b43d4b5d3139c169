-- All clones of earlier phases than that of a clone that isn't at rest are.
use Rattle.std.proofs.Common.{sym, ◌∙◌, ap, arith}
use Rattle.std.specs.Prelude.{nat_le}
use Rattle.jr_desk_state.proofs.RestMoves.{opens_by, opens_last}
use Rattle.jr_desk_state.proofs.resting.open_phase.Goals as goal

pub returns-then-phase-last_phase : goal.returns-then-phase-last_phase
returns-then-phase-last_phase c clone job there =
    let board = c.args.board.now in
    let first = c.clone_at.result.now in
    let at = c.clone_at.ensures.value in
    opens_last c.args.plan.now board.history.items first board.rested.last_phase
    (λ other one planned before. c.requires.rested.earlier other one first planned at before)
    (omega (arith, c.if-phase-last_phase.true, c.phase-phase.ensures))
    job (c.requires.rested.last clone job there)

pub returns-then-not-is_at_rest : goal.returns-then-not-is_at_rest
returns-then-not-is_at_rest c clone job there =
    let board = c.args.board.now in
    let first = c.clone_at.result.now in
    let at = c.clone_at.ensures.value in
    opens_by c.args.plan.now board.history.items board.rested.earliest first at (sym (c.if-not-is_at_rest.ensures first at))
    (λ other one planned before. c.requires.rested.earlier other one first planned at before) job
    ∙ ap (nat_le job.phase) (sym c.phase-phase.ensures)
