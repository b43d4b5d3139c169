-- All clones so far are at rest.
use Rattle.std.proofs.Common.{sym, arith}
use Rattle.jr_desk_state.proofs.RestMoves.{rests_up_to}
use Rattle.jr_desk_state.proofs.resting.first_busy.Goals as goal

pub loop-clone-init : goal.loop-clone-init
loop-clone-init c clone job there before = absurd (omega (arith, before))

pub loop-clone-preserved : goal.loop-clone-preserved
loop-clone-preserved c =
    rests_up_to c.args.plan.now c.args.board.now.history.items c.loop-clone.clone c.loop-clone.invariant
    (λ job there. sym (c.if-not-is_at_rest.ensures job there))
