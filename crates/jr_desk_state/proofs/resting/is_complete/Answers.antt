use Rattle.std.proofs.Common.{arith}
use Rattle.jr_desk_state.proofs.RestMoves.{complete, incomplete, rests_first, rests_next}
use Rattle.jr_desk_state.proofs.resting.is_complete.Goals as goal

pub loop-clone-init : goal.loop-clone-init
loop-clone-init c =
    rests_first c.args.plan.now c.args.board.now.history.items c.args.board.now.rested.leading c.requires.rested.leading

pub returns-then-not-is_at_rest : goal.returns-then-not-is_at_rest
returns-then-not-is_at_rest c =
    incomplete c.args.plan.now c.args.board.now.history.items c.loop-clone.clone c.requires.planned c.requires.legal (omega arith) c.if-not-is_at_rest.ensures

pub loop-clone-preserved : goal.loop-clone-preserved
loop-clone-preserved c =
    rests_next c.args.plan.now c.args.board.now.history.items c.loop-clone.clone (omega arith) c.if-not-is_at_rest.ensures c.loop-clone.invariant

pub returns : goal.returns
returns c =
    complete c.args.plan.now c.args.board.now.history.items c.loop-clone.clone c.requires.planned c.requires.legal (omega arith) c.loop-clone.invariant
