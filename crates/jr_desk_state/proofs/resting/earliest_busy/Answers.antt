use Rattle.std.proofs.Common.{arith}
use Rattle.std.proofs.lemmas.Option.{slice_get_within}
use Rattle.jr_desk_state.proofs.resting.earliest_busy.Goals as goal

pub returns : goal.returns
returns c clone job first there at before =
    let was = c.loop-clone.invariant in
    let below = slice_get_within c.args.plan.now.clones clone job there in
    let own = was.own first at in
    was.others clone job there (omega (arith, below, c.loop-clone-test.false, c.clones-clone-end.ensures.value)) (omega (arith, before, own))
