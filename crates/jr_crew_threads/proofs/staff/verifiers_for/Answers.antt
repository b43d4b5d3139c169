use Rattle.std.proofs.Common.{arith}
use Rattle.jr_crew_threads.proofs.Numbering.{numbered_on, one_longer}
use Rattle.jr_crew_threads.proofs.PartLemmas.{less_on}
use Rattle.jr_crew_threads.proofs.staff.verifiers_for.Goals as goal

pub loop-place-preserved : goal.loop-place-preserved
loop-place-preserved g c =
    let longer = one_longer c.loop-place.all.items c.push.new.all.items _ c.in_ok-push.ensures.ok in (
      omega (arith, longer, c.loop-place.invariant.0),
      numbered_on (λ one. one.number) c.args.workers c.loop-place.all.items c.push.new.all.items _ c.in_ok-push.ensures.ok c.loop-place.invariant.1
          (omega (arith, c.in_ok-number.ensures.ok, c.in_ok-first.ensures.ok, c.loop-place.invariant.0)),
      less_on _ _ _ _ _ longer c.loop-place.invariant.2 c.another.ensures.kept,
    )
