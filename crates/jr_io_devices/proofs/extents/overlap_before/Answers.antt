use Rattle.std.proofs.Common.{rules, IsTrue}
use Rattle.jr_io_devices.proofs.OverlapLemmas.{clear_of_more}
use Rattle.jr_io_devices.proofs.extents.overlap_before.Goals as goal

pub loop-first-preserved : goal.loop-first-preserved
loop-first-preserved c =
    clear_of_more _ _ _ _ _ c.extent_at-other.ensures c.extent_at-one.ensures
    (λ o. let found : IsTrue c.overlaps.result = c.overlaps.ensures.1 o in search rules)
    c.loop-first.invariant
