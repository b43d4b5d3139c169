use Rattle.std.proofs.Common.{arith}
use Rattle.std.proofs.lemmas.Grind.{common_steps}
use Rattle.std.proofs.lemmas.List.FromFn.{map-range_with_len_more}
use Rattle.jr_diagnosis.specs.Sectors.{is_right}
use Rattle.jr_diagnosis.proofs.sectors.first_sectors.Goals as goal

pub loop-i-preserved : goal.loop-i-preserved
loop-i-preserved c =
    let more = map-range_with_len_more (is_right c.args.written.now c.args.read.now) 0 c.loop-i.i c.loop-i.i (omega arith) in
    grind (arith, common_steps, more, c.is_right-right.ensures, c.in_ok-push.ensures.items, c.loop-i.invariant)
