use Rattle.std.proofs.Common.{true, arith}
use Rattle.jr_cli_after.proofs.RowLemmas.{parts_on}
use Rattle.jr_cli_after.proofs.parts.add_found.Goals as goal

pub loop-place-preserved : goal.loop-place-preserved
loop-place-preserved c =
    parts_on c.args.judge.now c.args.piece.now true c.args.bytes.now c.part_of-part.result.now c.args.chunks.now c.loop-place.place _ c.args.told.now c.loop-place.told c.add_judged.new.told (omega (arith, c.loop-place-test.true)) c.loop-place.invariant c.part_of-part.ensures.value c.in_ok-add_judged.ensures
