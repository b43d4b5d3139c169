use Rattle.std.proofs.Common.{false}
use Rattle.jr_cli_after.proofs.RowLemmas.{parts_on}
use Rattle.jr_cli_after.proofs.parts.add_unread_parts.Goals as goal

pub loop-chunk-preserved : goal.loop-chunk-preserved
loop-chunk-preserved c =
    parts_on c.args.judge.now c.args.piece.now false c.args.bytes.now c.part_of-part.result.now c.args.chunks.now c.loop-chunk.chunk-index _ c.args.told.now c.loop-chunk.told c.add_unread.new.told c.loop-chunk-test.true c.loop-chunk.invariant c.part_of-part.ensures.value c.in_ok-add_unread.ensures
