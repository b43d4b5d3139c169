use Rattle.std.proofs.Common.{◌+◌, refl}
use Rattle.jr_cli_after.proofs.RowLemmas.{row_on}
use Rattle.jr_cli_after.proofs.rows.row_from.Goals as goal

pub loop-chunk-preserved : goal.loop-chunk-preserved
loop-chunk-preserved c =
    row_on c.args.plan.now c.args.first.now c.loop-chunk.chunks.items c.push-in-Some.new.self.items c.loop-chunk.piece c.in-Some.chunk (c.loop-chunk.piece.len + c.in-Some.chunk.len) refl c.in_ok-push-2.ensures.items c.loop-chunk.invariant c.in-Some.ensures
