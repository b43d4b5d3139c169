use Rattle.jr_cli_after.proofs.RowLemmas.{alone_next, alone_none}
use Rattle.jr_cli_after.proofs.walk.judge_alone.Goals as goal

pub loop-chunk-init : goal.loop-chunk-init
loop-chunk-init g c = alone_none c.args.judge.now _ c.args.told.now

pub loop-chunk-preserved : goal.loop-chunk-preserved
loop-chunk-preserved g c =
    alone_next c.args.judge.now c.args.chunks.now c.loop-chunk.chunk-index _ _ _ _ c.args.told.now c.loop-chunk.told c.judge_chunk.new.told c.loop-chunk-test.true c.loop-chunk.invariant c.in_ok-judge_chunk.ensures
