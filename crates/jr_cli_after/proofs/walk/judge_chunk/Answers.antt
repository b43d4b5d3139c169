use Rattle.jr_cli_after.proofs.RowLemmas.{alone_one}
use Rattle.jr_cli_after.proofs.walk.judge_chunk.Goals as goal

pub returns : goal.returns
returns g c =
    alone_one c.args.judge.now c.args.chunk.now c.in_ok-is_whole.is_whole _ _ _ _ _ c.in_ok-is_whole.ensures c.in_ok-add_reading.ensures
