use Rattle.jr_cli_after.proofs.Reports.{after_as}
use Rattle.jr_cli_after.proofs.told.judge_after.Goals as goal

pub returns : goal.returns
returns g c = after_as c.judge_files.result _ _ _ _ c.in_ok-judge.ensures c.judge_files.ensures
