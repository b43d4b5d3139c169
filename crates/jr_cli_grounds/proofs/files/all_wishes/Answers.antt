use Rattle.std.proofs.Common.{arith}
use Rattle.std.proofs.lemmas.Grind.{common_steps}
use Rattle.std.proofs.lemmas.List.FromFn.{map-range_with_len_more}
use Rattle.jr_plan.specs.Wishes.{wish_of}
use Rattle.jr_cli_grounds.proofs.files.all_wishes.Goals as goal

pub loop-file-preserved : goal.loop-file-preserved
loop-file-preserved c =
    let more = map-range_with_len_more (wish_of c.args.plan.now.clones) 0 c.loop-file.file c.loop-file.file (omega arith) in
    grind (arith, common_steps, more)
