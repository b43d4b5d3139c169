use Rattle.std.proofs.Common.{arith}
use Rattle.std.proofs.lemmas.Grind.{common_steps}
use Rattle.std.proofs.lemmas.List.FromFn.{map-range_with_len_more}
use Rattle.jr_desk_state.specs.WriteLogs.{is_checked_file}
use Rattle.jr_desk_state.proofs.written.checked_files.Goals as goal

pub loop-file-preserved : goal.loop-file-preserved
loop-file-preserved c =
    let more = map-range_with_len_more (is_checked_file c.args.plan.now) 0 c.loop-file.file c.loop-file.file (omega arith) in
    grind (arith, common_steps, more)
