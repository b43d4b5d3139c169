use Rattle.std.proofs.Common.{◌≡◌, map}
use Rattle.std.specs.List.{range_with_len}
use Rattle.jr_desk_state.specs.WriteLogs.{is_checked_file}
use Rattle.jr_desk_state.proofs.written.checked_files.Given as goal

abbrev pub invariant-loop-file : goal.invariant-loop-file
invariant-loop-file l = l.files.items ≡ map (is_checked_file l.plan) (range_with_len 0 l.file)
