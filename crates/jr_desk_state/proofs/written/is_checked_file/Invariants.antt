use Rattle.std.proofs.Common.{◌≡◌, false, take}
use Rattle.std.specs.List.{list_any}
use Rattle.jr_desk_state.specs.WriteLogs.{checks_in}
use Rattle.jr_desk_state.proofs.written.is_checked_file.Given as goal

abbrev pub invariant-loop-clone : goal.invariant-loop-clone
invariant-loop-clone l = list_any (checks_in l.file) (take l.clone l.plan.clones) ≡ false
