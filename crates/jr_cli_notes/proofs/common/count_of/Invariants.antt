use Rattle.std.proofs.Common.{◌≡◌, ◌≤◌, take}
use Rattle.jr_cli_notes.specs.Common.{count_of}
use Rattle.jr_cli_notes.proofs.common.count_of.Given as goal

abbrev pub invariant-loop-one : goal.invariant-loop-one
invariant-loop-one l = record { count : l.count ≡ count_of (take l.one-index l.found) l.what; few : l.count ≤ l.one-index }
