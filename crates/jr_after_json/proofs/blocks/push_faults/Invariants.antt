use Rattle.std.proofs.Common.{◌≡◌, ◌++◌, filter, map, take}
use Rattle.jr_after_report.specs.Counting.{is_fault}
use Rattle.jr_after_json.specs.Blocks.{place_of}
use Rattle.jr_after_json.proofs.blocks.push_faults.Given as goal

abbrev pub invariant-loop-one : goal.invariant-loop-one
invariant-loop-one l = l.chunks.items ≡ l.initial.chunks.items ++ map place_of (filter is_fault (take l.one-index l.told))
