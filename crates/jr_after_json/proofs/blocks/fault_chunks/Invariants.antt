use Rattle.std.proofs.Common.{◌≡◌, flat_map, take}
use Rattle.jr_after_json.specs.Blocks.{fault_chunks_of}
use Rattle.jr_after_json.proofs.blocks.fault_chunks.Given as goal

abbrev pub invariant-loop-one : goal.invariant-loop-one
invariant-loop-one l = l.chunks.items ≡ flat_map fault_chunks_of (take l.one-index l.found)
