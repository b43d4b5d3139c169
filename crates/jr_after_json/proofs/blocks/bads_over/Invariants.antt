use Rattle.std.proofs.Common.{◌≡◌, map, take}
use Rattle.jr_after_json.specs.Bads.{bad_over}
use Rattle.jr_after_json.proofs.blocks.bads_over.Given as goal

abbrev pub invariant-loop-chunk : goal.invariant-loop-chunk
invariant-loop-chunk l = l.bads.items ≡ map bad_over (take l.chunk-index l.chunks)
