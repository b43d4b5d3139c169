use Rattle.std.proofs.Common.{◌≡◌, drop}
use Rattle.std.specs.Prelude.{max}
use Rattle.jr_after_chunks.specs.Judging.{longest_of}
use Rattle.jr_after_chunks.proofs.judging.longest_block.Given as goal

abbrev pub invariant-loop-one : goal.invariant-loop-one
invariant-loop-one l = max l.longest (longest_of (drop l.one-index l.named)) ≡ longest_of l.named
