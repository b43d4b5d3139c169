use Rattle.jr_io_blocks.proofs.MoveLemmas.{WrittenSoFar}
use Rattle.jr_io_blocks.proofs.moving.write_whole.Given as goal

abbrev pub invariant-loop : goal.invariant-loop
invariant-loop g l = WrittenSoFar (g.F.Positioned.view l.initial.file) (g.F.Positioned.view l.file) l.offset l.counter l.done l.buf
