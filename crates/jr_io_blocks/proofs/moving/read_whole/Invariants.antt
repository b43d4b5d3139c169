use Rattle.jr_io_blocks.proofs.MoveLemmas.{ReadSoFar}
use Rattle.jr_io_blocks.proofs.moving.read_whole.Given as goal

abbrev pub invariant-loop : goal.invariant-loop
invariant-loop g l = ReadSoFar (g.F.Positioned.view l.initial.file) (g.F.Positioned.view l.file) l.offset l.counter l.done l.buf
