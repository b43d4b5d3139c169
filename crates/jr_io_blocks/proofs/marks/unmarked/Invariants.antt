use Rattle.std.proofs.Common.{◌≡◌, vec_len}
use Rattle.jr_io_blocks.proofs.marks.unmarked.Given as goal

abbrev pub invariant-loop : goal.invariant-loop
invariant-loop l = vec_len l.marks ≡ l.counter
