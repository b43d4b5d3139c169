use Rattle.std.proofs.Common.{◌≡◌, vec_len}
use Rattle.jr_io_files.proofs.claims.without_overlap.Given as goal

abbrev pub invariant-loop-index : goal.invariant-loop-index
invariant-loop-index g l = vec_len l.extents ≡ l.index
