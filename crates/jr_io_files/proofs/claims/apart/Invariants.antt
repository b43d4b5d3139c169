use Rattle.std.proofs.Common.{◌≡◌, vec_len}
use Rattle.jr_io_files.proofs.claims.apart.Given as goal

abbrev pub invariant-loop-file : goal.invariant-loop-file
invariant-loop-file l = vec_len l.identities ≡ l.file-index
