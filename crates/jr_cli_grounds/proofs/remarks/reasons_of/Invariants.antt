use Rattle.std.proofs.Common.{◌≡◌, vec_len}
use Rattle.jr_cli_grounds.proofs.remarks.reasons_of.Given as goal

abbrev pub invariant-loop-note : goal.invariant-loop-note
invariant-loop-note l = vec_len l.reasons ≡ l.note-index
