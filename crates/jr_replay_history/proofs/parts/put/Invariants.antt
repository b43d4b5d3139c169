use Rattle.std.proofs.Common.{◌≡◌, ℕ, [], ◌∷◌, ◌++◌, cond, ◌&&◌}
use Rattle.std.specs.Prelude.{nat_eq, nat_lt, nat_le}
use Rattle.jr_replay_history.specs.Parts.{ends_at, first_part}
use Rattle.jr_replay_history.proofs.parts.put.Given as goal

abbrev pub invariant-loop-part : goal.invariant-loop-part
invariant-loop-part l =
    (file part : ℕ) → ends_at l.parts (file, part) ≡ ends_at l.initial.parts (file, part) ++ cond (nat_eq file l.end.piece.file && (nat_le (first_part l.end.piece) part && nat_lt part l.part)) (l.end ∷ []) []
