use Rattle.std.proofs.Common.{◌≡◌, ℕ, [], ◌∷◌, ◌++◌, cond, ◌&&◌}
use Rattle.std.specs.Prelude.{nat_eq, nat_lt, nat_le}
use Rattle.jr_after_chunks.specs.Index.{places_at, part_of}
use Rattle.jr_after_chunks.proofs.index.put.Given as goal

abbrev pub invariant-loop-part : goal.invariant-loop-part
invariant-loop-part l =
    (file part : ℕ) → places_at l.index (file, part) ≡ places_at l.initial.index (file, part) ++ cond (nat_eq file l.piece.file && (nat_le (part_of l.piece.offset) part && nat_lt part l.part)) (l.place ∷ []) []
