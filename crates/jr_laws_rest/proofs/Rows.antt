-- Rows of pieces: a front of one, two joined, and which bytes are in one.
use Rattle.std.proofs.Common.{◌≡◌, ℕ, zero, suc, ◌<◌, ◌≤◌, List, [], ◌∷◌, ◌++◌, take, Bool, true, false, cond, refl, ap, arith, inl, inr}
use Rattle.std.specs.Prelude.{◌==◌, ◌&&◌, nat_le, nat_lt, count_by, if◌then◌else◌}
use Rattle.std.proofs.lemmas.Bool.{cases_lt, eq-eqb}
use Rattle.std.proofs.lemmas.Bool.Decides.{nat_tests}
use Rattle.std.proofs.lemmas.List.Sums.{sum_by-cons}
use Rattle.jr_model.specs.declared.blocks.Piece.{Piece}
use Rattle.jr_model.specs.Pieces.{piece_end}
use Rattle.jr_laws_rest.specs.Tried.{IsRow, has_byte, row_end}

-- the front of a row
pub row_take : (file from k : ℕ) (ps : List Piece) → IsRow file from ps → IsRow file from (take k ps)
row_take file from zero ps h = tt
row_take file from (suc k) [] h = tt
row_take file from (suc k) (p ∷ ps) h = (h.0, h.1, row_take file (piece_end p) k ps h.2)

-- two rows of which the second begins where the first ends
pub row_joined : (file from : ℕ) (ps qs : List Piece) → IsRow file from ps → IsRow file (row_end from ps) qs → IsRow file from (ps ++ qs)
row_joined file from [] qs h k = k
row_joined file from (p ∷ ps) qs h k = (h.0, h.1, row_joined file (piece_end p) ps qs h.2 k)

pub end_joined : (from : ℕ) (ps qs : List Piece) → row_end from (ps ++ qs) ≡ row_end (row_end from ps) qs
end_joined from [] qs = refl
end_joined from (p ∷ ps) qs = end_joined (piece_end p) ps qs

-- a row ends nowhere before its start
pub end_least : (file from : ℕ) (ps : List Piece) → IsRow file from ps → from ≤ row_end from ps
end_least file from [] h = omega arith
end_least file from (p ∷ ps) h = let rest = end_least file (piece_end p) ps h.2 in omega (arith, rest, h.1)

-- a byte before a row is in none of its pieces
pub none_before : (file from b : ℕ) (ps : List Piece) → IsRow file from ps → b < from → count_by (has_byte file b) ps ≡ 0
none_before file from b [] h low = refl
none_before file from b (p ∷ ps) h low =
    let rest = none_before file (piece_end p) b ps h.2 (omega (arith, low, h.1)) in
    let one : ◌≡◌ {A = ℕ} (cond (has_byte file b p) 1 0) 0 = ap (λ (t : Bool). cond {A = ℕ} t 1 0) (outside (p.file == file) p.offset b (piece_end p) (omega (arith, low, h.1))) in
    let more = sum_by-cons (λ (q : Piece). cond {A = ℕ} (has_byte file b q) 1 0) p ps in
    omega (arith, rest, one, more)
  where
    outside : (t : Bool) (offset b end : ℕ) → b < offset → (t && nat_le offset b && nat_lt b end) ≡ false
    outside t offset b end h = grind (arith, nat_tests)

-- a byte from its start on is in one of them if the row comes past it
pub once_in : (file from b : ℕ) (ps : List Piece) → IsRow file from ps → from ≤ b
    → count_by (has_byte file b) ps ≡ (if nat_lt b (row_end from ps) then 1 else 0)
once_in file from b [] h low = ap (λ (t : Bool). cond {A = ℕ} t 1 0) (not_below b from low)
  where
    not_below : (b from : ℕ) → from ≤ b → false ≡ nat_lt b from
    not_below b from h = grind (arith, nat_tests)
once_in file from b (p ∷ ps) h low =
    let more = sum_by-cons (λ (q : Piece). cond {A = ℕ} (has_byte file b q) 1 0) p ps in
    let whose : (p.file == file) ≡ true = eq-eqb p.file file h.0 in
    elim (cases_lt b (piece_end p)) [
      | inl in_it ↦
          let one : ◌≡◌ {A = ℕ} (cond (has_byte file b p) 1 0) 1 = ap (λ (t : Bool). cond {A = ℕ} t 1 0) (inside (p.file == file) p.offset b (piece_end p) whose (omega (arith, low, h.1)) in_it) in
          let rest = none_before file (piece_end p) b ps h.2 in_it in
          let past = end_least file (piece_end p) ps h.2 in
          let all : ◌≡◌ {A = ℕ} (if nat_lt b (row_end (piece_end p) ps) then 1 else 0) 1 = ap (λ (t : Bool). cond {A = ℕ} t 1 0) (below b (row_end (piece_end p) ps) (omega (arith, past, in_it))) in
          omega (arith, more, one, rest, all)
      | inr after ↦
          let none : ◌≡◌ {A = ℕ} (cond (has_byte file b p) 1 0) 0 = ap (λ (t : Bool). cond {A = ℕ} t 1 0) (beyond (p.file == file) p.offset b (piece_end p) after) in
          let rest = once_in file (piece_end p) b ps h.2 after in
          omega (arith, more, none, rest)
    ]
  where
    inside : (t : Bool) (offset b end : ℕ) → t ≡ true → offset ≤ b → b < end → (t && nat_le offset b && nat_lt b end) ≡ true
    inside t offset b end h low high = grind (arith, nat_tests)

    beyond : (t : Bool) (offset b end : ℕ) → end ≤ b → (t && nat_le offset b && nat_lt b end) ≡ false
    beyond t offset b end h = grind (arith, nat_tests)

    below : (b end : ℕ) → b < end → nat_lt b end ≡ true
    below b end h = grind (arith, nat_tests)
