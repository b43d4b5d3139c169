-- The writes over a chunk are among those over the part of its file in which it begins.
use Rattle.std.proofs.Common.{◌≡◌, ℕ, zero, suc, ◌+◌, ◌*◌, ◌/◌, ◌%◌, ◌<◌, ◌≤◌, List, [], ◌∷◌, ◌++◌, take, slice_get, filter, flat_map, Bool, true, false, refl, ap, sym, ◌∙◌, inl, inr, arith, zero-add}
use Rattle.std.specs.Prelude.{Some, cond, nat_eq, nat_lt, nat_le, ◌==◌, ◌&&◌}
use Rattle.std.proofs.lemmas.Bool.{and_parts, and_from, cases_Bool, cond-true, cond-false, eq-eqb, eqb-true, false≢true, le-leb, lt-ltb}
use Rattle.std.proofs.lemmas.Grind.{div_ceil_times}
use Rattle.std.proofs.lemmas.Nat.{div-add-mod', mod_below}
use Rattle.jr_model.specs.declared.blocks.Piece.{Piece}
use Rattle.jr_after.specs.declared.writes.Named.{Named}
use Rattle.jr_after.specs.Writes.{is_chunk}
use Rattle.jr_after_chunks.specs.Index.{is_write_over, part_count, part_of, places_from}
use Rattle.jr_after_chunks.specs.Judging.{is_over, named_over, over_at, over_one}
use Rattle.jr_after_chunks.proofs.Over.{lies}

place_added : (b : Bool) (place : ℕ) (more before added : List ℕ) → more ≡ before ++ added → cond b (place ∷ more) more ≡ cond b (place ∷ before) before ++ added
place_added true place more before added is = ap (λ (rest : List ℕ). place ∷ rest) is
place_added false place more before added is = is

-- the places with one element more
pub places_more : {X : Type 0} (test : X → Bool) (place : ℕ) (xs : List X) (i : ℕ) (x : X) → slice_get xs i ≡ Some x → places_from test place (take (suc i) xs) ≡ places_from test place (take i xs) ++ cond (test x) ((place + i) ∷ []) []
places_more test place [] i x at = absurd (cc)
places_more test place (y ∷ xs) zero x at =
    let same : y ≡ x = cc in
    ap (λ z. cond (test z) (place ∷ []) []) same ∙ ap (λ (n : ℕ). cond (test x) (n ∷ []) []) (let e : place ≡ place + 0 = omega arith in e)
places_more test place (y ∷ xs) (suc i) x at =
    place_added (test y) place (places_from test (suc place) (take (suc i) xs)) (places_from test (suc place) (take i xs)) (cond (test x) ((place + suc i) ∷ []) [])
    (places_more test (suc place) xs i x at ∙ ap (λ (n : ℕ). places_from test (suc place) (take i xs) ++ cond (test x) (n ∷ []) []) (let e : suc place + i ≡ place + suc i = omega arith in e))

-- where a byte lies from an offset on, so does its part
from_first : (offset q r place p s : ℕ) → q * 65536 + r ≡ offset → p * 65536 + s ≡ place → s < 65536 → offset ≤ place → q ≤ p
from_first offset q r place p s first own small low = omega (arith, first, own, small, low)

-- and where it lies before an end
to_last : (offset len q r place p s c : ℕ) → q * 65536 + r ≡ offset → p * 65536 + s ≡ place → r + len ≤ c * 65536 → place < offset + len → p < q + c
to_last offset len q r place p s c first own most low = omega (arith, first, own, most, low)

-- a write over a chunk is over the part in which the chunk begins
over_part : (chunk : Piece) (named : Named) → 0 < chunk.len → is_over chunk named ≡ true → is_write_over chunk.file (part_of chunk.offset) named ≡ true
over_part chunk named some over =
    let piece = named.planned.piece in
    let offset : ℕ = piece.offset in
    let len : ℕ = piece.len in
    let place : ℕ = chunk.offset in
    let parts = and_parts (piece.file == chunk.file) (is_chunk named.planned.method.interval piece chunk) over in
    let there = lies named.planned.method.interval piece chunk parts.1 in
    let ceiling = div_ceil_times (offset % 65536 + len) 65536 (omega arith) in
    and_from (nat_eq chunk.file piece.file) (nat_le (part_of offset) (part_of place) && nat_lt (part_of place) (part_of offset + part_count piece))
    (eq-eqb chunk.file piece.file (sym (eqb-true piece.file chunk.file parts.0)))
    (and_from (nat_le (part_of offset) (part_of place)) (nat_lt (part_of place) (part_of offset + part_count piece))
    (le-leb (part_of offset) (part_of place)
    (from_first offset (offset / 65536) (offset % 65536) place (place / 65536) (place % 65536) (div-add-mod' offset 65536) (div-add-mod' place 65536) (mod_below place 65536 (omega arith)) there.from_there))
    (lt-ltb (part_of place) (part_of offset + part_count piece)
    (to_last offset len (offset / 65536) (offset % 65536) place (place / 65536) (place % 65536) (part_count piece) (div-add-mod' offset 65536) (div-add-mod' place 65536) ceiling.0 (omega (arith, there.till, some)))))

one_more : (p : Bool) (x : Named) (picked rest kept : List Named) → picked ≡ cond p (x ∷ []) [] → rest ≡ kept → picked ++ rest ≡ cond p (x ∷ kept) kept
one_more true x picked rest kept own same = ap (λ (xs : List Named). xs ++ rest) own ∙ ap (λ (xs : List Named). x ∷ xs) same
one_more false x picked rest kept own same = ap (λ (xs : List Named). xs ++ rest) own ∙ same

-- those at the places of a weaker test are those that pass
picked : (chunk : Piece) (all : List Named) (q : Named → Bool) → ((x : Named) → is_over chunk x ≡ true → q x ≡ true) → (place : ℕ) (xs : List Named) → ((j : ℕ) → slice_get all (place + j) ≡ slice_get xs j) → flat_map (over_at chunk all) (places_from q place xs) ≡ filter (is_over chunk) xs
picked chunk all q weaker place [] there = refl
picked chunk all q weaker place (x ∷ xs) there =
    let rest = places_from q (suc place) xs in
    let later : flat_map (over_at chunk all) rest ≡ filter (is_over chunk) xs =
    picked chunk all q weaker (suc place) xs (λ j. ap (slice_get all) (let e : suc place + j ≡ place + suc j = omega arith in e) ∙ there (suc j)) in
    let at : slice_get all place ≡ Some x = ap (slice_get all) (let e : place ≡ place + 0 = omega arith in e) ∙ there 0 in
    elim (cases_Bool (q x)) [
      | inl passes ↦
          ap (flat_map (over_at chunk all)) (cond-true (q x) (place ∷ rest) rest passes)
          ∙ one_more (is_over chunk x) x (over_at chunk all place) (flat_map (over_at chunk all) rest) (filter (is_over chunk) xs) (ap (over_one chunk) at) later
      | inr fails ↦
          let not : is_over chunk x ≡ false = elim (cases_Bool (is_over chunk x)) [
            | inl own ↦ absurd (false≢true (sym fails ∙ weaker x own))
            | inr not_own ↦ not_own
          ] in
          ap (flat_map (over_at chunk all)) (cond-false (q x) (place ∷ rest) rest fails) ∙ later
          ∙ sym (cond-false (is_over chunk x) (x ∷ filter (is_over chunk) xs) (filter (is_over chunk) xs) not)
    ]

pub over_by_index : (chunk : Piece) (named : List Named) → 0 < chunk.len → flat_map (over_at chunk named) (places_from (is_write_over chunk.file (part_of chunk.offset)) 0 named) ≡ named_over chunk named
over_by_index chunk named some =
    picked chunk named (is_write_over chunk.file (part_of chunk.offset)) (λ x over. over_part chunk x some over) 0 named (λ j. ap (slice_get named) (zero-add j))
