-- Blocks that are cut into chunks: their lengths, what stands in each, and what is said of the first bad one.
use Rattle.std.proofs.Common.{◌≡◌, ℕ, zero, suc, ◌+◌, ◌-◌, ◌*◌, ◌%◌, ◌<◌, ◌≤◌, List, [], ◌∷◌, ◌++◌, length, map, take, drop, flat_map, true, false, ◌&&◌, inl, inr, refl, sym, ap, ◌∙◌, arith, zero-add, append_assoc, append-nil, length-append, length-take, length-drop}
use Rattle.std.proofs.lemmas.Grind.{flat_map-append}
use borrow.Rule.Slice.PartMut.{put_mid, post_of, mid_len, same_len_mid}
use Rattle.std.specs.Prelude.{nat_lt, nat_le, ◌==◌}
use Rattle.std.specs.List.{range_with_len}
use Rattle.std.proofs.lemmas.Nat.{div-add-mod'}
use Rattle.std.proofs.lemmas.Bool.{and_parts, and_from, cases_lt, cond-false, eqb-true, ltb-true, leb-true, false_from_ne_true}
use Rattle.std.proofs.lemmas.List.{take_at, drop_at, take-append-drop, drop-drop, nil_from_length}
use Rattle.jr_model.specs.declared.limits.TheConstants.{SECTOR, LARGEST_BLOCK, LARGEST_END}
use Rattle.jr_model.specs.declared.blocks.Piece.{Piece}
use Rattle.jr_model.specs.declared.events.Verdict.{Verdict}
use Rattle.jr_model.specs.declared.events.Verdict.TheVariants.{Good, Bad, Void}
use Rattle.jr_model.specs.declared.events.What.{What}
use Rattle.jr_model.specs.declared.events.What.TheVariants.{Header, Digest, DataArea, Byte, Chunk}
use Rattle.jr_model.specs.Content.{chunks_in}
use Rattle.jr_model.specs.Judgement.{cuts_whole, first_bad, in_chunk}
use Rattle.jr_model.specs.Legal.{is_void}
use Rattle.jr_model.specs.Tickets.{piece_fits, has_whole_chunks}
use Rattle.jr_header.specs.Chunks.{IsInChunks}

-- a piece that fits is one or more whole blocks
pub whole_blocks : (piece : Piece) → piece_fits piece ≡ true → (512 ≤ piece.len) × (piece.len % 512 ≡ 0)
whole_blocks p h =
    let four = and_parts (nat_lt 0 p.len && nat_le p.len LARGEST_BLOCK && (p.len % SECTOR == 0) && (p.offset % SECTOR == 0)) (nat_le (p.offset + p.len) LARGEST_END) h in
    let three = and_parts (nat_lt 0 p.len && nat_le p.len LARGEST_BLOCK && (p.len % SECTOR == 0)) (p.offset % SECTOR == 0) four.0 in
    let two = and_parts (nat_lt 0 p.len && nat_le p.len LARGEST_BLOCK) (p.len % SECTOR == 0) three.0 in
    let one = and_parts (nat_lt 0 p.len) (nat_le p.len LARGEST_BLOCK) two.0 in
    let some : 0 < p.len = ltb-true 0 p.len one.0 in
    let size : p.len % 512 ≡ 0 = eqb-true (p.len % SECTOR) 0 two.1 in
    (omega (arith, some, size), size)

-- a block that fits, with an interval that divides it, is in chunks
pub in_chunks : (interval : ℕ) (piece : Piece) → piece_fits piece ≡ true → has_whole_chunks interval piece.len ≡ true → (interval == 0) ≡ false → IsInChunks interval piece
in_chunks interval piece fits whole some =
    let end = and_parts (nat_lt 0 piece.len && nat_le piece.len LARGEST_BLOCK && (piece.len % SECTOR == 0) && (piece.offset % SECTOR == 0)) (nat_le (piece.offset + piece.len) LARGEST_END) fits in
    let both = and_parts (interval % SECTOR == 0) (piece.len % interval == 0)
    (sym (cond-false (interval == 0) true ((interval % SECTOR == 0) && (piece.len % interval == 0)) some) ∙ whole) in
    let sectors : interval % 512 ≡ 0 = eqb-true (interval % SECTOR) 0 both.0 in
    let none_left : piece.len % interval ≡ 0 = eqb-true (piece.len % interval) 0 both.1 in
    let most : piece.offset + piece.len ≤ 1125899906842624 = leb-true (piece.offset + piece.len) LARGEST_END end.1 in
    let not_none : 0 < interval = positive interval some in
    record {
      some = omega (arith, sectors, not_none);
      sectors = sectors;
      whole = omega (arith, div-add-mod' piece.len interval, none_left);
      end = omega (arith, most);
    }
  where
    positive : (n : ℕ) → (n == 0) ≡ false → 0 < n
    positive zero h = absurd (cc)
    positive (suc n) h = omega arith

-- so is one that the interval in a header cuts
pub cut_in_chunks : (interval : ℕ) (piece : Piece) → piece_fits piece ≡ true → cuts_whole interval piece.len ≡ true → IsInChunks interval piece
cut_in_chunks interval piece fits cuts =
    let both = and_parts (nat_lt 0 interval && (interval % SECTOR == 0)) (piece.len % interval == 0) cuts in
    let first = and_parts (nat_lt 0 interval) (interval % SECTOR == 0) both.0 in
    let some = not_none interval first.0 in
    in_chunks interval piece fits
    (cond-false (interval == 0) true ((interval % SECTOR == 0) && (piece.len % interval == 0)) some
    ∙ and_from (interval % SECTOR == 0) (piece.len % interval == 0) first.1 both.1)
    some
  where
    not_none : (n : ℕ) → nat_lt 0 n ≡ true → (n == 0) ≡ false
    not_none n h = false_from_ne_true (n == 0) (λ none. let some : 0 < n = ltb-true 0 n h in let is : n ≡ 0 = eqb-true n 0 none in omega (arith, some, is))

-- chunk i lies within the block
pub chunk_inside : (interval : ℕ) (piece : Piece) (i : ℕ) → IsInChunks interval piece → i < chunks_in interval piece → i * interval + interval ≤ piece.len
chunk_inside interval piece i chunks below = within (chunks_in interval piece) below chunks.whole
  where
    within : (n : ℕ) → i < n → n * interval ≡ piece.len → i * interval + interval ≤ piece.len
    within n few all =
        let rest : ℕ = n - i - 1 in
        let sum : n ≡ (i + 1) + rest = omega (arith, few) in
        let parts : ((i + 1) + rest) * interval ≡ piece.len = ap (λ (k : ℕ). k * interval) (sym sum) ∙ all in
        omega (arith, parts)

-- element i of lists of one length, one behind the other
pub part_of_flat : (f : ℕ → List ℕ) (v from n i : ℕ) → ((k : ℕ) → length (f k) ≡ v) → i < n → take v (drop (i * v) (flat_map f (range_with_len from n))) ≡ f (from + i)
part_of_flat f v from zero i each below = absurd (omega (arith, below))
part_of_flat f v from (suc n) zero each below =
    let none : 0 * v ≡ 0 = omega arith in
    ap (λ (k : ℕ). take v (drop k (f from ++ flat_map f (range_with_len (from + 1) n)))) none
    ∙ take_at (f from) (flat_map f (range_with_len (from + 1) n)) v (each from) ∙ ap f (let e : from ≡ from + 0 = omega arith in e)
part_of_flat f v from (suc n) (suc i) each below =
    let rest = flat_map f (range_with_len (from + 1) n) in
    let sum : suc i * v ≡ v + i * v = omega arith in
    ap (λ (k : ℕ). take v (drop k (f from ++ rest))) sum
    ∙ ap (take v) (sym (drop-drop (i * v) v (f from ++ rest)) ∙ ap (drop (i * v)) (drop_at (f from) rest v (each from)))
    ∙ part_of_flat f v (from + 1) n i each (omega (arith, below))
    ∙ ap f (let e : from + 1 + i ≡ from + suc i = omega arith in e)

pub length-flat : (f : ℕ → List ℕ) (v from n : ℕ) → ((k : ℕ) → length (f k) ≡ v) → length (flat_map f (range_with_len from n)) ≡ n * v
length-flat f v from zero each = let e : 0 ≡ 0 * v = omega arith in e
length-flat f v from (suc n) each =
    omega (arith, length-append (f from) (flat_map f (range_with_len (from + 1) n)), each from, length-flat f v (from + 1) n each)

-- one more behind the others
pub flat_more : (f : ℕ → List ℕ) (n : ℕ) → flat_map f (range_with_len 0 n) ++ f n ≡ flat_map f (range_with_len 0 (n + 1))
flat_more f n =
    let last : range_with_len 0 (n + 1) ≡ range_with_len 0 n ++ n ∷ [] = range_more 0 n n (zero-add n) in
    ap (λ (xs : List ℕ). flat_map f (range_with_len 0 n) ++ xs) (sym (append-nil (f n)))
    ∙ sym (flat_map-append f (range_with_len 0 n) (n ∷ [])) ∙ ap (flat_map f) (sym last)
  where
    range_more : (a n j : ℕ) → a + n ≡ j → range_with_len a (n + 1) ≡ range_with_len a n ++ j ∷ []
    range_more a zero j e = ap (λ (x : ℕ). x ∷ []) (let same : a ≡ j = omega (arith, e) in same)
    range_more a (suc n) j e =
        let more : suc n + 1 ≡ suc (n + 1) = omega arith in
        ap (range_with_len a) more ∙ ap (λ (xs : List ℕ). a ∷ xs) (range_more (a + 1) n j (omega (arith, e)))

-- a part that is written in its place
pub length-put : (a v : ℕ) (xs ys : List ℕ) → length ys ≡ v → a + v ≤ length xs → length (put_mid a (a + v - a) xs ys) ≡ length xs
length-put a v xs ys size fits =
    same_len_mid a (a + v - a) xs ys (size ∙ (let e : v ≡ a + v - a = omega arith in e) ∙ sym (mid_len a (a + v) xs fits))

pub take_put_more : (a v : ℕ) (xs ys : List ℕ) → length ys ≡ v → a + v ≤ length xs → take (a + v) (put_mid a (a + v - a) xs ys) ≡ take a xs ++ ys
take_put_more a v xs ys size fits =
    let front : length (take a xs) ≡ a = omega (arith, length-take a xs, fits) in
    let both : length (take a xs ++ ys) ≡ a + v = omega (arith, length-append (take a xs) ys, front, size) in
    ap (take (a + v)) (sym (append_assoc (take a xs) ys (post_of a (a + v - a) xs)))
    ∙ take_at (take a xs ++ ys) (post_of a (a + v - a) xs) (a + v) both

-- a list whose parts are these is all of them, one behind the other
pub flat_by_parts : (f : ℕ → List ℕ) (v from n : ℕ) (xs : List ℕ) → length xs ≡ n * v → ((i : ℕ) → i < n → take v (drop (i * v) xs) ≡ f (from + i)) → xs ≡ flat_map f (range_with_len from n)
flat_by_parts f v from zero xs size each = nil_from_length xs (omega (arith, size))
flat_by_parts f v from (suc n) xs size each =
    let none : 0 ≡ 0 * v = omega arith in
    let first : take v xs ≡ f from = ap (λ (k : ℕ). take v (drop k xs)) none ∙ each 0 (omega arith) ∙ ap f (let e : from + 0 ≡ from = omega arith in e) in
    let left : length (drop v xs) ≡ n * v = omega (arith, size, length-drop v xs) in
    let rest : drop v xs ≡ flat_map f (range_with_len (from + 1) n) =
    flat_by_parts f v (from + 1) n (drop v xs) left
    (λ (i : ℕ) (below : i < n).
    let sum : v + i * v ≡ suc i * v = omega arith in
    ap (take v) (drop-drop (i * v) v xs ∙ ap (λ (k : ℕ). drop k xs) sum) ∙ each (suc i) (omega (arith, below))
    ∙ ap f (let e : from + suc i ≡ from + 1 + i = omega arith in e)) in
    sym (take-append-drop v xs) ∙ ap (λ (ys : List ℕ). ys ++ drop v xs) first ∙ ap (λ (ys : List ℕ). f from ++ ys) rest

-- what is said of the first bad one

abbrev pub IsNotBad : Verdict → Type 0
IsNotBad v = (what : What) → v ≡ Bad what → ⊥

good_is_not_bad : (v : Verdict) → v ≡ Good → IsNotBad v
good_is_not_bad v good what bad =
    let wrong : Good ≡ Bad what = sym good ∙ bad in
    cc

next_bad : (v : Verdict) (vs : List Verdict) → IsNotBad v → first_bad (v ∷ vs) ≡ first_bad vs
next_bad Good vs other = refl
next_bad (Bad what) vs other = absurd (other what refl)
next_bad Void vs other = refl

-- where none is bad
pub none_bad : (f : ℕ → Verdict) (from n : ℕ) → ((i : ℕ) → from ≤ i → i < from + n → IsNotBad (f i)) → first_bad (map f (range_with_len from n)) ≡ Good
none_bad f from zero each = refl
none_bad f from (suc n) each =
    next_bad (f from) (map f (range_with_len (from + 1) n)) (each from (omega arith) (omega arith))
    ∙ none_bad f (from + 1) n (λ (i : ℕ) (least : from + 1 ≤ i) (below : i < from + 1 + n). each i (omega (arith, least)) (omega (arith, below)))

-- where all are good
pub all_good : (f : ℕ → Verdict) (from n : ℕ) → ((i : ℕ) → from ≤ i → i < from + n → f i ≡ Good) → first_bad (map f (range_with_len from n)) ≡ Good
all_good f from n each =
    none_bad f from n (λ (i : ℕ) (least : from ≤ i) (below : i < from + n). good_is_not_bad (f i) (each i least below))

-- where the first bad one is this
pub bad_at : (f : ℕ → Verdict) (from n i : ℕ) (what : What) → from ≤ i → i < from + n → ((k : ℕ) → from ≤ k → k < i → IsNotBad (f k)) → f i ≡ Bad what → first_bad (map f (range_with_len from n)) ≡ Bad what
bad_at f from zero i what least below before bad = absurd (omega (arith, least, below))
bad_at f from (suc n) i what least below before bad =
    elim (cases_lt from i) [
      | inl more ↦
          let next : from + 1 ≤ i = omega (arith, more) in
          next_bad (f from) (map f (range_with_len (from + 1) n)) (before from (omega arith) more)
          ∙ bad_at f (from + 1) n i what next (omega (arith, below))
          (λ (k : ℕ) (low : from + 1 ≤ k) (high : k < i). before k (omega (arith, low)) high) bad
      | inr most ↦
          let here : from ≡ i = omega (arith, least, most) in
          ap (λ (w : Verdict). first_bad (w ∷ map f (range_with_len (from + 1) n))) (ap f here ∙ bad)
    ]

-- where none was found, all are good that say something
pub good_each : (f : ℕ → Verdict) (from n i : ℕ) → ((k : ℕ) → is_void (f k) ≡ false) → first_bad (map f (range_with_len from n)) ≡ Good → i < n → f (from + i) ≡ Good
good_each f from zero i speaks good below = absurd (omega (arith, below))
good_each f from (suc n) i speaks good below = at (f from) refl good i below (λ k rest less. good_each f (from + 1) n k speaks rest less)
  where
    at : (v : Verdict) → f from ≡ v → first_bad (v ∷ map f (range_with_len (from + 1) n)) ≡ Good → (k : ℕ) → k < suc n
        → ((k : ℕ) → first_bad (map f (range_with_len (from + 1) n)) ≡ Good → k < n → f (from + 1 + k) ≡ Good) → f (from + k) ≡ Good
    at Good is rest zero less more = ap f (let e : from + 0 ≡ from = omega arith in e) ∙ is
    at Good is rest (suc k) less more =
        ap f (let e : from + suc k ≡ from + 1 + k = omega arith in e) ∙ more k rest (omega (arith, less))
    at (Bad what) is rest k less more = absurd (cc)
    at Void is rest k less more =
        let wrong : true ≡ false = sym (ap is_void is) ∙ speaks from in
        absurd (cc)

-- a good chunk is good by its header
pub good_in_chunk : (i : ℕ) (v : Verdict) → in_chunk i v ≡ Good → v ≡ Good
good_in_chunk i Good h = refl
good_in_chunk i (Bad Header) h = absurd (cc)
good_in_chunk i (Bad Digest) h = absurd (cc)
good_in_chunk i (Bad DataArea) h = absurd (cc)
good_in_chunk i (Bad (Byte n)) h = absurd (cc)
good_in_chunk i (Bad (Chunk n found)) h = absurd (cc)
good_in_chunk i Void h = absurd (cc)
