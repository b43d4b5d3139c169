-- Which blocks a piece has a byte in, by division.
use Rattle.std.proofs.Common.{◌≡◌, ℕ, ◌+◌, ◌-◌, ◌*◌, ◌/◌, ◌<◌, ◌≤◌, min, max, Bool, true, false, sym, ap, ◌∙◌, arith, inl, inr}
use Rattle.std.specs.Prelude.{◌==◌, ◌&&◌, ◌||◌, nat_le, nat_lt}
use Rattle.std.proofs.lemmas.Nat.{le-div, div_below}
use Rattle.std.proofs.lemmas.Bool.{and_cases, and_from, and_parts, and_left, and_right, cases_lt, ltb-true, ltb-false, lt-ltb, le-ltb, le-leb, lt-leb, eq-eqb, eqb-true}
use Rattle.std.proofs.lemmas.Bool.Decides.{nat_tests}
use Rattle.jr_model.specs.declared.blocks.Piece.{Piece}
use Rattle.jr_model.specs.Pieces.{pieces_overlap}
use Rattle.jr_report_maps.specs.BadBlocks.{block_piece}

-- a quotient is at most a number exactly where the dividend is below the next multiple
below_next : (n size block : ℕ) → 0 < size → n < block * size + size → n / size ≤ block
below_next n size block some low =
    let wide : (block + 1) * size ≡ block * size + size = grind arith in
    let under : n / size < block + 1 = div_below n size (block + 1) some (omega (arith, wide, low)) in
    omega (arith, under)

past_next : (n size block : ℕ) → 0 < size → block * size + size ≤ n → block < n / size
past_next n size block some high =
    let wide : (block + 1) * size ≡ block * size + size = grind arith in
    let over : block + 1 ≤ n / size = le-div (block + 1) n size some (omega (arith, wide, high)) in
    omega (arith, over)

-- the last block of n bytes
at_last : (n size block : ℕ) → 0 < size → block * size ≤ n → block ≤ n / size
at_last n size block some low = le-div block n size some low

-- a piece with bytes has one in the blocks from its first one up to its last one
pub overlap_is : (p : Piece) (file size block : ℕ) → p.file ≡ file → 0 < p.len → 0 < size
    → pieces_overlap p (block_piece file size block) ≡ (nat_le (p.offset / size) block && nat_lt block ((p.offset + p.len - 1) / size + 1))
overlap_is p file size block same bytes some = elim (cases_lt p.offset (block * size + size)) [
  | inl low ↦ elim (cases_lt (block * size) (p.offset + p.len)) [
    | inl high ↦
        let shared : nat_lt (max p.offset (block * size)) (min (p.offset + p.len) (block * size + size)) ≡ true = lt-ltb _ _ (omega (arith, low, high, bytes, some)) in
        let reach : nat_le (p.offset / size) block ≡ true = le-leb _ _ (below_next p.offset size block some low) in
        let under : nat_lt block ((p.offset + p.len - 1) / size + 1) ≡ true =
        lt-ltb _ _ (omega (arith, at_last (p.offset + p.len - 1) size block some (omega (arith, high)))) in
        and_from _ _ (eq-eqb p.file file same) shared ∙ sym (and_from _ _ reach under)
    | inr over ↦
        let apart : nat_lt (max p.offset (block * size)) (min (p.offset + p.len) (block * size + size)) ≡ false = le-ltb _ _ (omega (arith, over)) in
        let past : nat_lt block ((p.offset + p.len - 1) / size + 1) ≡ false =
        le-ltb _ _ (omega (arith, div_below (p.offset + p.len - 1) size block some (omega (arith, over, bytes)))) in
        and_right _ _ apart ∙ sym (and_right _ _ past)
  ]
  | inr high ↦
      let apart : nat_lt (max p.offset (block * size)) (min (p.offset + p.len) (block * size + size)) ≡ false = le-ltb _ _ (omega (arith, high)) in
      let past : nat_le (p.offset / size) block ≡ false = lt-leb _ _ (past_next p.offset size block some high) in
      and_right _ _ apart ∙ sym (and_left _ _ past)
]

-- a piece with no bytes of the file has none in any of its blocks
pub no_overlap : (p : Piece) (file size block : ℕ) → ((p.file == file) && nat_lt 0 p.len) ≡ false → pieces_overlap p (block_piece file size block) ≡ false
no_overlap p file size block none = elim (and_cases (p.file == file) (nat_lt 0 p.len) none) [
  | inl other ↦ and_left _ _ other
  | inr empty ↦
      let without : p.len ≤ 0 = ltb-false 0 p.len empty in
      let apart : nat_lt (max p.offset (block * size)) (min (p.offset + p.len) (block * size + size)) ≡ false = le-ltb _ _ (omega (arith, without)) in
      and_right _ _ apart
]

-- a block that it has a byte in reaches past its begin
pub over_reaches : (p : Piece) (file size block : ℕ) → pieces_overlap p (block_piece file size block) ≡ true → p.offset < block * size + size
over_reaches p file size block over =
    let shared : max p.offset (block * size) < min (p.offset + p.len) (block * size + size) =
    ltb-true _ _ (and_parts (p.file == file) (nat_lt (max p.offset (block * size)) (min (p.offset + p.len) (block * size + size))) over).1 in
    omega (arith, shared)

from_both : (next first end block : ℕ) → (nat_le (max next first) block && nat_lt block end) ≡ (nat_le next block && (nat_le first block && nat_lt block end))
from_both next first end block = grind (arith, nat_tests)

-- from `next` on its blocks are those from the greater of the two on
pub piece_listed : (p : Piece) (file size next from end block : ℕ) (a : Bool) → ((p.file == file) && nat_lt 0 p.len) ≡ true → 0 < size
    → from ≡ max next (p.offset / size) → end ≡ (p.offset + p.len - 1) / size + 1
    → (a || (nat_le from block && nat_lt block end)) ≡ (a || (nat_le next block && pieces_overlap p (block_piece file size block)))
piece_listed p file size next from end block a has some is_from is_end =
    let parts = and_parts (p.file == file) (nat_lt 0 p.len) has in
    let over = overlap_is p file size block (eqb-true p.file file parts.0) (ltb-true 0 p.len parts.1) some in
    ap (λ (x : ℕ). a || (nat_le x block && nat_lt block end)) is_from
    ∙ ap (λ (b : Bool). a || b) (from_both next (p.offset / size) end block)
    ∙ ap (λ (x : ℕ). a || (nat_le next block && (nat_le (p.offset / size) block && nat_lt block x))) is_end
    ∙ ap (λ (b : Bool). a || (nat_le next block && b)) (sym over)

pub piece_reached : (p : Piece) (file size next from end until block : ℕ) → ((p.file == file) && nat_lt 0 p.len) ≡ true → 0 < size
    → from ≡ max next (p.offset / size) → end ≡ (p.offset + p.len - 1) / size + 1 → until ≡ max from end
    → next ≤ block → block < until → p.offset < block * size + size → pieces_overlap p (block_piece file size block) ≡ true
piece_reached p file size next from end until block has some is_from is_end is_until low high reach =
    let parts = and_parts (p.file == file) (nat_lt 0 p.len) has in
    let first : p.offset / size ≤ block = below_next p.offset size block some reach in
    let under : block < (p.offset + p.len - 1) / size + 1 = omega (arith, is_from, is_end, is_until, low, high, first) in
    overlap_is p file size block (eqb-true p.file file parts.0) (ltb-true 0 p.len parts.1) some
    ∙ and_from _ _ (le-leb _ _ first) (lt-ltb _ _ under)
