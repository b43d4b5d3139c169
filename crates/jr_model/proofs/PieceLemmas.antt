-- Pieces: where two share bytes, and what is known of one that can be carried out.
use Rattle.std.proofs.Common.{◌≡◌, ℕ, ◌+◌, ◌*◌, ◌/◌, ◌%◌, ◌^◌, ◌<◌, ◌≤◌, min, max, Bool, true, false, cond, ◌&&◌, refl, sym, ap, ◌∙◌, arith}
use Rattle.std.specs.Prelude.{nat_lt, nat_le, ◌==◌}
use Rattle.std.proofs.Math.Nat.{zero-mod}
use Rattle.std.proofs.lemmas.Bool.{and_parts, and_from, eq-eqb, eqb-true, lt-ltb, ltb-true, leb-true}
use Rattle.std.proofs.lemmas.Nat.{div-add-mod', mul-mod_second}
use Rattle.jr_model.specs.declared.blocks.Piece.{Piece}
use Rattle.jr_model.specs.declared.contents.VerifyKind.{VerifyKind}
use Rattle.jr_model.specs.declared.contents.VerifyKind.TheVariants as verify
use Rattle.jr_model.specs.declared.limits.TheConstants.{SECTOR, LARGEST_BLOCK, LARGEST_END}
use Rattle.jr_model.specs.LastWrite.{covers_block}
use Rattle.jr_model.specs.Pieces.{piece_end, pieces_overlap}
use Rattle.jr_model.specs.Tickets.{piece_fits, has_whole_chunks, interval_fits}

-- sharing a byte goes both ways
pub overlap_turned : (a b : Piece) → pieces_overlap a b ≡ true → pieces_overlap b a ≡ true
overlap_turned a b h =
    let parts = and_parts (a.file == b.file) (nat_lt (max a.offset b.offset) (min (piece_end a) (piece_end b))) h in
    let shared : max a.offset b.offset < min (piece_end a) (piece_end b) = ltb-true (max a.offset b.offset) (min (piece_end a) (piece_end b)) parts.1 in
    and_from (b.file == a.file) (nat_lt (max b.offset a.offset) (min (piece_end b) (piece_end a)))
    (eq-eqb b.file a.file (sym (eqb-true a.file b.file parts.0)))
    (lt-ltb (max b.offset a.offset) (min (piece_end b) (piece_end a)) (omega (arith, shared)))

-- what is known of a piece that covers a block
pub record Covers (p : Piece) (f b : ℕ) : Type 0 where
  pub file : p.file ≡ f
  pub low : p.offset ≤ b * SECTOR
  pub high : b * SECTOR < p.offset + p.len

pub covers_parts : (p : Piece) (f b : ℕ) → covers_block p f b ≡ true → Covers p f b
covers_parts p f b h =
    let parts = and_parts ((p.file == f) && nat_le p.offset (b * SECTOR)) (nat_lt (b * SECTOR) (p.offset + p.len)) h in
    let front = and_parts (p.file == f) (nat_le p.offset (b * SECTOR)) parts.0 in
    record {
      file = eqb-true p.file f front.0;
      low = leb-true p.offset (b * SECTOR) front.1;
      high = ltb-true (b * SECTOR) (p.offset + p.len) parts.1;
    }

between : (x a b c d : ℕ) → a ≤ x → b ≤ x → x < c → x < d → max a b < min c d
between x a b c d p q r s = omega arith

-- two pieces that cover one block overlap
pub shared_block : (a b : Piece) (file block : ℕ) → covers_block a file block ≡ true → covers_block b file block ≡ true
    → pieces_overlap a b ≡ true
shared_block p q f b h k =
    let one = covers_parts p f b h in
    let two = covers_parts q f b k in
    and_from (p.file == q.file) (nat_lt (max p.offset q.offset) (min (p.offset + p.len) (q.offset + q.len)))
    (eq-eqb p.file q.file (one.file ∙ sym two.file))
    (lt-ltb (max p.offset q.offset) (min (p.offset + p.len) (q.offset + q.len))
    (between (b * SECTOR) p.offset q.offset (p.offset + p.len) (q.offset + q.len) one.low two.low one.high two.high))

-- a piece that can be carried out is a block at most
pub fitting_is_short : (piece : Piece) → piece_fits piece ≡ true → piece.len ≤ LARGEST_BLOCK
fitting_is_short p fits =
    let a = nat_lt 0 p.len in
    let b = nat_le p.len LARGEST_BLOCK in
    let c = p.len % SECTOR == 0 in
    let d = p.offset % SECTOR == 0 in
    let at_d = and_parts (a && b && c && d) (nat_le (p.offset + p.len) LARGEST_END) fits in
    let at_c = and_parts (a && b && c) d at_d.0 in
    let at_b = and_parts (a && b) c at_c.0 in
    leb-true p.len LARGEST_BLOCK (and_parts a b at_b.0).1

pub fitting_is_small : (piece : Piece) → piece_fits piece ≡ true → piece.len ≤ 2 ^ 24
fitting_is_small piece fits = omega (arith, fitting_is_short piece fits)

-- an interval that divides the cell divides whole cells
chunks_of_cells : (interval cell len : ℕ) → len % cell ≡ 0 → has_whole_chunks interval cell ≡ true → has_whole_chunks interval len ≡ true
chunks_of_cells interval cell len whole fits = by (interval == 0) fits
  where
    by : (b : Bool) → cond b true ((interval % SECTOR == 0) && (cell % interval == 0)) ≡ true → cond b true ((interval % SECTOR == 0) && (len % interval == 0)) ≡ true
    by true h = refl
    by false h =
        let parts = and_parts (interval % SECTOR == 0) (cell % interval == 0) h in
        let none : cell % interval ≡ 0 = eqb-true (cell % interval) 0 parts.1 in
        let cells : len / cell * cell ≡ len = omega (arith, div-add-mod' len cell, whole) in
        let left : len % interval ≡ 0 =
        ap (λ (n : ℕ). n % interval) (sym cells) ∙ sym (mul-mod_second (len / cell) cell interval)
        ∙ ap (λ (r : ℕ). (len / cell * r) % interval) none ∙ ap (λ (r : ℕ). r % interval) (let e : len / cell * 0 ≡ 0 = omega arith in e) ∙ zero-mod interval in
        and_from (interval % SECTOR == 0) (len % interval == 0) parts.0 (eq-eqb (len % interval) 0 left)

pub interval_of_cells : (kind : VerifyKind) (interval cell len : ℕ) → len % cell ≡ 0 → interval_fits kind interval cell ≡ true
    → interval_fits kind interval len ≡ true
interval_of_cells verify.Plain interval cell len whole fits = refl
interval_of_cells verify.Pattern interval cell len whole fits = refl
interval_of_cells verify.Md5 interval cell len whole fits = chunks_of_cells interval cell len whole fits
interval_of_cells verify.Sha1 interval cell len whole fits = chunks_of_cells interval cell len whole fits
interval_of_cells verify.Sha256 interval cell len whole fits = chunks_of_cells interval cell len whole fits
