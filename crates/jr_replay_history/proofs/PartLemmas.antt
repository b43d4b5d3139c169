-- The ends of writes over a block are among those over its part.
use Rattle.std.proofs.Common.{◌≡◌, ℕ, ◌+◌, ◌*◌, ◌/◌, ◌%◌, ◌<◌, ◌≤◌, List, [], ◌∷◌, Bool, true, false, cond, ◌&&◌, refl, sym, ap, ◌∙◌, arith, eq-eqb, ltb-true}
use Rattle.std.specs.Prelude.{Option, nat_lt, nat_le, ◌==◌, filter, fold}
use Rattle.std.proofs.lemmas.Bool.{and_parts, and_from, eqb-true, leb-true, le-leb, lt-ltb}
use Rattle.std.proofs.lemmas.Grind.{div_ceil_times}
use Rattle.std.proofs.lemmas.Nat.{div-add-mod', mod_below}
use Rattle.jr_model.specs.declared.events.WriteId.{WriteId}
use Rattle.jr_replay_history.specs.declared.marks.WriteEnd.{WriteEnd}
use Rattle.jr_replay_history.specs.Parts.{first_part, is_over_part, part_count, part_of}
use Rattle.jr_replay_history.specs.WriteEnds.{if_whole, is_over_block, last_by}

-- where a byte lies from an offset on, so does its part
from_first : (offset q r block p s : ℕ) → q * 65536 + r ≡ offset → p * 128 + s ≡ block → s < 128 → offset ≤ block * 512 → q ≤ p
from_first offset q r block p s first own small low = omega (arith, first, own, small, low)

-- and where it lies before an end
to_last : (offset len q r block p s c : ℕ) → q * 65536 + r ≡ offset → p * 128 + s ≡ block → r + len ≤ c * 65536 → block * 512 < offset + len → p < q + c
to_last offset len q r block p s c first own most low = omega (arith, first, own, most, low)

-- the end of a write over a block is over its part
pub over_part : (file block : ℕ) (end : WriteEnd) → is_over_block file block end ≡ true → is_over_part file (part_of block) end ≡ true
over_part file block end over =
    let offset : ℕ = end.piece.offset in
    let len : ℕ = end.piece.len in
    let two = and_parts ((end.piece.file == file) && nat_le offset (block * 512)) (nat_lt (block * 512) (offset + len)) over in
    let one = and_parts (end.piece.file == file) (nat_le offset (block * 512)) two.0 in
    let same : file ≡ end.piece.file = sym (eqb-true end.piece.file file one.0) in
    let ceiling = div_ceil_times (offset % 65536 + len) 65536 (omega arith) in
    and_from (file == end.piece.file) (nat_le (first_part end.piece) (part_of block) && nat_lt (part_of block) (first_part end.piece + part_count end.piece))
    (eq-eqb file end.piece.file same)
    (and_from (nat_le (first_part end.piece) (part_of block)) (nat_lt (part_of block) (first_part end.piece + part_count end.piece))
    (le-leb (first_part end.piece) (part_of block)
    (from_first offset (offset / 65536) (offset % 65536) block (block / 128) (block % 128) (div-add-mod' offset 65536) (div-add-mod' block 128) (mod_below block 128 (omega arith)) (leb-true offset (block * 512) one.1)))
    (lt-ltb (part_of block) (first_part end.piece + part_count end.piece)
    (to_last offset len (offset / 65536) (offset % 65536) block (block / 128) (block % 128) (part_count end.piece) (div-add-mod' offset 65536) (div-add-mod' block 128) ceiling.0 (ltb-true (block * 512) (offset + len) two.1))))

not_over : (file block : ℕ) (end : WriteEnd) (over : Bool) → is_over_block file block end ≡ over → is_over_part file (part_of block) end ≡ false → over ≡ false
not_over file block end false is apart = refl
not_over file block end true is apart = let here = over_part file block end is in cc

-- so a block's last write is the same by the ends over its part
pub last_over_part : (raced : ℕ → Bool) (file block : ℕ) (last : Option WriteId) (ends : List WriteEnd) → fold (last_by raced file block) last (filter (is_over_part file (part_of block)) ends) ≡ fold (last_by raced file block) last ends
last_over_part raced file block last [] = refl
last_over_part raced file block last (end ∷ ends) =
    by_test (is_over_part file (part_of block) end) refl (λ (before : Option WriteId). last_over_part raced file block before ends)
  where
    rest : List WriteEnd
    rest = filter (is_over_part file (part_of block)) ends

    by_test : (over : Bool) → is_over_part file (part_of block) end ≡ over → ((before : Option WriteId) → fold (last_by raced file block) before rest ≡ fold (last_by raced file block) before ends) → fold (last_by raced file block) last (cond over (end ∷ rest) rest) ≡ fold (last_by raced file block) (last_by raced file block last end) ends
    by_test true is others = others (last_by raced file block last end)
    by_test false is others =
        others last
        ∙ ap (λ (o : Option WriteId). fold (last_by raced file block) o ends)
        (sym (ap (λ (b : Bool). cond b (if_whole raced end) last) (not_over file block end (is_over_block file block end) refl is)))
