-- A memory of files: what a write into it leaves, that it goes on to hold the last writes, and what a check reads there.
use Rattle.std.proofs.Common.{◌≡◌, ℕ, zero, suc, ◌+◌, ◌-◌, ◌*◌, ◌%◌, ◌≤◌, List, [], ◌∷◌, ◌++◌, length, take, drop, Bool, true, false, cond, ◌&&◌, refl, sym, ◌∙◌, ap, subst, arith, inl, inr, not}
use Rattle.std.specs.Prelude.{◌⊎◌, Option, Some, None, slice_get, nat_le, ◌==◌}
use Rattle.std.specs.Option.{option_map}
use Rattle.std.proofs.lemmas.Bool.{and_parts, and_from, false≢true, eqb-true, eq-eqb, leb-true, le-leb, cases_Bool, cases_eq, cases_lt}
use Rattle.std.proofs.lemmas.List.{length-take-le, length-drop, length-replicate, drop-drop}
use Rattle.std.proofs.lemmas.Option.{slice_get-map, same_Some}
use Rattle.jr_model.specs.declared.blocks.Piece.{Piece}
use Rattle.jr_model.specs.declared.events.Event.{Event}
use Rattle.jr_model.specs.declared.events.Event.TheVariants.{End}
use Rattle.jr_model.specs.declared.events.Outcome.{Outcome}
use Rattle.jr_model.specs.declared.events.Started.{Started}
use Rattle.jr_model.specs.declared.events.WriteId.{WriteId}
use Rattle.jr_model.specs.History.{started, outcome_of, is_probe, is_write, ended_whole}
use Rattle.jr_model.specs.Honest.{block_bytes, written_in}
use Rattle.jr_model.specs.LastWrite.{covers_block, last_after_end, last_after, last_write}
use Rattle.jr_model.specs.Legal.{is_legal}
use Rattle.jr_model.specs.Machine.{content_of_io}
use Rattle.jr_model.specs.Plan.{Plan, FileSpec}
use Rattle.jr_model.specs.Replies.{FileBytes, covered_in, covers, stored_in, stored, placed, file_with, memory_with, fresh_file, fresh_memory}
use Rattle.jr_model.specs.PlanFacts.{IsPlanned}
use Rattle.jr_laws_bytes.specs.Memory.{CoversFiles, HoldsLastWrites}
use Rattle.jr_model.specs.Races.{has_raced}
use Rattle.jr_laws_bytes.proofs.Blocks.{part_of_take, length-placed, before-placed, behind-placed, within-placed}
use Rattle.jr_laws_bytes.proofs.Starts.{draw_started}
use Rattle.jr_laws_bytes.proofs.Contents.{LiesInFile, lies_in_file, length-content_of_io, written_in-content, block_of, covers_from, same_by_blocks}
use Rattle.jr_laws_bytes.proofs.LastWrites.{last_write-more, checks_are_intact}

-- what a memory covers

-- the memory has the file, with these bytes in it
pub record HasRange (memory : List FileBytes) (file offset n : ℕ) : Type 0 where
  pub found : FileBytes
  pub there : slice_get memory file ≡ Some found
  pub low : found.low ≤ offset
  pub high : offset + n ≤ found.high
  pub size : length found.bytes ≡ found.high - found.low

range_in : (memory : List FileBytes) (file offset n : ℕ) (o : Option FileBytes) → slice_get memory file ≡ o → covered_in o offset n ≡ true → HasRange memory file offset n
range_in memory file offset n None at h = absurd (false≢true h)
range_in memory file offset n (Some found) at h =
    let two = and_parts (nat_le found.low offset && nat_le (offset + n) found.high) (length found.bytes == found.high - found.low) h in
    let one = and_parts (nat_le found.low offset) (nat_le (offset + n) found.high) two.0 in record {
      found = found;
      there = at;
      low = leb-true found.low offset one.0;
      high = leb-true (offset + n) found.high one.1;
      size = eqb-true (length found.bytes) (found.high - found.low) two.1;
    }

pub has_range : (memory : List FileBytes) (file offset n : ℕ) → covers memory file offset n ≡ true → HasRange memory file offset n
has_range memory file offset n h = range_in memory file offset n (slice_get memory file) refl h

pub covers_from_range : (memory : List FileBytes) (file offset n : ℕ) → HasRange memory file offset n → covers memory file offset n ≡ true
covers_from_range memory file offset n range =
    let found = range.found in
    ap (λ (o : Option FileBytes). covered_in o offset n) range.there
    ∙ and_from (nat_le found.low offset && nat_le (offset + n) found.high) (length found.bytes == found.high - found.low)
    (and_from (nat_le found.low offset) (nat_le (offset + n) found.high) (le-leb found.low offset range.low) (le-leb (offset + n) found.high range.high))
    (eq-eqb (length found.bytes) (found.high - found.low) range.size)

-- with a range it covers each part of it
pub covers_part : (memory : List FileBytes) (file offset n part m : ℕ) → covers memory file offset n ≡ true → offset ≤ part → part + m ≤ offset + n → covers memory file part m ≡ true
covers_part memory file offset n part m h low high =
    let range = has_range memory file offset n h in
    covers_from_range memory file part m (record {
      found = range.found;
      there = range.there;
      low = omega (arith, range.low, low);
      high = omega (arith, range.high, high);
      size = range.size;
    })

pub covers_piece : (plan : Plan) (memory : List FileBytes) (piece : Piece) → CoversFiles plan memory → LiesInFile plan piece → covers memory piece.file piece.offset piece.len ≡ true
covers_piece plan memory piece covered lies =
    let spec = lies.spec in
    covers_part memory piece.file spec.low (spec.high - spec.low) piece.offset piece.len (covered piece.file spec lies.file) lies.low (omega (arith, lies.high, lies.low))

-- a memory of zeros covers the files that it was made for
pub covers-fresh_memory : (plan : Plan) → IsPlanned plan → CoversFiles plan (fresh_memory plan.files)
covers-fresh_memory plan planned file spec at =
    let ends = planned.drafted.ends file spec at in
    covers_from_range (fresh_memory plan.files) file spec.low (spec.high - spec.low) (record {
      found = fresh_file spec;
      there = slice_get-map fresh_file plan.files file ∙ ap (λ (o : Option FileSpec). option_map fresh_file o) at;
      low = omega arith;
      high = omega (arith, ends.0);
      size = length-replicate (spec.high - spec.low) 0;
    })

-- what a write into the memory leaves

pub memory_with-same : (memory : List FileBytes) (file offset : ℕ) (new : List ℕ) (found : FileBytes) → slice_get memory file ≡ Some found → slice_get (memory_with memory file offset new) file ≡ Some (file_with found offset new)
memory_with-same [] file offset new found at = cc
memory_with-same (first ∷ files) zero offset new found at = ap (λ (f : FileBytes). Some (file_with f offset new)) (same_Some first found at)
memory_with-same (first ∷ files) (suc file) offset new found at = memory_with-same files file offset new found at

pub memory_with-other : (memory : List FileBytes) (file offset other : ℕ) (new : List ℕ) → (other ≡ file → ⊥) → slice_get (memory_with memory file offset new) other ≡ slice_get memory other
memory_with-other [] file offset other new differ = refl
memory_with-other (first ∷ files) zero offset zero new differ = absurd (differ refl)
memory_with-other (first ∷ files) zero offset (suc other) new differ = refl
memory_with-other (first ∷ files) (suc file) offset zero new differ = refl
memory_with-other (first ∷ files) (suc file) offset (suc other) new differ =
    memory_with-other files file offset other new (λ (same : other ≡ file). differ (ap suc same))

-- a write of new bytes over a range that the memory covers
module _ (memory : List FileBytes) (file offset : ℕ) (new : List ℕ) (covered : covers memory file offset (length new) ≡ true) where
  fits : (range : HasRange memory file offset (length new)) → offset - range.found.low + length new ≤ length range.found.bytes
  fits range = omega (arith, range.low, range.high, range.size)

  -- it covers what it covered
  pub covers-memory_with : (other part m : ℕ) → covers memory other part m ≡ true → covers (memory_with memory file offset new) other part m ≡ true
  covers-memory_with other part m h = elim (cases_eq other file) [
    | inl same ↦
        let range = has_range memory file offset (length new) covered in
        let old = has_range memory other part m h in
        let one : range.found ≡ old.found = same_Some range.found old.found (sym range.there ∙ ap (slice_get memory) (sym same) ∙ old.there) in
        let low : range.found.low ≡ old.found.low = ap (λ (f : FileBytes). f.low) one in
        let high : range.found.high ≡ old.found.high = ap (λ (f : FileBytes). f.high) one in
        covers_from_range (memory_with memory file offset new) other part m (record {
          found = file_with range.found offset new;
          there = ap (slice_get (memory_with memory file offset new)) same ∙ memory_with-same memory file offset new range.found range.there;
          low = omega (arith, low, old.low);
          high = omega (arith, high, old.high);
          size = length-placed range.found.bytes new (offset - range.found.low) (fits range) ∙ range.size;
        })
    | inr differ ↦
        ap (λ (o : Option FileBytes). covered_in o part m) (memory_with-other memory file offset other new differ) ∙ h
  ]

  -- another file is as it was
  pub stored-other : (other part m : ℕ) → (other ≡ file → ⊥) → stored (memory_with memory file offset new) other part m ≡ stored memory other part m
  stored-other other part m differ =
      ap (λ (o : Option FileBytes). stored_in o part m) (memory_with-other memory file offset other new differ)

  found_bytes : (range : HasRange memory file offset (length new)) (part m : ℕ) → stored (memory_with memory file offset new) file part m ≡ take m (drop (part - range.found.low) (placed range.found.bytes (offset - range.found.low) new))
  found_bytes range part m =
      ap (λ (o : Option FileBytes). stored_in o part m) (memory_with-same memory file offset new range.found range.there)

  old_bytes : (range : HasRange memory file offset (length new)) (part m : ℕ) → stored memory file part m ≡ take m (drop (part - range.found.low) range.found.bytes)
  old_bytes range part m = ap (λ (o : Option FileBytes). stored_in o part m) range.there

  -- so is what lies before the range or behind it
  pub stored-apart : (part m : ℕ) → covers memory file part m ≡ true → (part + m ≤ offset) ⊎ (offset + length new ≤ part) → stored (memory_with memory file offset new) file part m ≡ stored memory file part m
  stored-apart part m h apart =
      let range = has_range memory file offset (length new) covered in
      let old = has_range memory file part m h in
      let one : range.found ≡ old.found = same_Some range.found old.found (sym range.there ∙ old.there) in
      let low : range.found.low ≡ old.found.low = ap (λ (f : FileBytes). f.low) one in
      found_bytes range part m
      ∙ elim apart [
        | inl before ↦
            before-placed range.found.bytes new (offset - range.found.low) m (part - range.found.low) (fits range)
            (omega (arith, before, low, old.low, range.low))
        | inr behind ↦
            behind-placed range.found.bytes new (offset - range.found.low) m (part - range.found.low) (fits range)
            (omega (arith, behind, low, old.low, range.low))
      ]
      ∙ sym (old_bytes range part m)

  -- and within the range stand the new bytes
  pub stored-within : (part m : ℕ) → offset ≤ part → part + m ≤ offset + length new → stored (memory_with memory file offset new) file part m ≡ take m (drop (part - offset) new)
  stored-within part m low high =
      let range = has_range memory file offset (length new) covered in
      let at : part - range.found.low - (offset - range.found.low) ≡ part - offset = omega (arith, range.low, low) in
      found_bytes range part m
      ∙ within-placed range.found.bytes new (offset - range.found.low) m (part - range.found.low) (fits range)
      (omega (arith, low, range.low)) (omega (arith, high, range.low, low))
      ∙ ap (λ (j : ℕ). take m (drop j new)) at

-- a memory that covers the plan's files goes on to
pub covers_files-memory_with : (plan : Plan) (memory : List FileBytes) (file offset : ℕ) (new : List ℕ) → covers memory file offset (length new) ≡ true → CoversFiles plan memory → CoversFiles plan (memory_with memory file offset new)
covers_files-memory_with plan memory file offset new within covered other spec at =
    covers-memory_with memory file offset new within other spec.low (spec.high - spec.low) (covered other spec at)

-- a memory that holds the last writes

-- the end of a write
after_write : (covered whole : Bool) (own write : WriteId) (last : Option WriteId) → cond covered (cond whole (Some own) None) last ≡ Some write → (covered ≡ true) → (whole ≡ true) × (own ≡ write)
after_write covered true own write last h is = (refl, same_Some own write (sym (ap (λ (b : Bool). cond b (Some own) last) is) ∙ h))
after_write covered false own write last h is = absurd (none_some (sym (ap (λ (b : Bool). cond b None last) is) ∙ h))
  where
    none_some : None ≡ Some write → ⊥
    none_some e = cc

past_write : (covered : Bool) (x last : Option WriteId) (write : WriteId) → cond covered x last ≡ Some write → covered ≡ false → last ≡ Some write
past_write covered x last write h is = sym (ap (λ (b : Bool). cond b x last) is) ∙ h

not_covered : (piece : Piece) (block : ℕ) → piece.offset % 512 ≡ 0 → covers_block piece piece.file block ≡ false → (block * 512 + 512 ≤ piece.offset) ⊎ (piece.offset + piece.len ≤ block * 512)
not_covered piece block start h = elim (cases_lt (block * 512) piece.offset) [
  | inl before ↦ inl (omega (arith, before, start))
  | inr from ↦
      elim (cases_lt (block * 512) (piece.offset + piece.len)) [
        | inl below ↦ absurd (false≢true (sym h ∙ covers_from piece piece.file block refl from below))
        | inr behind ↦ inr behind
      ]
]

-- a write that ends stores its content where it ends whole, and else no more bytes than its piece has: then the memory
-- holds the last writes as before
pub holds_write : (plan : Plan) (history : List Event) (memory : List FileBytes) (worker id : ℕ) (outcome : Outcome) (s : Started) (new : List ℕ) → IsPlanned plan → is_legal plan history ≡ true → slice_get (started history) id ≡ Some s → is_write s.kind ≡ true → CoversFiles plan memory → HoldsLastWrites plan history memory → length new ≤ s.piece.len → (ended_whole (Some outcome) ≡ true → new ≡ content_of_io plan s) → HoldsLastWrites plan (history ++ End worker id outcome ∷ []) (memory_with memory s.piece.file s.piece.offset new)
holds_write plan history memory worker id outcome s new planned legal at writes covered holds short content file block write last =
    let piece = s.piece in
    let drawn = draw_started plan history id s legal at in
    let lies = lies_in_file plan s.write piece drawn.0 drawn.1 planned drawn.2 in
    let whole_piece = covers_piece plan memory piece covered lies in
    let within = covers_part memory piece.file piece.offset piece.len piece.offset (length new) whole_piece (omega arith) (omega (arith, short)) in
    let before : Option WriteId = last_write history file block in
    let whole = ended_whole (Some outcome) && not (has_raced history id) in
    let now : cond (covers_block piece file block) (cond whole (Some s.write) None) before ≡ Some write =
    ap (λ (w : Bool). cond (w && covers_block piece file block) (cond whole (Some s.write) None) before) (sym writes)
    ∙ ap (λ (o : Option Started). last_after_end (has_raced history id) o outcome file block before) (sym at)
    ∙ sym (last_write-more plan history (End worker id outcome) file block legal) ∙ last in
    elim (cases_Bool (covers_block piece file block)) [
      | inl inside ↦
          let ended = after_write (covers_block piece file block) whole s.write write before now inside in
          let own : new ≡ content_of_io plan s = content (and_parts (ended_whole (Some outcome)) (not (has_raced history id)) ended.0).0 in
          let size : length new ≡ piece.len = ap length own ∙ length-content_of_io plan s drawn.0 drawn.1 planned drawn.2 in
          let here = block_of piece file block inside in
          let high : block * 512 + 512 ≤ piece.offset + piece.len = omega (arith, here.below, lies.blocks.start, lies.blocks.size) in
          let there : covers memory piece.file (block * 512) 512 ≡ true =
          covers_part memory piece.file piece.offset piece.len (block * 512) 512 whole_piece here.low high in (
            subst (λ (f : ℕ). covers (memory_with memory piece.file piece.offset new) f (block * 512) 512 ≡ true) here.here
                (covers-memory_with memory piece.file piece.offset new within piece.file (block * 512) 512 there),
            ap (λ (f : ℕ). stored (memory_with memory piece.file piece.offset new) f (block * 512) 512) (sym here.here)
                ∙ stored-within memory piece.file piece.offset new within (block * 512) 512 here.low (omega (arith, high, size))
                ∙ ap (block_bytes piece block) own
                ∙ sym (written_in-content plan s drawn.0 drawn.1 block drawn.2)
                ∙ ap (λ (w : WriteId). written_in plan w block) ended.1,
          )
      | inr outside ↦
          let held = holds file block write (past_write (covers_block piece file block) (cond whole (Some s.write) None) before write now outside) in (
            covers-memory_with memory piece.file piece.offset new within file (block * 512) 512 held.0,
            elim (cases_eq file piece.file) [
              | inl same ↦
                  let apart = not_covered piece block lies.blocks.start (subst (λ (f : ℕ). covers_block piece f block ≡ false) same outside) in
                  let clear : (block * 512 + 512 ≤ piece.offset) ⊎ (piece.offset + length new ≤ block * 512) =
                  elim apart [ inl front ↦ inl front | inr behind ↦ inr (omega (arith, behind, short)) ] in
                  ap (λ (f : ℕ). stored (memory_with memory piece.file piece.offset new) f (block * 512) 512) same
                  ∙ stored-apart memory piece.file piece.offset new within (block * 512) 512
                  (subst (λ (f : ℕ). covers memory f (block * 512) 512 ≡ true) same held.0) clear
                  ∙ ap (λ (f : ℕ). stored memory f (block * 512) 512) (sym same)
                  ∙ held.1
              | inr differ ↦ stored-other memory piece.file piece.offset new within file (block * 512) 512 differ ∙ held.1
            ],
          )
    ]

-- an event that changes no last write leaves a memory that holds them
pub holds_on : (plan : Plan) (history : List Event) (memory : List FileBytes) (e : Event) → is_legal plan history ≡ true → ((file block : ℕ) (last : Option WriteId) → last_after (has_raced history) (started history) file block last e ≡ last) → HoldsLastWrites plan history memory → HoldsLastWrites plan (history ++ e ∷ []) memory
holds_on plan history memory e legal same holds file block write last =
    holds file block write (sym (same file block (last_write history file block)) ∙ sym (last_write-more plan history e file block legal) ∙ last)

-- so does the end of a read or a check
pub holds_read : (plan : Plan) (history : List Event) (memory : List FileBytes) (worker id : ℕ) (outcome : Outcome) (s : Started) → is_legal plan history ≡ true → slice_get (started history) id ≡ Some s → is_write s.kind ≡ false → HoldsLastWrites plan history memory → HoldsLastWrites plan (history ++ End worker id outcome ∷ []) memory
holds_read plan history memory worker id outcome s legal at reads holds =
    holds_on plan history memory (End worker id outcome) legal
    (λ file block last.
    ap (λ (o : Option Started). last_after_end (has_raced history id) o outcome file block last) at
    ∙ ap (λ (w : Bool). cond (w && covers_block s.piece file block) (cond (ended_whole (Some outcome) && not (has_raced history id)) (Some s.write) None) last) reads)
    holds

-- nothing was written
pub holds_none : (plan : Plan) (memory : List FileBytes) → HoldsLastWrites plan [] memory
holds_none plan memory file block write last = cc

-- while a check is in flight, its piece of a memory that holds the last writes is what its write put there
pub stored_check : (plan : Plan) (history : List Event) (memory : List FileBytes) (io : ℕ) (s : Started) → IsPlanned plan → is_legal plan history ≡ true → CoversFiles plan memory → HoldsLastWrites plan history memory → slice_get (started history) io ≡ Some s → is_probe s.kind ≡ true → outcome_of history io ≡ None → has_raced history io ≡ false → stored memory s.piece.file s.piece.offset s.piece.len ≡ content_of_io plan s
stored_check plan history memory io s planned legal covered holds at probe unended unraced =
    let piece = s.piece in
    let drawn = draw_started plan history io s legal at in
    let lies = lies_in_file plan s.write piece drawn.0 drawn.1 planned drawn.2 in
    let range = has_range memory piece.file piece.offset piece.len (covers_piece plan memory piece covered lies) in
    let found = range.found in
    let is : stored memory piece.file piece.offset piece.len ≡ take piece.len (drop (piece.offset - found.low) found.bytes) =
    ap (λ (o : Option FileBytes). stored_in o piece.offset piece.len) range.there in
    let size : length (stored memory piece.file piece.offset piece.len) ≡ piece.len =
    ap length is
    ∙ length-take-le piece.len (drop (piece.offset - found.low) found.bytes)
    (omega (arith, length-drop (piece.offset - found.low) found.bytes, range.low, range.high, range.size)) in
    same_by_blocks piece (stored memory piece.file piece.offset piece.len) (content_of_io plan s) lies.blocks size
    (length-content_of_io plan s drawn.0 drawn.1 planned drawn.2)
    (λ (block : ℕ) (inside : covers_block piece piece.file block ≡ true).
    let here = block_of piece piece.file block inside in
    let fits_in : block * 512 - piece.offset + 512 ≤ piece.len = omega (arith, here.low, here.below, lies.blocks.start, lies.blocks.size) in
    let sum : piece.offset - found.low + (block * 512 - piece.offset) ≡ block * 512 - found.low = omega (arith, here.low, range.low) in
    let held = holds piece.file block s.write (checks_are_intact plan history planned legal io s block at unended probe unraced inside) in
    ap (block_bytes piece block) is
    ∙ part_of_take 512 (block * 512 - piece.offset) piece.len (drop (piece.offset - found.low) found.bytes) fits_in
    ∙ ap (take 512) (drop_more (piece.offset - found.low) (block * 512 - piece.offset) found.bytes ∙ ap (λ (j : ℕ). drop j found.bytes) sum)
    ∙ sym (ap (λ (o : Option FileBytes). stored_in o (block * 512) 512) range.there)
    ∙ held.1
    ∙ written_in-content plan s drawn.0 drawn.1 block drawn.2)
  where
    drop_more : (i k : ℕ) (xs : List ℕ) → drop k (drop i xs) ≡ drop (i + k) xs
    drop_more i k xs = drop-drop k i xs
