-- Lines of writes at a ledger's end change no finding.
use Rattle.std.proofs.Common.{◌≡◌, ℕ, ◌+◌, ◌<◌, ◌≤◌, List, [], ◌∷◌, ◌++◌, map, length, Bool, true, false, cond, ◌&&◌, refl, sym, ap, ◌∙◌, inl, inr, arith}
use Rattle.std.specs.Prelude.{Option, Some, None, ◌==◌, ◌/◌, nat_lt, max}
use Rattle.std.specs.List.{range_with_len}
use Rattle.std.specs.Option.{option_map}
use Rattle.std.proofs.lemmas.Bool.{cond-false, le-leb, ltb-true, cases_Bool}
use Rattle.jr_model.specs.declared.blocks.Piece.{Piece}
use Rattle.jr_model.specs.declared.events.WriteId.{WriteId}
use Rattle.jr_model.specs.declared.limits.TheConstants.{SECTOR}
use Rattle.jr_model.specs.Judgement.{same_bytes}
use Rattle.jr_ledger.specs.declared.lines.LedgerLine.{LedgerLine}
use Rattle.jr_after.specs.declared.findings.Finding.{Finding}
use Rattle.jr_after.specs.declared.findings.Finding.TheVariants.{Kept, Torn, Broken}
use Rattle.jr_after.specs.declared.writes.PlannedWrite.{PlannedWrite}
use Rattle.jr_after.specs.declared.writes.Named.{Named}
use Rattle.jr_after.specs.Findings.{named_by, kept_number, last_kept, stands_by, may_stand, is_held, is_kept, is_sector_held, is_torn, sector_of, sector_at, fault_by, finding_by, finding_of, first_such, finding_on}
use Rattle.jr_after.specs.Ledgers.{line_of, kept_lines}
use Rattle.jr_after.specs.Writes.{bytes_in, writes_over}
use Rattle.jr_laws_after.specs.Waiting.{lines_of}
use Rattle.jr_laws_after.proofs.Alike.{any_alike, all_alike, first_map, first_alike}
use Rattle.jr_laws_after.proofs.Lines.{kept_same, kept_most, IsLater, line_late}

not_below : (kept j : ℕ) → kept ≤ j → nat_lt j kept ≡ false
not_below kept j most =
    elim (cases_Bool (nat_lt j kept)) [
      | inl below ↦ absurd (let less : j < kept = ltb-true j kept below in omega (arith, less, most))
      | inr other ↦ other
    ]

-- a line behind the kept ones counts as no line
number_same : (kept n : ℕ) (found other : Option ℕ) → kept ≤ n → IsLater n found other → kept_number kept found ≡ kept_number kept other
number_same kept n found other most (inl e) = ap (kept_number kept) e
number_same kept n found other most (inr later) =
    ap (kept_number kept) later.2
    ∙ cond-false (nat_lt later.1 kept) (later.1 + 1) 0 (not_below kept later.1 (omega (arith, most, later.3)))
    ∙ sym (ap (kept_number kept) later.0)

-- and its write may stand, as one that isn't named
stands_same : (last n : ℕ) (found other : Option ℕ) → last ≤ n → IsLater n found other → stands_by last found ≡ stands_by last other
stands_same last n found other most (inl e) = ap (stands_by last) e
stands_same last n found other most (inr later) =
    ap (stands_by last) later.2
    ∙ le-leb last (later.1 + 1) (omega (arith, most, later.3))
    ∙ sym (ap (stands_by last) later.0)

number_most : (kept : ℕ) (found : Option ℕ) → kept_number kept found ≤ kept
number_most kept None = omega arith
number_most kept (Some i) = by_test (nat_lt i kept) (ltb-true i kept)
  where
    by_test : (b : Bool) → (b ≡ true → i < kept) → cond b (i + 1) 0 ≤ kept
    by_test true h = let less : i < kept = h refl in omega (arith, less)
    by_test false h = omega arith

larger_most : (n m kept : ℕ) → n ≤ kept → m ≤ kept → max n m ≤ kept
larger_most n m kept h i = omega (arith, h, i)

last_most : (kept : ℕ) (over : List Named) → last_kept kept over ≤ kept
last_most kept [] = omega arith
last_most kept (named ∷ over) = larger_most (kept_number kept named.line) (last_kept kept over) kept (number_most kept named.line) (last_most kept over)

module _ (lines : List LedgerLine) (late : List WriteId) (kept : ℕ) (few : kept ≤ length lines) (chunk : Piece) (bytes : List ℕ) where
  abbrev one : PlannedWrite → Named
  one = named_by (lines ++ lines_of late)

  abbrev other : PlannedWrite → Named
  other = named_by lines

  numbers : (p : PlannedWrite) → kept_number kept (line_of (lines ++ lines_of late) p.write) ≡ kept_number kept (line_of lines p.write)
  numbers p = number_same kept (length lines) (line_of (lines ++ lines_of late) p.write) (line_of lines p.write) few (line_late lines late p.write)

  last_same : (ps : List PlannedWrite) → last_kept kept (map one ps) ≡ last_kept kept (map other ps)
  last_same [] = refl
  last_same (p ∷ ps) =
      ap (λ (n : ℕ). max n (last_kept kept (map one ps))) (numbers p)
      ∙ ap (λ (n : ℕ). max (kept_number kept (line_of lines p.write)) n) (last_same ps)

  module _ (last : ℕ) (most : last ≤ kept) (ps : List PlannedWrite) where
    stand : (p : PlannedWrite) → may_stand last (one p) ≡ may_stand last (other p)
    stand p = stands_same last (length lines) (line_of (lines ++ lines_of late) p.write) (line_of lines p.write) (omega (arith, most, few)) (line_late lines late p.write)

    kept_alike : is_kept last (map one ps) chunk bytes ≡ is_kept last (map other ps) chunk bytes
    kept_alike =
        any_alike one other
        (λ (named : Named). may_stand last named && is_held chunk bytes named)
        (λ (named : Named). may_stand last named && is_held chunk bytes named)
        (λ p. ap (λ (b : Bool). b && same_bytes bytes (bytes_in p chunk)) (stand p)) ps

    sector_alike : (i : ℕ) → is_sector_held last (map one ps) chunk bytes i ≡ is_sector_held last (map other ps) chunk bytes i
    sector_alike i =
        any_alike one other
        (λ (named : Named). may_stand last named && same_bytes (sector_of bytes i) (bytes_in named.planned (sector_at chunk i)))
        (λ (named : Named). may_stand last named && same_bytes (sector_of bytes i) (bytes_in named.planned (sector_at chunk i)))
        (λ p. ap (λ (b : Bool). b && same_bytes (sector_of bytes i) (bytes_in p (sector_at chunk i))) (stand p)) ps

    torn_alike : is_torn last (map one ps) chunk bytes ≡ is_torn last (map other ps) chunk bytes
    torn_alike =
        all_alike (is_sector_held last (map one ps) chunk bytes) (is_sector_held last (map other ps) chunk bytes) sector_alike
        (range_with_len 0 (chunk.len / SECTOR))

    fault_alike : (k : PlannedWrite) (found : Option PlannedWrite) → fault_by (one k) last (map one ps) chunk bytes (option_map one found) ≡ fault_by (other k) last (map other ps) chunk bytes (option_map other found)
    fault_alike k (Some q) = refl
    fault_alike k None = ap (λ (b : Bool). cond b (Torn k.write) (Broken k.write)) torn_alike

    held_first : first_such (is_held chunk bytes) (map one ps) ≡ option_map one (first_such (λ (p : PlannedWrite). same_bytes bytes (bytes_in p chunk)) ps)
    held_first = first_map one (is_held chunk bytes) ps

    held_other : first_such (is_held chunk bytes) (map other ps) ≡ option_map other (first_such (λ (p : PlannedWrite). same_bytes bytes (bytes_in p chunk)) ps)
    held_other = first_map other (is_held chunk bytes) ps

    found_alike : (k : PlannedWrite) → fault_by (one k) last (map one ps) chunk bytes (first_such (is_held chunk bytes) (map one ps)) ≡ fault_by (other k) last (map other ps) chunk bytes (first_such (is_held chunk bytes) (map other ps))
    found_alike k =
        ap (fault_by (one k) last (map one ps) chunk bytes) held_first
        ∙ fault_alike k (first_such (λ (p : PlannedWrite). same_bytes bytes (bytes_in p chunk)) ps)
        ∙ sym (ap (fault_by (other k) last (map other ps) chunk bytes) held_other)

    finding_alike : (k : Option PlannedWrite) → finding_by last (map one ps) chunk bytes (option_map one k) ≡ finding_by last (map other ps) chunk bytes (option_map other k)
    finding_alike None = refl
    finding_alike (Some k) =
        ap (λ (b : Bool). cond b Kept (fault_by (one k) last (map one ps) chunk bytes (first_such (is_held chunk bytes) (map one ps)))) kept_alike
        ∙ ap (λ (f : Finding). cond (is_kept last (map other ps) chunk bytes) Kept f) (found_alike k)

  -- the last kept write, by its number
  abbrev wanted_one : ℕ → List PlannedWrite → Option PlannedWrite
  wanted_one last ps = cond (last == 0) None (first_such (λ (p : PlannedWrite). kept_number kept (line_of (lines ++ lines_of late) p.write) == last) ps)

  abbrev wanted : ℕ → List PlannedWrite → Option PlannedWrite
  wanted last ps = cond (last == 0) None (first_such (λ (p : PlannedWrite). kept_number kept (line_of lines p.write) == last) ps)

  wanted_same : (last : ℕ) (ps : List PlannedWrite) → wanted_one last ps ≡ wanted last ps
  wanted_same last ps =
      ap (λ (o : Option PlannedWrite). cond (last == 0) None o)
      (first_alike (λ (p : PlannedWrite). kept_number kept (line_of (lines ++ lines_of late) p.write) == last)
      (λ (p : PlannedWrite). kept_number kept (line_of lines p.write) == last)
      (λ p. ap (λ (n : ℕ). n == last) (numbers p)) ps)

  by_zero : (name : PlannedWrite → Named) (t : Bool) (test : Named → Bool) (ps : List PlannedWrite) → cond t None (first_such test (map name ps)) ≡ option_map name (cond t None (first_such (λ (p : PlannedWrite). test (name p)) ps))
  by_zero name true test ps = refl
  by_zero name false test ps = first_map name test ps

  finding_same : (ps : List PlannedWrite) → finding_of kept (map one ps) chunk bytes ≡ finding_of kept (map other ps) chunk bytes
  finding_same ps =
      let last = last_kept kept (map other ps) in
      ap (λ (n : ℕ). finding_by n (map one ps) chunk bytes (cond (n == 0) None (first_such (λ (named : Named). kept_number kept named.line == n) (map one ps)))) (last_same ps)
      ∙ ap (finding_by last (map one ps) chunk bytes) (by_zero one (last == 0) (λ (named : Named). kept_number kept named.line == last) ps)
      ∙ ap (λ (k : Option PlannedWrite). finding_by last (map one ps) chunk bytes (option_map one k)) (wanted_same last ps)
      ∙ finding_alike last (last_most kept (map other ps)) ps (wanted last ps)
      ∙ sym (ap (finding_by last (map other ps) chunk bytes) (by_zero other (last == 0) (λ (named : Named). kept_number kept named.line == last) ps))

pub late_writes_change_nothing : (writes : List PlannedWrite) (lines : List LedgerLine) (late : List WriteId) (chunk : Piece) (bytes : List ℕ) → finding_on writes (lines ++ lines_of late) chunk bytes ≡ finding_on writes lines chunk bytes
late_writes_change_nothing writes lines late chunk bytes =
    ap (λ (n : ℕ). finding_of n (map (named_by (lines ++ lines_of late)) (writes_over chunk writes)) chunk bytes) (kept_same chunk.file lines late)
    ∙ finding_same lines late (kept_lines chunk.file lines) (kept_most chunk.file lines) chunk bytes (writes_over chunk writes)
