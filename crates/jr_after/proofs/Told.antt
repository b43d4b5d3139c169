-- Nothing is told of a storage that keeps its promise.
use Rattle.std.proofs.Common.{◌≡◌, ℕ, ◌+◌, ◌<◌, ◌≤◌, List, [], ◌∷◌, ◌++◌, map, Bool, true, false, cond, ◌&&◌, ◌||◌, refl, sym, ap, ◌∙◌, subst, inl, inr, arith}
use Rattle.std.specs.Prelude.{Option, Some, None, ◌==◌, ◌-◌, ◌%◌, nat_lt, nat_le, min, max, filter}
use Rattle.std.specs.List.{list_any}
use Rattle.std.proofs.lemmas.Bool.{and_parts, and_from, or_cases, or_left, or_right, cases_Bool, cases_lt, both_ways, eqb-true, eq-eqb, ltb-true, leb-true, le-leb, lt-ltb}
use Rattle.jr_model.specs.declared.blocks.Piece.{Piece}
use Rattle.jr_model.specs.declared.events.WriteId.{WriteId}
use Rattle.jr_model.specs.History.{same_write}
use Rattle.jr_model.specs.Judgement.{same_bytes}
use Rattle.jr_model.specs.Pieces.{pieces_overlap, piece_end}
use Rattle.jr_model.proofs.Equality.{eq_write}
use Rattle.jr_model.proofs.LegalLaws.{same_write_refl}
use Rattle.jr_model.proofs.PlaceLemmas.{any_at, any_found, made_at}
use Rattle.jr_ledger.specs.declared.lines.LedgerLine.{LedgerLine}
use Rattle.jr_after.specs.declared.findings.Finding.TheVariants.{Kept}
use Rattle.jr_after.specs.declared.writes.PlannedWrite.{PlannedWrite}
use Rattle.jr_after.specs.declared.writes.Named.{Named}
use Rattle.jr_after.specs.Findings.{named_by, kept_number, last_kept, stands_by, may_stand, is_held, is_kept, fault_by, finding_by, first_such, kept_write, finding_on, is_quiet}
use Rattle.jr_after.specs.Laws.{is_of, do_meet, has_name, AreBytesOf}
use Rattle.jr_after.specs.Ledgers.{line_of, kept_lines}
use Rattle.jr_after.specs.Storage.{Moment, MayHold, is_course, lines_noted, is_durable, asks_after}
use Rattle.jr_after.specs.Writes.{bytes_in, has_chunk, is_chunk, writes_over}
use Rattle.jr_after.proofs.Courses.{closed_none, kept_is_durable, asked_before_kept}

-- one that a list keeps, and that passes a test there, passes another in the whole list
any_kept : {X : Type 0} (keep test other : X → Bool) → ((x : X) → keep x ≡ true → test x ≡ true → other x ≡ true) → (xs : List X) → list_any test (filter keep xs) ≡ true → list_any other xs ≡ true
any_kept keep test other f [] h = cc
any_kept {X} keep test other f (x ∷ xs) h = by_test (keep x) (f x) (any_kept keep test other f xs) h
  where
    by_test : (b : Bool) → (b ≡ true → test x ≡ true → other x ≡ true) → (list_any test (filter keep xs) ≡ true → list_any other xs ≡ true) → list_any test (cond b (x ∷ filter keep xs) (filter keep xs)) ≡ true → (other x || list_any other xs) ≡ true
    by_test true g more i =
        elim (or_cases (test x) (list_any test (filter keep xs)) i) [
          | inl now ↦ or_left (other x) (list_any other xs) (g refl now)
          | inr later ↦ or_right (other x) (list_any other xs) (more later)
        ]
    by_test false g more i = or_right (other x) (list_any other xs) (more i)

-- the number of a kept line
number_is : (kept : ℕ) (o : Option ℕ) → 0 < kept_number kept o → (i : ℕ) × (o ≡ Some i) × (i < kept) × (kept_number kept o ≡ i + 1)
number_is kept None h = absurd (omega (arith, h))
number_is kept (Some i) h = by_test (nat_lt i kept) (ltb-true i kept) h
  where
    by_test : (b : Bool) → (b ≡ true → i < kept) → 0 < cond b (i + 1) 0 → (j : ℕ) × (Some i ≡ Some j) × (j < kept) × (cond b (i + 1) 0 ≡ j + 1)
    by_test true f g = (i, refl, f refl, refl)
    by_test false f g = absurd (omega (arith, g))

larger_first : (n m : ℕ) → m ≤ n → n ≡ max n m
larger_first n m h = omega (arith, h)

larger_second : (n m : ℕ) → n < m → m ≡ max n m
larger_second n m h = omega (arith, h)

-- where one of these writes is kept, one of them has the last kept line
attained : (kept : ℕ) (lines : List LedgerLine) (ps : List PlannedWrite) → 0 < last_kept kept (map (named_by lines) ps) → (p : PlannedWrite) × (has_name ps p.write ≡ true) × (kept_number kept (line_of lines p.write) ≡ last_kept kept (map (named_by lines) ps))
attained kept lines [] h = absurd (omega (arith, h))
attained kept lines (p ∷ ps) h =
    let n = kept_number kept (line_of lines p.write) in
    let m = last_kept kept (map (named_by lines) ps) in
    elim (cases_lt n m) [
      | inl less ↦
          let some : 0 < m = omega (arith, less) in
          let more = attained kept lines ps some in
          (more.0, or_right (is_of more.0.write p) (list_any (is_of more.0.write) ps) more.1, more.2 ∙ larger_second n m less)
      | inr most ↦ (p, or_left (is_of p.write p) (list_any (is_of p.write) ps) (same_write_refl p.write), larger_first n m most)
    ]

-- a chunk lies within each write that it is of
record IsWithin (chunk piece : Piece) : Type 0 where
  from : piece.offset ≤ chunk.offset
  till : chunk.offset + chunk.len ≤ piece.offset + piece.len

within : (chunk piece : Piece) (interval : ℕ) → is_chunk interval piece chunk ≡ true → IsWithin chunk piece
within chunk piece interval h = by_test (interval == 0) h
  where
    by_test : (b : Bool) → cond b ((chunk.offset == piece.offset) && (chunk.len == piece.len)) ((chunk.len == interval) && nat_le piece.offset chunk.offset && ((chunk.offset - piece.offset) % interval == 0) && nat_le (piece_end chunk) (piece_end piece)) ≡ true → IsWithin chunk piece
    by_test true g =
        let parts = and_parts (chunk.offset == piece.offset) (chunk.len == piece.len) g in
        let at = eqb-true chunk.offset piece.offset parts.0 in
        let size = eqb-true chunk.len piece.len parts.1 in
        record { from = omega (arith, at); till = omega (arith, at, size) }
    by_test false g =
        let parts = and_parts ((chunk.len == interval) && nat_le piece.offset chunk.offset && ((chunk.offset - piece.offset) % interval == 0)) (nat_le (piece_end chunk) (piece_end piece)) g in
        let front = and_parts ((chunk.len == interval) && nat_le piece.offset chunk.offset) ((chunk.offset - piece.offset) % interval == 0) parts.0 in
        let first = and_parts (chunk.len == interval) (nat_le piece.offset chunk.offset) front.0 in
        record { from = leb-true piece.offset chunk.offset first.1; till = leb-true (piece_end chunk) (piece_end piece) parts.1 }

shared : (chunk a b : Piece) → 0 < chunk.len → IsWithin chunk a → IsWithin chunk b → max a.offset b.offset < min (piece_end a) (piece_end b)
shared chunk a b size x y = omega (arith, size, x.from, x.till, y.from, y.till)

-- two writes over one chunk share a byte
overlap : (chunk : Piece) (p q : PlannedWrite) → 0 < chunk.len → has_chunk chunk p ≡ true → has_chunk chunk q ≡ true → pieces_overlap p.piece q.piece ≡ true
overlap chunk p q size h i =
    let a = and_parts (p.piece.file == chunk.file) (is_chunk p.method.interval p.piece chunk) h in
    let b = and_parts (q.piece.file == chunk.file) (is_chunk q.method.interval q.piece chunk) i in
    let file : p.piece.file ≡ q.piece.file = eqb-true p.piece.file chunk.file a.0 ∙ sym (eqb-true q.piece.file chunk.file b.0) in
    and_from (p.piece.file == q.piece.file) (nat_lt (max p.piece.offset q.piece.offset) (min (piece_end p.piece) (piece_end q.piece)))
    (eq-eqb p.piece.file q.piece.file file)
    (lt-ltb (max p.piece.offset q.piece.offset) (min (piece_end p.piece) (piece_end q.piece))
    (shared chunk p.piece q.piece size (within chunk p.piece p.method.interval a.1) (within chunk q.piece q.method.interval b.1)))

module _ (writes : List PlannedWrite) (chunk : Piece) (arrived later : List Moment) (size : 0 < chunk.len) (course : is_course (do_meet writes) [] (arrived ++ later) ≡ true) where
  over : List PlannedWrite
  over = writes_over chunk writes

  lines : List LedgerLine
  lines = lines_noted arrived

  met : (a b : WriteId) → has_name (writes_over chunk writes) a ≡ true → has_name (writes_over chunk writes) b ≡ true → do_meet writes a b ≡ true
  met a b h i =
      any_kept (has_chunk chunk) (is_of a)
      (λ (p : PlannedWrite). is_of a p && list_any (λ (q : PlannedWrite). is_of b q && pieces_overlap p.piece q.piece) writes)
      (λ p kept own. and_from (is_of a p) (list_any (λ (q : PlannedWrite). is_of b q && pieces_overlap p.piece q.piece) writes) own
      (any_kept (has_chunk chunk) (is_of b) (λ (q : PlannedWrite). is_of b q && pieces_overlap p.piece q.piece)
      (λ q also its. and_from (is_of b q) (pieces_overlap p.piece q.piece) its (overlap chunk p q size kept also)) writes i))
      writes h

  durable : (w : WriteId) (i : ℕ) → line_of (lines_noted arrived) w ≡ Some i → i < kept_lines chunk.file (lines_noted arrived) → is_durable chunk.file w (arrived ++ later) ≡ true
  durable w i at below = kept_is_durable (do_meet writes) chunk.file w i [] arrived later (closed_none (do_meet writes)) course at below

  -- what is held, behind the last kept write
  stands : (kept w : WriteId) (i : ℕ) → has_name (writes_over chunk writes) kept ≡ true → has_name (writes_over chunk writes) w ≡ true → line_of (lines_noted arrived) kept ≡ Some i → asks_after w kept (arrived ++ later) ≡ false → (o : Option ℕ) → line_of (lines_noted arrived) w ≡ o → stands_by (i + 1) o ≡ true
  stands kept w i own its at unasked None e = refl
  stands kept w i own its at unasked (Some j) e =
      elim (cases_lt j i) [
        | inl less ↦
            elim (cases_Bool (same_write kept w)) [
              | inl same ↦
                  let one : Some i ≡ Some j = sym at ∙ ap (line_of (lines_noted arrived)) (eq_write kept w same) ∙ e in
                  let equal : i ≡ j = cc in absurd (omega (arith, less, equal))
              | inr other ↦
                  absurd (both_ways (asks_after w kept (arrived ++ later)) unasked
                  (asked_before_kept (do_meet writes) w kept (met kept w own its) other i j [] arrived later (closed_none (do_meet writes)) course at e less))
            ]
        | inr most ↦ le-leb (i + 1) (j + 1) (omega (arith, most))
      ]

  -- where a write over the chunk is kept, the bytes are those of one that may stand there
  is_there : (held : Option WriteId) (bytes : List ℕ) → MayHold (has_name (writes_over chunk writes)) chunk.file (arrived ++ later) held → AreBytesOf (writes_over chunk writes) chunk held bytes → 0 < last_kept (kept_lines chunk.file (lines_noted arrived)) (map (named_by (lines_noted arrived)) (writes_over chunk writes)) → is_kept (last_kept (kept_lines chunk.file (lines_noted arrived)) (map (named_by (lines_noted arrived)) (writes_over chunk writes))) (map (named_by (lines_noted arrived)) (writes_over chunk writes)) chunk bytes ≡ true
  is_there None bytes may are some =
      let kept = kept_lines chunk.file (lines_noted arrived) in
      let got = attained kept (lines_noted arrived) (writes_over chunk writes) some in
      let positive : 0 < kept_number kept (line_of (lines_noted arrived) got.0.write) = omega (arith, some, got.2) in
      let at = number_is kept (line_of (lines_noted arrived) got.0.write) positive in
      absurd (both_ways (is_durable chunk.file got.0.write (arrived ++ later)) (may got.0.write got.1) (durable got.0.write at.0 at.1 at.2))
  is_there (Some w) bytes may are some =
      let kept = kept_lines chunk.file (lines_noted arrived) in
      let last = last_kept kept (map (named_by (lines_noted arrived)) (writes_over chunk writes)) in
      let got = attained kept (lines_noted arrived) (writes_over chunk writes) some in
      let positive : 0 < kept_number kept (line_of (lines_noted arrived) got.0.write) = omega (arith, some, got.2) in
      let at = number_is kept (line_of (lines_noted arrived) got.0.write) positive in
      let unasked = may.2 got.0.write got.1 (durable got.0.write at.0 at.1 at.2) in
      let by_number : stands_by (at.0 + 1) (line_of (lines_noted arrived) w) ≡ true = stands got.0.write w at.0 got.1 may.0 at.1 unasked (line_of (lines_noted arrived) w) refl in
      let number : at.0 + 1 ≡ last = sym at.3 ∙ got.2 in
      let standing : stands_by last (line_of (lines_noted arrived) w) ≡ true = subst (λ (n : ℕ). stands_by n (line_of (lines_noted arrived) w) ≡ true) number by_number in
      let name = named_by (lines_noted arrived) in
      let found = any_found (λ (p : PlannedWrite). is_of w p && same_bytes bytes (bytes_in p chunk)) (writes_over chunk writes) are in
      let parts = and_parts (is_of w found.1) (same_bytes bytes (bytes_in found.1 chunk)) found.3 in
      any_at (λ (named : Named). may_stand last named && is_held chunk bytes named) (map name (writes_over chunk writes)) found.0 (name found.1)
      (made_at name (writes_over chunk writes) found.0 found.1 found.2)
      (and_from (stands_by last (line_of (lines_noted arrived) found.1.write)) (same_bytes bytes (bytes_in found.1 chunk))
      (subst (λ (x : WriteId). stands_by last (line_of (lines_noted arrived) x) ≡ true) (sym (eq_write found.1.write w parts.0)) standing)
      parts.1)

-- a chunk whose bytes are kept, or of which nothing is kept
quiet_by : (last : ℕ) (named : List Named) (chunk : Piece) (bytes : List ℕ) (o : Option Named) → is_kept last named chunk bytes ≡ true → is_quiet (finding_by last named chunk bytes o) ≡ true
quiet_by last named chunk bytes None h = refl
quiet_by last named chunk bytes (Some kept) h =
    ap (λ (b : Bool). is_quiet (cond b Kept (fault_by kept last named chunk bytes (first_such (is_held chunk bytes) named)))) h

none_is_quiet : (last : ℕ) (named : List Named) (chunk : Piece) (bytes : List ℕ) (some : Option Named) → last ≡ 0 → is_quiet (finding_by last named chunk bytes (cond (last == 0) None some)) ≡ true
none_is_quiet last named chunk bytes some zero =
    ap (λ (b : Bool). is_quiet (finding_by last named chunk bytes (cond b None some))) (eq-eqb last 0 zero)

pub nothing_is_told : (writes : List PlannedWrite) (chunk : Piece) (arrived later : List Moment) (held : Option WriteId) (bytes : List ℕ) → 0 < chunk.len → is_course (do_meet writes) [] (arrived ++ later) ≡ true → MayHold (has_name (writes_over chunk writes)) chunk.file (arrived ++ later) held → AreBytesOf (writes_over chunk writes) chunk held bytes → is_quiet (finding_on writes (lines_noted arrived) chunk bytes) ≡ true
nothing_is_told writes chunk arrived later held bytes size course may are =
    let named = map (named_by (lines_noted arrived)) (writes_over chunk writes) in
    let kept = kept_lines chunk.file (lines_noted arrived) in
    let last = last_kept kept named in
    elim (cases_lt 0 last) [
      | inl some ↦ quiet_by last named chunk bytes (kept_write kept named) (is_there writes chunk arrived later size course held bytes may are some)
      | inr none ↦
          none_is_quiet last named chunk bytes (first_such (λ (n : Named). kept_number kept n.line == last) named) (omega (arith, none))
    ]
