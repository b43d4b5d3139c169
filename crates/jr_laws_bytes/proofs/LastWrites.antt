-- The last write of a block along a legal history, and why a check in flight stays intact.
use Rattle.std.proofs.Common.{◌≡◌, ℕ, zero, suc, ◌+◌, ◌*◌, ◌/◌, ◌<◌, ◌≤◌, List, [], ◌∷◌, ◌++◌, length, Bool, true, false, cond, ◌&&◌, not, refl, sym, ◌∙◌, ap, subst, arith, inl, inr, append_assoc, append-nil}
use Rattle.std.specs.Prelude.{◌⊎◌, Option, Some, None, slice_get, is_none, nat_lt}
use Rattle.std.specs.Option.{option_or}
use Rattle.std.specs.List.{list_any, list_all, cons_option, range_with_len}
use Rattle.std.proofs.lemmas.Bool.{and_parts, and_from, or_parts, false≢true, eq-eqb, ne_eqb, lt-ltb, cases_eq}
use Rattle.std.proofs.lemmas.Option.{slice_get_within, same_Some}
use Rattle.std.proofs.lemmas.List.Elements.{filter_map-append}
use Rattle.jr_model.specs.declared.blocks.Piece.{Piece}
use Rattle.jr_model.specs.declared.events.Event.{Event}
use Rattle.jr_model.specs.declared.events.Event.TheVariants.{Issue, Probe, Skip, End, Verdict}
use Rattle.jr_model.specs.declared.events.Outcome.{Outcome}
use Rattle.jr_model.specs.declared.events.Started.{Started}
use Rattle.jr_model.specs.declared.events.WriteId.{WriteId}
use Rattle.jr_model.specs.declared.tickets.TicketKind.TheVariants as ticket
use Rattle.jr_model.specs.History.{started, started_by, end_of, outcome_of, flies, in_flight, is_probe, is_write, ended_whole}
use Rattle.jr_model.specs.LastWrite.{covers_block, last_after_end, last_after, last_write, is_this_write, is_intact}
use Rattle.jr_model.specs.Legal.{may_happen, legal_after, is_legal, end_fits}
use Rattle.jr_model.specs.Pieces.{pieces_overlap}
use Rattle.jr_model.specs.declared.events.IssueKind.TheVariants.{Read, Write, ReadCheck}
use Rattle.jr_model.specs.Plan.{Plan}
use Rattle.jr_laws_quiet.proofs.Races.{last_write_push}
use Rattle.jr_model.proofs.RaceLaws.{raced_push}
use Rattle.jr_model.specs.Races.{writes_over, writes_over_io, races_by, has_raced}
use Rattle.jr_model.proofs.LegalLaws.{is_legal-more}
use Rattle.jr_model.proofs.SerialLaws.{first_given-append}
use Rattle.jr_model.proofs.Equality.{this_write, is_this}
use Rattle.jr_model.specs.PlanFacts.{IsPlanned}
use Rattle.jr_model.proofs.OptionLemmas.{none_by_test}
use Rattle.jr_model.proofs.PieceLemmas.{shared_block}
use Rattle.jr_laws_bytes.proofs.Starts.{checkable, none_of_flying, probe_event, draw_started}
use Rattle.jr_laws_bytes.proofs.Contents.{IsWholeBlocks, block_of, covers_from, lies_in_file}

-- what holds at first, and after each event that may happen where it held before, holds after each legal history
pub along_legal : (plan : Plan) (P : List Event → Type 0) → ((history : List Event) (e : Event) → is_legal plan history ≡ true → may_happen plan history e ≡ true → P history → P (history ++ e ∷ [])) → (before xs : List Event) → is_legal plan before ≡ true → P before → legal_after plan before xs ≡ true → P (before ++ xs)
along_legal plan P step before [] legal held after = subst P (sym (append-nil before)) held
along_legal plan P step before (x ∷ xs) legal held after =
    let parts = and_parts (may_happen plan before x) (legal_after plan (before ++ x ∷ []) xs) after in
    subst P (append_assoc before (x ∷ []) xs)
    (along_legal plan P step (before ++ x ∷ []) xs (is_legal-more plan before x legal parts.0) (step before x legal parts.0 held) parts.1)

pub after_legal : (plan : Plan) (P : List Event → Type 0) → P [] → ((history : List Event) (e : Event) → is_legal plan history ≡ true → may_happen plan history e ≡ true → P history → P (history ++ e ∷ [])) → (history : List Event) → is_legal plan history ≡ true → P history
after_legal plan P first step history legal = along_legal plan P step [] history refl first legal

-- one event more

got_cases : (xs : List Started) (o : Option Started) (i : ℕ) (s : Started) → slice_get (xs ++ cons_option o []) i ≡ Some s → (slice_get xs i ≡ Some s) ⊎ ((i ≡ length xs) × (o ≡ Some s))
got_cases [] None i s h = inl h
got_cases [] (Some x) zero s h = inr (refl, h)
got_cases [] (Some x) (suc i) s h = inl h
got_cases (x ∷ xs) o zero s h = inl h
got_cases (x ∷ xs) o (suc i) s h = elim (got_cases xs o i s h) [ inl e ↦ inl e | inr e ↦ inr (ap suc e.0, e.1) ]

-- an I/O was started before, or by the last event
pub started_cases : (history : List Event) (e : Event) (i : ℕ) (s : Started) → slice_get (started (history ++ e ∷ [])) i ≡ Some s → (slice_get (started history) i ≡ Some s) ⊎ ((i ≡ length (started history)) × (started_by e ≡ Some s))
started_cases history e i s h =
    got_cases (started history) (started_by e) i s
    (sym (ap (λ (ios : List Started). slice_get ios i) (filter_map-append started_by history (e ∷ []))) ∙ h)

neither : (a b : Option Outcome) → option_or a (option_or b None) ≡ None → (a ≡ None) × (b ≡ None)
neither None None h = (refl, refl)
neither None (Some o) h = cc
neither (Some o) b h = cc

-- what has not ended had not before, and the last event doesn't end it
pub unended_before : (history : List Event) (e : Event) (i : ℕ) → outcome_of (history ++ e ∷ []) i ≡ None → (outcome_of history i ≡ None) × (end_of i e ≡ None)
unended_before history e i h =
    neither (outcome_of history i) (end_of i e) (sym (first_given-append (end_of i) history (e ∷ [])) ∙ h)

-- the last write after one event more
pub last_write-more : (plan : Plan) (history : List Event) (e : Event) (file block : ℕ) → is_legal plan history ≡ true → last_write (history ++ e ∷ []) file block ≡ last_after (has_raced history) (started history) file block (last_write history file block) e
last_write-more plan history e file block legal = last_write_push plan history legal e file block

-- intact writes

range_all : (p : ℕ → Bool) (a n k : ℕ) → list_all p (range_with_len a n) ≡ true → a ≤ k → k < a + n → p k ≡ true
range_all p a zero k all low below = absurd (omega arith)
range_all p a (suc n) k all low below =
    let parts = and_parts (p a) (list_all p (range_with_len (a + 1) n)) all in
    elim (cases_eq a k) [
      | inl e ↦ subst (λ (i : ℕ). p i ≡ true) e parts.0
      | inr other ↦ let past : a + 1 ≤ k = omega (arith, other) in range_all p (a + 1) n k parts.1 past (omega arith)
    ]

-- an intact write is the last one of each block of its piece
pub intact_block : (history : List Event) (write : WriteId) (piece : Piece) (block : ℕ) → IsWholeBlocks piece → is_intact history write piece ≡ true → covers_block piece piece.file block ≡ true → last_write history piece.file block ≡ Some write
intact_block history write piece block blocks intact covered =
    let here = block_of piece piece.file block covered in
    let low : piece.offset / 512 ≤ block = omega (arith, here.low) in
    let below : block < piece.offset / 512 + piece.len / 512 = omega (arith, here.below, blocks.size, blocks.start) in
    this_write write (last_write history piece.file block)
    (range_all (λ (k : ℕ). is_this_write write (last_write history piece.file k)) (piece.offset / 512) (piece.len / 512) block intact low below)

-- no write in flight shares a block with a check in flight

-- unless it has raced
abbrev pub ChecksAreClear : List Event → Type 0
ChecksAreClear history =
    (i j : ℕ) (a b : Started) (file block : ℕ)
    → slice_get (started history) i ≡ Some a → slice_get (started history) j ≡ Some b
    → outcome_of history i ≡ None → outcome_of history j ≡ None
    → is_write a.kind ≡ true → is_probe b.kind ≡ true
    → has_raced history j ≡ false
    → covers_block a.piece file block ≡ true → covers_block b.piece file block ≡ true → ⊥

-- a check is started clear of the writes in flight, or races
clear_check : (history : List Event) (e : Event) (i : ℕ) (a b : Started) (file block : ℕ) → started_by e ≡ Some b → races_by history (length (started history)) (started_by e) ≡ false → slice_get (started history) i ≡ Some a → outcome_of history i ≡ None → is_write a.kind ≡ true → covers_block a.piece file block ≡ true → covers_block b.piece file block ≡ true → ⊥
clear_check history e i a b file block starts unraced at unended write in_a in_b =
    let n = length (started history) in
    let none : list_any (writes_over b.piece) (in_flight history) ≡ false =
    sym (ap (λ (c : Bool). cond c (list_any (writes_over b.piece) (in_flight history)) (writes_over_io (slice_get (started history) n) b && flies history n)) (eq-eqb n n refl))
    ∙ ap (races_by history n) (sym starts)
    ∙ unraced in
    false≢true
    (sym (none_of_flying history (writes_over b.piece) i a none at unended)
    ∙ and_from (is_write a.kind) (pieces_overlap a.piece b.piece) write (shared_block a.piece b.piece file block in_a in_b))

-- and a write is started clear of the checks in flight, or they race
clear_write : (history : List Event) (e : Event) (j : ℕ) (a b : Started) (file block : ℕ) → started_by e ≡ Some a → races_by history j (started_by e) ≡ false → slice_get (started history) j ≡ Some b → outcome_of history j ≡ None → is_write a.kind ≡ true → covers_block a.piece file block ≡ true → covers_block b.piece file block ≡ true → ⊥
clear_write history e j a b file block starts unraced at unended write in_a in_b =
    let n = length (started history) in
    let below : j < n = slice_get_within (started history) j b at in
    let flies_j : flies history j ≡ true =
    and_from (nat_lt j n) (is_none (outcome_of history j)) (lt-ltb j n below) (ap is_none unended) in
    let over : (writes_over_io (slice_get (started history) j) a && flies history j) ≡ true =
    and_from (writes_over_io (slice_get (started history) j) a) (flies history j)
    (ap (λ (o : Option Started). writes_over_io o a) at
    ∙ and_from (is_write a.kind) (pieces_overlap a.piece b.piece) write (shared_block a.piece b.piece file block in_a in_b))
    flies_j in
    false≢true
    (sym unraced
    ∙ ap (races_by history j) starts
    ∙ ap (λ (c : Bool). cond c (list_any (writes_over a.piece) (in_flight history)) (writes_over_io (slice_get (started history) j) a && flies history j))
    (ne_eqb n j (λ same. omega (arith, same, below)))
    ∙ over)

checks_clear-more : (plan : Plan) (history : List Event) (e : Event) → may_happen plan history e ≡ true → ChecksAreClear history → ChecksAreClear (history ++ e ∷ [])
checks_clear-more plan history e may clear i j a b file block at_i at_j open_i open_j writes probes unraced in_a in_b =
    let free_i = unended_before history e i open_i in
    let free_j = unended_before history e j open_j in
    let races = or_parts (has_raced history j) (races_by history j (started_by e)) (sym (raced_push history e j) ∙ unraced) in
    elim (started_cases history e i a at_i) [
      | inl old_i ↦
          elim (started_cases history e j b at_j) [
            | inl old_j ↦ clear i j a b file block old_i old_j free_i.0 free_j.0 writes probes races.0 in_a in_b
            | inr new_j ↦
                clear_check history e i a b file block new_j.1
                (subst (λ (n : ℕ). races_by history n (started_by e) ≡ false) new_j.0 races.1) old_i free_i.0 writes in_a in_b
          ]
      | inr new_i ↦
          elim (started_cases history e j b at_j) [
            | inl old_j ↦ clear_write history e j a b file block new_i.1 races.1 old_j free_j.0 writes in_a in_b
            | inr new_j ↦
                let same : a ≡ b = same_Some a b (sym new_i.1 ∙ new_j.1) in
                not_both b.kind (subst (λ (x : Started). is_write x.kind ≡ true) same writes) probes
          ]
    ]
  where
    not_both : (kind : _) → is_write kind ≡ true → is_probe kind ≡ true → ⊥
    not_both ticket.Read w p = cc
    not_both ticket.Write w p = cc
    not_both ticket.Probe w p = cc
    not_both ticket.ReadCheck w p = cc

pub checks_are_clear : (plan : Plan) (history : List Event) → is_legal plan history ≡ true → ChecksAreClear history
checks_are_clear plan history legal =
    after_legal plan (λ (all : List Event). ChecksAreClear all) (λ i j a b file block at_i at_j open_i open_j writes probes unraced in_a in_b. none_started i a at_i)
    (λ (before : List Event) (e : Event) legal_before may clear. checks_clear-more plan before e may clear) history legal
  where
    none_started : (i : ℕ) (a : Started) → slice_get {X = Started} [] i ≡ Some a → ⊥
    none_started i a h = cc

-- a check in flight stays intact

abbrev pub ChecksAreIntact : List Event → Type 0
ChecksAreIntact history =
    (i : ℕ) (s : Started) (block : ℕ)
    → slice_get (started history) i ≡ Some s → outcome_of history i ≡ None → is_probe s.kind ≡ true → has_raced history i ≡ false
    → covers_block s.piece s.piece.file block ≡ true → last_write history s.piece.file block ≡ Some s.write

not_taken : (b : Bool) (x y : Option WriteId) → (b ≡ true → ⊥) → cond b x y ≡ y
not_taken true x y never = absurd (never refl)
not_taken false x y never = refl

-- no I/O that ends under a check in flight writes any of its blocks
end_keeps : (plan : Plan) (history : List Event) (worker id : ℕ) (outcome : Outcome) (i : ℕ) (s : Started) (block : ℕ) (last : Option WriteId) (o : Option Started) → is_legal plan history ≡ true → may_happen plan history (End worker id outcome) ≡ true → slice_get (started history) i ≡ Some s → outcome_of history i ≡ None → is_probe s.kind ≡ true → has_raced history i ≡ false → covers_block s.piece s.piece.file block ≡ true → slice_get (started history) id ≡ o → last_after_end (has_raced history id) o outcome s.piece.file block last ≡ last
end_keeps plan history worker id outcome i s block last None legal may at unended probe unraced covered other = refl
end_keeps plan history worker id outcome i s block last (Some io) legal may at unended probe unraced covered other =
    let flying = (and_parts (flies history id) (end_fits worker outcome (slice_get (started history) id)) may).0 in
    let open_id = none_by_test (outcome_of history id) (and_parts (nat_lt id (length (started history))) (is_none (outcome_of history id)) flying).1 in
    not_taken (is_write io.kind && covers_block io.piece s.piece.file block) (cond (ended_whole (Some outcome) && not (has_raced history id)) (Some io.write) None) last
    (λ (taken : (is_write io.kind && covers_block io.piece s.piece.file block) ≡ true).
    let parts = and_parts (is_write io.kind) (covers_block io.piece s.piece.file block) taken in
    checks_are_clear plan history legal id i io s s.piece.file block other at open_id unended parts.0 probe unraced parts.1 covered)

kept_by : (plan : Plan) (history : List Event) (e : Event) (i : ℕ) (s : Started) (block : ℕ) (last : Option WriteId) → is_legal plan history ≡ true → may_happen plan history e ≡ true → slice_get (started history) i ≡ Some s → outcome_of history i ≡ None → is_probe s.kind ≡ true → has_raced history i ≡ false → covers_block s.piece s.piece.file block ≡ true → last_after (has_raced history) (started history) s.piece.file block last e ≡ last
kept_by plan history (Issue worker dir write piece) i s block last legal may at unended probe unraced covered = refl
kept_by plan history (Probe worker write piece) i s block last legal may at unended probe unraced covered = refl
kept_by plan history (Skip worker write) i s block last legal may at unended probe unraced covered = refl
kept_by plan history (Verdict worker io verdict) i s block last legal may at unended probe unraced covered = refl
kept_by plan history (End worker id outcome) i s block last legal may at unended probe unraced covered =
    end_keeps plan history worker id outcome i s block last (slice_get (started history) id) legal may at unended probe unraced covered refl

intact-more : (plan : Plan) (history : List Event) (e : Event) → IsPlanned plan → is_legal plan history ≡ true → may_happen plan history e ≡ true → ChecksAreIntact history → ChecksAreIntact (history ++ e ∷ [])
intact-more plan history e planned legal may intact i s block at unended probe unraced covered =
    let races = or_parts (has_raced history i) (races_by history i (started_by e)) (sym (raced_push history e i) ∙ unraced) in
    last_write-more plan history e s.piece.file block legal
    ∙ elim (started_cases history e i s at) [
      | inl old ↦
          let free = unended_before history e i unended in
          kept_by plan history e i s block (last_write history s.piece.file block) legal may old free.0 probe races.0 covered
          ∙ intact i s block old free.0 probe races.0 covered
      | inr new ↦
          let is = probe_event e s new.1 probe in
          let check = checkable plan history s.worker s.write s.piece (subst (λ (x : Event). may_happen plan history x ≡ true) is may) in
          ap (last_after (has_raced history) (started history) s.piece.file block (last_write history s.piece.file block)) is
          ∙ intact_block history s.write s.piece block (lies_in_file plan s.write s.piece check.job check.draw planned check.names).blocks check.intact covered
    ]

-- from its start until it ends, a check's write is the last one of each of its blocks
pub checks_are_intact : (plan : Plan) (history : List Event) → IsPlanned plan → is_legal plan history ≡ true → ChecksAreIntact history
checks_are_intact plan history planned legal =
    after_legal plan (λ (all : List Event). ChecksAreIntact all) (λ i s block at unended probe unraced covered. none_started i s at)
    (λ (before : List Event) (e : Event) legal_before may intact. intact-more plan before e planned legal_before may intact) history legal
  where
    none_started : {P : Type 0} (i : ℕ) (a : Started) → slice_get {X = Started} [] i ≡ Some a → P
    none_started i a h = cc

all_range : (p : ℕ → Bool) (a n : ℕ) → ((k : ℕ) → a ≤ k → k < a + n → p k ≡ true) → list_all p (range_with_len a n) ≡ true
all_range p a zero each = refl
all_range p a (suc n) each =
    and_from (p a) (list_all p (range_with_len (a + 1) n)) (each a (omega arith) (omega arith))
    (all_range p (a + 1) n (λ (k : ℕ) (low : a + 1 ≤ k) (below : k < a + 1 + n). each k (omega arith) (omega arith)))

-- so it is intact
pub check_stays_intact : (plan : Plan) (history : List Event) (io : ℕ) (s : Started) → IsPlanned plan → is_legal plan history ≡ true → slice_get (started history) io ≡ Some s → is_probe s.kind ≡ true → flies history io ≡ true → has_raced history io ≡ false → is_intact history s.write s.piece ≡ true
check_stays_intact plan history io s planned legal at probe flying unraced =
    let piece = s.piece in
    let unended = none_by_test (outcome_of history io) (and_parts (nat_lt io (length (started history))) (is_none (outcome_of history io)) flying).1 in
    let drawn = draw_started plan history io s legal at in
    let blocks = (lies_in_file plan s.write piece drawn.0 drawn.1 planned drawn.2).blocks in
    all_range (λ (k : ℕ). is_this_write s.write (last_write history piece.file k)) (piece.offset / 512) (piece.len / 512)
    (λ (k : ℕ) (low : piece.offset / 512 ≤ k) (below : k < piece.offset / 512 + piece.len / 512).
    let from : piece.offset ≤ k * 512 = omega (arith, low, blocks.start) in
    let within : k * 512 < piece.offset + piece.len = omega (arith, below, blocks.start, blocks.size) in
    is_this s.write (last_write history piece.file k)
    (checks_are_intact plan history planned legal io s k at unended probe unraced (covers_from piece piece.file k refl from within)))
