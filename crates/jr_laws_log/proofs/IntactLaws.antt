-- The log of a legal history has its intact writes.
use Rattle.std.proofs.Common.{◌≡◌, ℕ, ◌+◌, ◌/◌, ◌<◌, ◌≤◌, List, [], ◌∷◌, ◌++◌, length, Bool, true, false, cond, ◌&&◌, not, refl, sym, ◌∙◌, ap, subst, arith, inl, inr}
use Rattle.std.specs.Prelude.{Option, Some, None, slice_get}
use Rattle.std.specs.List.{cons_option}
use Rattle.std.proofs.lemmas.Bool.{and_from, and_left, and_right, cases_Bool, cases_eq, cases_lt, both_ways, false_from_ne_true}
use Rattle.std.proofs.lemmas.Option.{none-some, cond_some, same_Some}
use Rattle.jr_model.specs.declared.limits.TheConstants.{SECTOR}
use Rattle.jr_model.specs.declared.blocks.Piece.{Piece}
use Rattle.jr_model.specs.declared.contents.Expected.{Expected}
use Rattle.jr_model.specs.declared.events.Event.{Event}
use Rattle.jr_model.specs.declared.events.Event.TheVariants.{Issue, Probe, Skip, End, Verdict}
use Rattle.jr_model.specs.declared.events.Outcome.{Outcome}
use Rattle.jr_model.specs.declared.events.Outcome.TheVariants.{Whole}
use Rattle.jr_model.specs.declared.events.Started.{Started}
use Rattle.jr_model.specs.declared.events.WriteId.{WriteId}
use Rattle.jr_model.specs.History.{started, started_by, outcome_of, ended_whole, is_write, same_write}
use Rattle.jr_model.specs.LastWrite.{covers_block, last_after, last_after_end, last_write, is_intact}
use Rattle.jr_model.specs.Legal.{is_legal, may_happen}
use Rattle.jr_model.specs.Pieces.{pieces_overlap}
use Rattle.jr_model.specs.Plan.{Plan}
use Rattle.jr_model.specs.Races.{has_raced}
use Rattle.jr_model.proofs.RaceLaws.{raced_other}
use Rattle.jr_model.proofs.LegalLaws.{is_legal-more, same_write_refl}
use Rattle.jr_model.proofs.Equality.{eq_write}
use Rattle.jr_model.specs.PlanFacts.{IsPlanned}
use Rattle.jr_model.proofs.PieceLemmas.{overlap_turned, shared_block}
use Rattle.jr_model.proofs.PlaceLemmas.{got_longer}
use Rattle.jr_model.proofs.HistoryLemmas.{started-more, by_events, outcome_of-end}
use Rattle.jr_model.proofs.OptionLemmas.{none_from}
use Rattle.jr_writes.specs.declared.logs.Logged.{Logged}
use Rattle.jr_writes.specs.LoggedWrites.{if_apart, lies_apart, logged}
use Rattle.jr_writes.specs.LogSteps.{LogStep, settle, unsettle, steps_of, step_of, step_at_end}
use Rattle.jr_writes.proofs.LogLemmas.{logged-settled, logged-unsettled}
use Rattle.jr_laws_quiet.proofs.Latest.{common_block}
use Rattle.jr_laws_quiet.proofs.Races.{last_write_push}
use Rattle.jr_laws_steps.proofs.StartedLemmas.{started_stays, started_below, started-other}
use Rattle.jr_laws_log.specs.Intact.{log_after, WasStarted, IsOfIntact}
use Rattle.jr_laws_log.proofs.LogGrowth.{log-same, log-whole, log-failed}
use Rattle.jr_laws_log.proofs.LastBlocks.{last_law, flying_of, HasBlocks, intact_same, intact_all, intact_not, one_place, blocks_at, unlanded}
use Rattle.jr_laws_log.proofs.OrderLemmas.{ordered_log}

-- what the log has of a started write
abbrev pub entry_of : (WriteId → Piece → Expected) → Started → Logged
entry_of checked_by io = record { piece = io.piece; expected = checked_by io.write io.piece }

-- where it is intact
abbrev pub shown : (WriteId → Piece → Expected) → Started → Bool → Option Logged
shown checked_by io intact = cond intact (Some (entry_of checked_by io)) None

-- what the log has of the write is what it shows of intact ones
abbrev pub IsShown : (WriteId → Piece → Expected) → List Event → Started → Type 0
IsShown checked_by h io = logged (log_after checked_by h) io.write ≡ shown checked_by io (is_intact h io.write io.piece)

-- a write of this name was started
pub record IsStarted (h : List Event) (write : WriteId) : Type 0 where
  pub id : ℕ
  pub io : Started
  pub at : slice_get (started h) id ≡ Some io
  pub kind : is_write io.kind ≡ true
  pub named : io.write ≡ write

-- the log has intact writes, and no other ones
pub record IsKept (checked_by : WriteId → Piece → Expected) (h : List Event) : Type 0 where
  pub known : (write : WriteId) (entry : Logged) → logged (log_after checked_by h) write ≡ Some entry → IsStarted h write
  pub equal : (id : ℕ) (io : Started) → slice_get (started h) id ≡ Some io → is_write io.kind ≡ true → IsShown checked_by h io

some_apart : (piece : Piece) (o : Option Logged) (entry : Logged) → if_apart piece o ≡ Some entry → o ≡ Some entry
some_apart piece None entry h = cc
some_apart piece (Some e) entry h = by (lies_apart piece e) h
  where
    by : (b : Bool) → cond b (Some e) None ≡ Some entry → Some e ≡ Some entry
    by true g = g
    by false g = cc

module _ (checked_by : WriteId → Piece → Expected) (piece : Piece) (io : Started) where
  -- what overlaps is taken out
  gone : (intact : Bool) → pieces_overlap piece io.piece ≡ true → if_apart piece (shown checked_by io intact) ≡ None
  gone true over = ap (λ (b : Bool). cond (not b) (Some (entry_of checked_by io)) None) over
  gone false over = refl

  -- what doesn't stays
  left : (intact : Bool) → pieces_overlap piece io.piece ≡ false → if_apart piece (shown checked_by io intact) ≡ shown checked_by io intact
  left true apart = ap (λ (b : Bool). cond (not b) (Some (entry_of checked_by io)) None) apart
  left false apart = refl

module _ (plan : Plan) (planned : IsPlanned plan) (checked_by : WriteId → Piece → Expected) (h : List Event)
    (legal : is_legal plan h ≡ true) (kept : IsKept checked_by h) where
  -- what the log had of a write
  abbrev had : WriteId → Option Logged
  had write = logged (log_after checked_by h) write

  -- an event that leaves the log and all last writes
  module _ (e : Event) (may : may_happen plan h e ≡ true) (no_step : step_of checked_by (has_raced h) (started h) e ≡ None)
      (keeps : (f b : ℕ) (o : Option WriteId) → last_after (has_raced h) (started h) f b o e ≡ o) where
    abbrev next : List Event
    next = h ++ e ∷ []

    legal_next : is_legal plan next ≡ true
    legal_next = is_legal-more plan h e legal may

    same_last : (f b : ℕ) → last_write next f b ≡ last_write h f b
    same_last f b = last_write_push plan h legal e f b ∙ keeps f b (last_write h f b)

    same_logged : (write : WriteId) → logged (log_after checked_by next) write ≡ had write
    same_logged write = ap (λ (es : List (WriteId × Logged)). logged es write) (log-same plan h checked_by legal e may no_step)

    -- what this event starts has a new name
    new_name : (id : ℕ) (io : Started) → slice_get (started next) id ≡ Some io → is_write io.kind ≡ true → length (started h) ≤ id
        → (k : ℕ) (was : Started) → slice_get (started h) k ≡ Some was → is_write was.kind ≡ true → was.write ≡ io.write → ⊥
    new_name id io at kind past k was at_k kind_k named =
        let below : k < length (started h) = started_below h k was at_k in
        let there = started_stays h (e ∷ []) k was at_k in
        let same : k ≡ id = one_place plan next planned legal_next k id was io there at kind_k kind named in
        omega (arith, below, same, past)

    equal_old : (id : ℕ) (io : Started) → slice_get (started h) id ≡ Some io → is_write io.kind ≡ true
        → IsShown checked_by next io
    equal_old id io at kind =
        let blocks = blocks_at plan h planned legal id io at in
        let same = intact_same io.write io.piece blocks h next (λ b covers. same_last io.piece.file b) in
        same_logged io.write ∙ kept.equal id io at kind ∙ ap (shown checked_by io) (sym same)

    equal_new : (id : ℕ) (io : Started) → slice_get (started next) id ≡ Some io → is_write io.kind ≡ true → length (started h) ≤ id
        → IsShown checked_by next io
    equal_new id io at kind past =
        let blocks = blocks_at plan next planned legal_next id io at in
        let first = io.piece.offset / SECTOR + 0 in
        let unlogged : had io.write ≡ None =
        none_from (had io.write)
        (λ entry is. let was = kept.known io.write entry is in new_name id io at kind past was.id was.io was.at was.kind was.named) in
        let broken : is_intact next io.write io.piece ≡ false =
        intact_not io.write io.piece blocks next 0 blocks.some
        (λ last.
        let was = last_law plan h legal io.piece.file first io.write (sym (same_last io.piece.file first) ∙ last) in
        new_name id io at kind past was.id was.io was.at was.kind was.named) in
        same_logged io.write ∙ unlogged ∙ ap (shown checked_by io) (sym broken)

    kept_same : IsKept checked_by next
    kept_same = record {
      known = λ write entry is.
          let was = kept.known write entry (sym (same_logged write) ∙ is) in
          record { id = was.id; io = was.io; at = started_stays h (e ∷ []) was.id was.io was.at; kind = was.kind; named = was.named };
      equal = λ id io at kind. elim (cases_lt id (length (started h))) [
        | inl below ↦
            let there = sym (got_longer (started h) (cons_option (started_by e) []) id below) in
            let push = ap (λ (ios : List Started). slice_get ios id) (sym (started-more h e)) in
            equal_old id io (there ∙ push ∙ at) kind
        | inr past ↦ equal_new id io at kind past
      ];
    }

  -- the end of a write
  module _ (worker id0 : ℕ) (outcome : Outcome) (may : may_happen plan h (End worker id0 outcome) ≡ true)
      (io0 : Started) (at0 : slice_get (started h) id0 ≡ Some io0) (kind0 : is_write io0.kind ≡ true)
      (unended : outcome_of h id0 ≡ None) where
    abbrev later : List Event
    later = h ++ End worker id0 outcome ∷ []

    legal_later : is_legal plan later ≡ true
    legal_later = is_legal-more plan h (End worker id0 outcome) legal may

    same_started : started later ≡ started h
    same_started = started-other h (End worker id0 outcome) refl

    stays : (id : ℕ) (io : Started) → slice_get (started h) id ≡ Some io → slice_get (started later) id ≡ Some io
    stays id io at = started_stays h (End worker id0 outcome ∷ []) id io at

    fresh : had io0.write ≡ None
    fresh =
        kept.equal id0 io0 at0 kind0
        ∙ ap (shown checked_by io0) (unlanded plan h planned legal id0 io0 at0 kind0 (λ ended unraced. none-some Whole (sym unended ∙ ended)))

    -- it ended whole, and didn't race
    abbrev lands : Bool
    lands = ended_whole (Some outcome) && not (has_raced h id0)

    -- what a look-up finds after it
    abbrev looked : Bool → WriteId → Option Logged
    looked own other = cond own (Some (entry_of checked_by io0)) (if_apart io0.piece (had other))

    looked_by : (whole : Bool) → lands ≡ whole → (other : WriteId)
        → logged (log_after checked_by later) other
        ≡ looked (whole && same_write io0.write other) other
    looked_by true is other =
        ap (λ (es : List (WriteId × Logged)). logged es other) (log-whole plan h checked_by legal worker id0 outcome io0 may at0 kind0 is)
        ∙ logged-settled (log_after checked_by h) (ordered_log (steps_of checked_by h)) io0.write io0.piece
        (checked_by io0.write io0.piece) fresh other
    looked_by false is other =
        ap (λ (es : List (WriteId × Logged)). logged es other) (log-failed plan h checked_by legal worker id0 outcome io0 may at0 kind0 is)
        ∙ logged-unsettled (log_after checked_by h) (ordered_log (steps_of checked_by h)) io0.piece other

    -- what its end makes of a block that it covers
    abbrev given : Bool → Option WriteId
    given whole = cond whole (Some io0.write) None

    last_by : (whole : Bool) → lands ≡ whole → (f b : ℕ)
        → last_write later f b
        ≡ cond (covers_block io0.piece f b) (given whole) (last_write h f b)
    last_by whole is f b =
        last_write_push plan h legal (End worker id0 outcome) f b
        ∙ ap (λ (o : Option Started). last_after_end (has_raced h id0) o outcome f b (last_write h f b)) at0
        ∙ ap (λ (k : Bool). cond (k && covers_block io0.piece f b) (given lands) (last_write h f b)) kind0
        ∙ ap (λ (w : Bool). cond (covers_block io0.piece f b) (given w) (last_write h f b)) is

    -- of the write that ends
    equal_own : (whole : Bool) → lands ≡ whole
        → IsShown checked_by later io0
    equal_own true is =
        let now : is_intact later io0.write io0.piece ≡ true =
        intact_all io0.write io0.piece (blocks_at plan h planned legal id0 io0 at0) later
        (λ b covers.
        last_by true is io0.piece.file b
        ∙ ap (λ (c : Bool). cond c (Some io0.write) (last_write h io0.piece.file b)) covers) in
        looked_by true is io0.write
        ∙ ap (λ (b : Bool). looked b io0.write) (same_write_refl io0.write)
        ∙ ap (shown checked_by io0) (sym now)
    equal_own false is =
        let ended : outcome_of later id0 ≡ Some outcome = outcome_of-end h worker id0 outcome unended in
        let broken : is_intact later io0.write io0.piece ≡ false =
        unlanded plan later planned legal_later id0 io0 (stays id0 io0 at0) kind0
        (λ whole unraced.
        both_ways lands is
        (and_from (ended_whole (Some outcome)) (not (has_raced h id0)) (ap ended_whole (sym ended ∙ whole))
        (ap not (sym (raced_other h (End worker id0 outcome) id0 refl) ∙ unraced)))) in
        looked_by false is io0.write ∙ ap (if_apart io0.piece) fresh ∙ ap (shown checked_by io0) (sym broken)

    -- of another one
    module _ (id : ℕ) (io : Started) (at : slice_get (started h) id ≡ Some io) (kind : is_write io.kind ≡ true)
        (apart : id ≡ id0 → ⊥) (whole : Bool) (is : lands ≡ whole) where
      other_name : io0.write ≡ io.write → ⊥
      other_name same = apart (one_place plan h planned legal id id0 io io0 at at0 kind kind0 (sym same))

      blocks : HasBlocks io.piece
      blocks = blocks_at plan h planned legal id io at

      differs : same_write io0.write io.write ≡ false
      differs = false_from_ne_true (same_write io0.write io.write) (λ same. other_name (eq_write io0.write io.write same))

      looked_other : logged (log_after checked_by later) io.write
          ≡ if_apart io0.piece (shown checked_by io (is_intact h io.write io.piece))
      looked_other =
          looked_by whole is io.write
          ∙ ap (λ (b : Bool). looked b io.write) (and_right whole (same_write io0.write io.write) differs)
          ∙ ap (if_apart io0.piece) (kept.equal id io at kind)

      overwritten : (w : Bool) (covers : Bool)
          → covers ≡ true
          → (last : Option WriteId)
          → cond covers (given w) last ≡ Some io.write
          → ⊥
      overwritten true true c last same = other_name (same_Some io0.write io.write same)
      overwritten false true c last same = none-some io.write same
      overwritten w false c last same = both_ways false refl c

      equal_other : (over : Bool) → pieces_overlap io0.piece io.piece ≡ over
          → IsShown checked_by later io
      equal_other true over =
          let own = blocks_at plan h planned legal id0 io0 at0 in
          let common = common_block io.piece io0.piece blocks.sectors own.sectors (overlap_turned io0.piece io.piece over) in
          let f = io.piece.file in
          let b = io.piece.offset / SECTOR + common.place in
          let broken : is_intact later io.write io.piece ≡ false =
          intact_not io.write io.piece blocks later common.place common.within
          (λ last.
          overwritten whole (covers_block io0.piece f b) common.covers (last_write h f b) (sym (last_by whole is f b) ∙ last)) in
          looked_other ∙ gone checked_by io0.piece io (is_intact h io.write io.piece) over ∙ ap (shown checked_by io) (sym broken)
      equal_other false over =
          let f = io.piece.file in
          let uncovered : (b : ℕ) → covers_block io.piece f b ≡ true → covers_block io0.piece f b ≡ false =
          λ b covers. false_from_ne_true (covers_block io0.piece f b)
          (λ both. both_ways (pieces_overlap io0.piece io.piece) over (shared_block io0.piece io.piece f b both covers)) in
          let same : is_intact later io.write io.piece ≡ is_intact h io.write io.piece =
          intact_same io.write io.piece blocks h later
          (λ b covers.
          last_by whole is f b ∙ ap (λ (c : Bool). cond c (given whole) (last_write h f b)) (uncovered b covers)) in
          looked_other ∙ left checked_by io0.piece io (is_intact h io.write io.piece) over ∙ ap (shown checked_by io) (sym same)

    known_ended : (whole : Bool) (write : WriteId) (entry : Logged) (same : Bool)
        → same_write io0.write write ≡ same
        → looked (whole && same) write ≡ Some entry
        → IsStarted h write
    known_ended true write entry true same is = record { id = id0; io = io0; at = at0; kind = kind0; named = eq_write io0.write write same }
    known_ended true write entry false same is = kept.known write entry (some_apart io0.piece (had write) entry is)
    known_ended false write entry true same is = kept.known write entry (some_apart io0.piece (had write) entry is)
    known_ended false write entry false same is = kept.known write entry (some_apart io0.piece (had write) entry is)

    equal_ended : (id : ℕ) (io : Started) → slice_get (started h) id ≡ Some io → is_write io.kind ≡ true
        → IsShown checked_by later io
    equal_ended id io at kind =
        elim (cases_eq id id0) [
          | inl same ↦
              let one : io0 ≡ io = same_Some io0 io (sym at0 ∙ ap (slice_get (started h)) (sym same) ∙ at) in
              subst (IsShown checked_by later) one (equal_own lands refl)
          | inr apart ↦ equal_other id io at kind apart lands refl (pieces_overlap io0.piece io.piece) refl
        ]

    kept_ended : IsKept checked_by later
    kept_ended = record {
      known = λ write entry is.
          let whole = lands in
          let was = known_ended whole write entry (same_write io0.write write) refl (sym (looked_by whole refl write) ∙ is) in
          record { id = was.id; io = was.io; at = stays was.id was.io was.at; kind = was.kind; named = was.named };
      equal = λ id io at kind. equal_ended id io (sym (ap (λ (ios : List Started). slice_get ios id) same_started) ∙ at) kind;
    }

  -- the end of any I/O
  kept_end : (worker id : ℕ) (outcome : Outcome)
      → may_happen plan h (End worker id outcome) ≡ true
      → IsKept checked_by (h ++ End worker id outcome ∷ [])
  kept_end worker id outcome may =
      let flying = flying_of plan h worker id outcome may in
      elim (cases_Bool (is_write flying.io.kind)) [
        | inl kind ↦ kept_ended worker id outcome may flying.io flying.at kind flying.unended
        | inr other ↦
            kept_same (End worker id outcome) may
            (ap (λ (o : Option Started). step_at_end checked_by (has_raced h id) o outcome) flying.at ∙ no_step flying.io other)
            (λ f b o. ap (λ (s : Option Started). last_after_end (has_raced h id) s outcome f b o) flying.at ∙ keeps flying.io other f b o)
      ]
    where
      no_step : (io : Started) → is_write io.kind ≡ false → step_at_end checked_by (has_raced h id) (Some io) outcome ≡ None
      no_step io other =
          let step : Bool → LogStep =
          λ whole. cond whole (settle io.write io.piece (checked_by io.write io.piece)) (unsettle io.piece) in
          ap (λ (k : Bool). cond k (Some (step (ended_whole (Some outcome) && not (has_raced h id)))) None) other

      keeps : (io : Started) → is_write io.kind ≡ false → (f b : ℕ) (o : Option WriteId) → last_after_end (has_raced h id) (Some io) outcome f b o ≡ o
      keeps io other f b o =
          ap (λ (k : Bool). cond k (cond (ended_whole (Some outcome) && not (has_raced h id)) (Some io.write) None) o)
          (and_left (is_write io.kind) (covers_block io.piece f b) other)

-- the log of each legal history
pub kept_law : (plan : Plan) (checked_by : WriteId → Piece → Expected) (history : List Event)
    → IsPlanned plan
    → is_legal plan history ≡ true
    → IsKept checked_by history
kept_law plan checked_by history planned legal =
    by_events plan (IsKept checked_by)
    (record { known = λ write entry is. absurd (none-some entry is); equal = λ id io at kind. absurd (none-some io at) })
    step history legal
  where
    step : (h : List Event) (e : Event)
        → is_legal plan h ≡ true
        → IsKept checked_by h
        → may_happen plan h e ≡ true
        → IsKept checked_by (h ++ e ∷ [])
    step h (Issue worker dir write piece) legal_h kept may =
        kept_same plan planned checked_by h legal_h kept (Issue worker dir write piece) may refl (λ f b o. refl)
    step h (Probe worker write piece) legal_h kept may =
        kept_same plan planned checked_by h legal_h kept (Probe worker write piece) may refl (λ f b o. refl)
    step h (Skip worker write) legal_h kept may =
        kept_same plan planned checked_by h legal_h kept (Skip worker write) may refl (λ f b o. refl)
    step h (Verdict worker io verdict) legal_h kept may =
        kept_same plan planned checked_by h legal_h kept (Verdict worker io verdict) may refl (λ f b o. refl)
    step h (End worker io outcome) legal_h kept may = kept_end plan planned checked_by h legal_h kept worker io outcome may

pub log_is_intact : (plan : Plan) (history : List Event) (checked_by : WriteId → Piece → Expected) (write : WriteId) (piece : Piece)
    → IsPlanned plan
    → is_legal plan history ≡ true
    → WasStarted history write piece
    → logged (log_after checked_by history) write
    ≡ cond (is_intact history write piece) (Some (record { piece = piece; expected = checked_by write piece })) None
log_is_intact plan history checked_by write piece planned legal was =
    let made : WriteId → Piece → Logged = λ w p. record { piece = p; expected = checked_by w p } in
    let Law : WriteId → Piece → Type 0 =
    λ w p. logged (log_after checked_by history) w ≡ cond (is_intact history w p) (Some (made w p)) None in
    let shown_of_io = (kept_law plan checked_by history planned legal).equal was.place was.io was.at was.kind in
    subst (λ (w : WriteId). Law w piece) was.named (subst (λ (p : Piece). Law was.io.write p) was.there shown_of_io)

pub unended_is_unlogged : (plan : Plan) (history : List Event) (checked_by : WriteId → Piece → Expected) (id : ℕ) (io : Started)
    → IsPlanned plan
    → is_legal plan history ≡ true
    → slice_get (started history) id ≡ Some io
    → is_write io.kind ≡ true
    → (ended_whole (outcome_of history id) && not (has_raced history id)) ≡ false
    → logged (log_after checked_by history) io.write ≡ None
unended_is_unlogged plan history checked_by id io planned legal at kind unended =
    (kept_law plan checked_by history planned legal).equal id io at kind
    ∙ ap (shown checked_by io)
    (unlanded plan history planned legal id io at kind
    (λ ended unraced.
    both_ways (ended_whole (outcome_of history id) && not (has_raced history id)) unended
    (and_from (ended_whole (outcome_of history id)) (not (has_raced history id)) (ap ended_whole ended) (ap not unraced))))

pub logged_is_intact : (plan : Plan) (history : List Event) (checked_by : WriteId → Piece → Expected) (write : WriteId) (entry : Logged)
    → IsPlanned plan
    → is_legal plan history ≡ true
    → logged (log_after checked_by history) write ≡ Some entry
    → IsOfIntact checked_by history write entry
logged_is_intact plan history checked_by write entry planned legal is =
    let was = (kept_law plan checked_by history planned legal).known write entry is in
    let piece = was.io.piece in
    let begun : WasStarted history write piece =
    record { place = was.id; io = was.io; at = was.at; kind = was.kind; named = was.named; there = refl } in
    let made : Logged = record { piece = piece; expected = checked_by write piece } in
    let both = cond_some (is_intact history write piece) made entry
    (sym (log_is_intact plan history checked_by write piece planned legal begun) ∙ is) in
    subst (IsOfIntact checked_by history write) both.1 (record { begun = begun; intact = both.0; expected = refl })

-- where a write may end, the log has nothing of it yet
pub fresh_at_end : (plan : Plan) (history : List Event) (checked_by : WriteId → Piece → Expected)
    (worker id : ℕ) (outcome : Outcome) (io : Started)
    → IsPlanned plan
    → is_legal plan history ≡ true
    → may_happen plan history (End worker id outcome) ≡ true
    → slice_get (started history) id ≡ Some io
    → is_write io.kind ≡ true
    → logged (log_after checked_by history) io.write ≡ None
fresh_at_end plan history checked_by worker id outcome io planned legal may at kind =
    unended_is_unlogged plan history checked_by id io planned legal at kind
    (ap (λ (o : Option Outcome). ended_whole o && not (has_raced history id)) (flying_of plan history worker id outcome may).unended)
