-- The log of a history with one more event, and what an event's I/O is in it.
use Rattle.std.proofs.Common.{◌≡◌, ℕ, suc, List, [], ◌∷◌, ◌++◌, Bool, true, false, cond, ◌&&◌, not, refl, sym, ◌∙◌, ap, append-nil}
use Rattle.std.specs.Prelude.{Option, Some, None, slice_get, filter_map}
use Rattle.std.specs.List.{cons_option}
use Rattle.std.proofs.lemmas.List.Elements.{filter_map-append}
use Rattle.std.proofs.lemmas.List.Sums.{fold_push}
use Rattle.jr_model.specs.declared.blocks.Piece.{Piece}
use Rattle.jr_model.specs.declared.contents.Expected.{Expected}
use Rattle.jr_model.specs.declared.events.Event.{Event}
use Rattle.jr_model.specs.declared.events.Event.TheVariants.{Issue, Probe, Skip, End, Verdict}
use Rattle.jr_model.specs.declared.events.Outcome.{Outcome}
use Rattle.jr_model.specs.declared.events.Started.{Started}
use Rattle.jr_model.specs.declared.events.WriteId.{WriteId}
use Rattle.jr_model.specs.History.{started, started_by, ended_whole, is_write}
use Rattle.jr_model.specs.Legal.{is_legal, may_happen}
use Rattle.jr_model.specs.Plan.{Plan}
use Rattle.jr_model.specs.Races.{has_raced}
use Rattle.jr_writes.specs.LoggedWrites.{settled, unsettled}
use Rattle.jr_writes.specs.LogSteps.{LogStep, settle, unsettle, after_step, log_of, step_of, step_at_end, steps_of}
use Rattle.jr_laws_quiet.proofs.Races.{stays_ended, stays_started}
use Rattle.jr_laws_log.specs.Intact.{log_after, after_if}

-- the step that an event is doesn't depend on what is started later
module _ (plan : Plan) (h : List Event) (e : Event) (checked_by : WriteId → Piece → Expected) (legal : is_legal plan h ≡ true) where
  abbrev before : Event → Option LogStep
  before x = step_of checked_by (has_raced h) (started h) x

  abbrev after : Event → Option LogStep
  after x = step_of checked_by (has_raced (h ++ e ∷ [])) (started (h ++ e ∷ [])) x

  at_end : (io : ℕ) (outcome : Outcome) → (has_raced (h ++ e ∷ []) io ≡ has_raced h io) × (slice_get (started (h ++ e ∷ [])) io ≡ slice_get (started h) io) → step_at_end checked_by (has_raced (h ++ e ∷ []) io) (slice_get (started (h ++ e ∷ [])) io) outcome ≡ step_at_end checked_by (has_raced h io) (slice_get (started h) io) outcome
  at_end io outcome same =
      ap (λ (r : Bool). step_at_end checked_by r (slice_get (started (h ++ e ∷ [])) io) outcome) same.0
      ∙ ap (λ (o : Option Started). step_at_end checked_by (has_raced h io) o outcome) same.1

  earlier_agrees : (k : ℕ) (x : Event) → slice_get h k ≡ Some x → after x ≡ before x
  earlier_agrees k (End worker io outcome) at = at_end io outcome (stays_ended plan h legal e k worker io outcome at)
  earlier_agrees k (Issue worker dir write piece) at = refl
  earlier_agrees k (Probe worker write piece) at = refl
  earlier_agrees k (Skip worker write) at = refl
  earlier_agrees k (Verdict worker io verdict) at = refl

  own_agrees : (x : Event) → x ≡ e → after x ≡ before x
  own_agrees (End worker io outcome) is = at_end io outcome (stays_started plan h legal e io (ap started_by (sym is)))
  own_agrees (Issue worker dir write piece) is = refl
  own_agrees (Probe worker write piece) is = refl
  own_agrees (Skip worker write) is = refl
  own_agrees (Verdict worker io verdict) is = refl

  same_steps : (events : List Event) → ((k : ℕ) (x : Event) → slice_get events k ≡ Some x → after x ≡ before x) → filter_map after events ≡ filter_map before events
  same_steps [] agrees = refl
  same_steps (x ∷ events) agrees =
      ap (λ (o : Option LogStep). cons_option o (filter_map after events)) (agrees 0 x refl)
      ∙ ap (cons_option (before x)) (same_steps events (λ k y at. agrees (suc k) y at))

  -- one more event is one more step, or none
  steps_more : steps_of checked_by (h ++ e ∷ []) ≡ steps_of checked_by h ++ cons_option (before e) []
  steps_more =
      filter_map-append after h (e ∷ [])
      ∙ ap (λ (steps : List LogStep). steps ++ cons_option (after e) []) (same_steps h earlier_agrees)
      ∙ ap (λ (o : Option LogStep). steps_of checked_by h ++ cons_option o []) (own_agrees e refl)

log_append : (steps : List LogStep) (o : Option LogStep) → log_of (steps ++ cons_option o []) ≡ after_if o (log_of steps)
log_append steps None = ap log_of (append-nil steps)
log_append steps (Some step) = fold_push after_step [] steps step

-- the log makes the step that the event is
pub log_grows : (plan : Plan) (history : List Event) (event : Event) (checked_by : WriteId → Piece → Expected)
    → is_legal plan history ≡ true
    → may_happen plan history event ≡ true
    → log_after checked_by (history ++ event ∷ []) ≡ after_if (step_of checked_by (has_raced history) (started history) event) (log_after checked_by history)
log_grows plan history event checked_by legal may =
    ap log_of (steps_more plan history event checked_by legal)
    ∙ log_append (steps_of checked_by history) (step_of checked_by (has_raced history) (started history) event)

module _ (plan : Plan) (h : List Event) (checked_by : WriteId → Piece → Expected) (legal : is_legal plan h ≡ true) where
  -- an event that is no step
  pub log-same : (e : Event)
      → may_happen plan h e ≡ true
      → step_of checked_by (has_raced h) (started h) e ≡ None
      → log_after checked_by (h ++ e ∷ []) ≡ log_after checked_by h
  log-same e may none =
      log_grows plan h e checked_by legal may ∙ ap (λ (o : Option LogStep). after_if o (log_after checked_by h)) none

  module _ (worker id : ℕ) (outcome : Outcome) (io : Started)
      (may : may_happen plan h (End worker id outcome) ≡ true) (at : slice_get (started h) id ≡ Some io) where
    -- the step by whether the I/O is a write, and whether it ended whole and didn't race
    abbrev step_by : Bool → Bool → Option LogStep
    step_by write whole = cond write (Some (cond whole (settle io.write io.piece (checked_by io.write io.piece)) (unsettle io.piece))) None

    log_end : (write whole : Bool)
        → is_write io.kind ≡ write
        → (ended_whole (Some outcome) && not (has_raced h id)) ≡ whole
        → log_after checked_by (h ++ End worker id outcome ∷ []) ≡ after_if (step_by write whole) (log_after checked_by h)
    log_end write whole kind ended =
        log_grows plan h (End worker id outcome) checked_by legal may
        ∙ ap (λ (o : Option Started). after_if (step_at_end checked_by (has_raced h id) o outcome) (log_after checked_by h)) at
        ∙ ap (λ (b : Bool). after_if (step_by b (ended_whole (Some outcome) && not (has_raced h id))) (log_after checked_by h)) kind
        ∙ ap (λ (b : Bool). after_if (step_by write b) (log_after checked_by h)) ended

    -- the end of a read or a check
    pub log-read : is_write io.kind ≡ false → log_after checked_by (h ++ End worker id outcome ∷ []) ≡ log_after checked_by h
    log-read other = log_end false (ended_whole (Some outcome) && not (has_raced h id)) other refl

    -- the whole end of a write that didn't race
    pub log-whole : is_write io.kind ≡ true
        → (ended_whole (Some outcome) && not (has_raced h id)) ≡ true
        → log_after checked_by (h ++ End worker id outcome ∷ [])
        ≡ settled (log_after checked_by h) io.write io.piece (checked_by io.write io.piece)
    log-whole write whole = log_end true true write whole

    -- another end of a write
    pub log-failed : is_write io.kind ≡ true
        → (ended_whole (Some outcome) && not (has_raced h id)) ≡ false
        → log_after checked_by (h ++ End worker id outcome ∷ []) ≡ unsettled (log_after checked_by h) io.piece
    log-failed write failed = log_end true false write failed
