-- What a history started: how it grows by an event, and when each I/O was started.
use Rattle.std.proofs.Common.{◌≡◌, ℕ, zero, suc, ◌<◌, List, [], ◌∷◌, ◌++◌, length, true, refl, sym, ◌∙◌, ap, subst, arith, inl, inr, append_assoc, append-nil, length-append}
use Rattle.std.specs.Prelude.{◌⊎◌, Option, Some, None, slice_get}
use Rattle.std.specs.List.{cons_option}
use Rattle.std.proofs.lemmas.Bool.{and_parts}
use Rattle.std.proofs.lemmas.List.Elements.{filter_map-append}
use Rattle.std.proofs.lemmas.Option.{slice_get_within, same_Some}
use Rattle.jr_model.specs.declared.events.Event.{Event}
use Rattle.jr_model.specs.declared.events.Started.{Started}
use Rattle.jr_model.specs.History.{started, started_by}
use Rattle.jr_model.specs.Legal.{may_happen, legal_after, is_legal}
use Rattle.jr_model.specs.Plan.{Plan}
use Rattle.jr_model.proofs.LegalLaws.{legal_front}
use Rattle.jr_model.proofs.MachineLaws.{got_front}
use Rattle.jr_model.proofs.PlaceLemmas.{got_last}

-- an event that starts an I/O adds it at the end
pub started-starts : (history : List Event) (e : Event) (io : Started) → started_by e ≡ Some io → started (history ++ e ∷ []) ≡ started history ++ io ∷ []
started-starts history e io starts =
    filter_map-append started_by history (e ∷ []) ∙ ap (λ (o : Option Started). started history ++ cons_option o []) starts

-- an event that starts nothing adds nothing
pub started-other : (history : List Event) (e : Event) → started_by e ≡ None → started (history ++ e ∷ []) ≡ started history
started-other history e nothing =
    filter_map-append started_by history (e ∷ [])
    ∙ ap (λ (o : Option Started). started history ++ cons_option o []) nothing
    ∙ append-nil (started history)

-- the started I/Os of a longer history begin with those so far
pub started-append : (history events : List Event) → started (history ++ events) ≡ started history ++ started events
started-append history events = filter_map-append started_by history events

pub length-started-starts : (history : List Event) (e : Event) (io : Started) → started_by e ≡ Some io → length (started (history ++ e ∷ [])) ≡ suc (length (started history))
length-started-starts history e io starts =
    omega (arith, ap length (started-starts history e io starts), length-append (started history) (io ∷ []))

pub length-started-other : (history : List Event) (e : Event) → started_by e ≡ None → length (started (history ++ e ∷ [])) ≡ length (started history)
length-started-other history e nothing = ap length (started-other history e nothing)

-- what is started stays at its place
pub started_stays : (history events : List Event) (id : ℕ) (io : Started) → slice_get (started history) id ≡ Some io → slice_get (started (history ++ events)) id ≡ Some io
started_stays history events id io at =
    ap (λ (ios : List Started). slice_get ios id) (started-append history events)
    ∙ got_front (started history) (started events) id io at

-- what an event starts has the next number
pub started_next : (history : List Event) (e : Event) (io : Started) → started_by e ≡ Some io → slice_get (started (history ++ e ∷ [])) (length (started history)) ≡ Some io
started_next history e io starts =
    ap (λ (ios : List Started). slice_get ios (length (started history))) (started-starts history e io starts)
    ∙ got_last (started history) io

-- an I/O has a number below how many were started
pub started_below : (history : List Event) (id : ℕ) (io : Started) → slice_get (started history) id ≡ Some io → id < length (started history)
started_below history id io at = slice_get_within (started history) id io at

-- an item of a list with one more is one of the list, or that one
pub got_more : {X : Type 0} (xs : List X) (y : X) (k : ℕ) (x : X) → slice_get (xs ++ y ∷ []) k ≡ Some x → (slice_get xs k ≡ Some x) ⊎ ((k ≡ length xs) × (x ≡ y))
got_more [] y zero x h = inr (refl, sym (same_Some y x h))
got_more [] y (suc k) x h = cc
got_more (first ∷ xs) y zero x h = inl h
got_more (first ∷ xs) y (suc k) x h =
    elim (got_more xs y k x h) [ inl before ↦ inl before | inr last ↦ inr (ap suc last.0, last.1) ]

-- an item at a place within the first of two lists is an item of the first
pub got_within : {X : Type 0} (xs ys : List X) (k : ℕ) (x : X) → k < length xs → slice_get (xs ++ ys) k ≡ Some x → slice_get xs k ≡ Some x
got_within [] ys k x below h = absurd (omega arith)
got_within (first ∷ xs) ys zero x below h = h
got_within (first ∷ xs) ys (suc k) x below h = got_within xs ys k x (omega arith) h

-- an I/O was started by an event that starts it, with its number of I/Os before
pub record IsStartedBy (history : List Event) (id : ℕ) (io : Started) : Type 0 where
  pub before : List Event
  pub event : Event
  pub after : List Event
  pub split : history ≡ before ++ event ∷ after
  pub starts : started_by event ≡ Some io
  pub place : length (started before) ≡ id

-- the same of a list with its first event, by what that event starts
begins : (e : Event) (events : List Event) (first : Option Started) (id : ℕ) (io : Started)
    → started_by e ≡ first
    → slice_get (cons_option first (started events)) id ≡ Some io
    → ((k : ℕ) → slice_get (started events) k ≡ Some io → IsStartedBy events k io)
    → IsStartedBy (e ∷ events) id io
begins e events None id io starts at rest =
    let found = rest id at in
    record {
      before = e ∷ found.before;
      event = found.event;
      after = found.after;
      split = ap (λ (all : List Event). e ∷ all) found.split;
      starts = found.starts;
      place = ap (λ (o : Option Started). length (cons_option o (started found.before))) starts ∙ found.place;
    }
begins e events (Some s) zero io starts at rest = record {
  before = [];
  event = e;
  after = events;
  split = refl;
  starts = starts ∙ at;
  place = refl;
}
begins e events (Some s) (suc k) io starts at rest =
    let found = rest k at in
    record {
      before = e ∷ found.before;
      event = found.event;
      after = found.after;
      split = ap (λ (all : List Event). e ∷ all) found.split;
      starts = found.starts;
      place = ap (λ (o : Option Started). length (cons_option o (started found.before))) starts ∙ ap suc found.place;
    }

pub is_started_by : (history : List Event) (id : ℕ) (io : Started) → slice_get (started history) id ≡ Some io → IsStartedBy history id io
is_started_by [] id io at = cc
is_started_by (e ∷ events) id io at =
    begins e events (started_by e) id io refl at (λ k there. is_started_by events k io there)

-- each event of a legal history may happen after its front
pub middle_may_happen : (plan : Plan) (front before after : List Event) (e : Event) → legal_after plan front (before ++ e ∷ after) ≡ true → may_happen plan (front ++ before) e ≡ true
middle_may_happen plan front [] after e h =
    let parts = and_parts (may_happen plan front e) (legal_after plan (front ++ e ∷ []) after) h in
    subst (λ (all : List Event). may_happen plan all e ≡ true) (sym (append-nil front)) parts.0
middle_may_happen plan front (x ∷ before) after e h =
    let parts = and_parts (may_happen plan front x) (legal_after plan (front ++ x ∷ []) (before ++ e ∷ after)) h in
    subst (λ (all : List Event). may_happen plan all e ≡ true) (append_assoc front (x ∷ []) before)
    (middle_may_happen plan (front ++ x ∷ []) before after e parts.1)

-- an I/O of a legal history was started by an event that may happen after its legal front
pub record IsStartedLegally (plan : Plan) (history : List Event) (id : ℕ) (io : Started) : Type 0 where
  pub moment : IsStartedBy history id io
  pub legal : is_legal plan moment.before ≡ true
  pub may : may_happen plan moment.before moment.event ≡ true

pub is_started_legally : (plan : Plan) (history : List Event) (id : ℕ) (io : Started) → is_legal plan history ≡ true → slice_get (started history) id ≡ Some io → IsStartedLegally plan history id io
is_started_legally plan history id io legal at =
    let moment = is_started_by history id io at in
    let whole : is_legal plan (moment.before ++ moment.event ∷ moment.after) ≡ true =
    subst (λ (all : List Event). is_legal plan all ≡ true) moment.split legal in
    record {
      moment = moment;
      legal = legal_front plan [] moment.before (moment.event ∷ moment.after) whole;
      may = middle_may_happen plan [] moment.before moment.after moment.event whole;
    }
