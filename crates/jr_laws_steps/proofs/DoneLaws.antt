-- The history of one worker over a right memory: nothing is in flight, and no verdict is missing.
use Rattle.std.proofs.Common.{◌≡◌, ℕ, zero, suc, ◌+◌, ◌*◌, List, [], ◌∷◌, ◌++◌, length, Bool, true, false, cond, ◌&&◌, ◌||◌, not, refl, sym, ◌∙◌, ap, subst, arith, inl, inr}
use Rattle.std.specs.Prelude.{◌⊎◌, Option, Some, None, slice_get, ◌==◌, is_none}
use Rattle.std.specs.Option.{option_or}
use Rattle.std.specs.List.{list_any, cons_option}
use Rattle.std.proofs.lemmas.Bool.{and_parts, and_from, and_left, and_right, or_cases, or_left, or_right, not_from_true, not-true, eq-eqb, cond-false}
use Rattle.std.proofs.lemmas.List.Elements.{filter_map-append}
use Rattle.std.proofs.lemmas.Option.{same_Some}
use Rattle.jr_model.specs.declared.events.Event.{Event}
use Rattle.jr_model.specs.declared.events.Event.TheVariants.{End}
use Rattle.jr_model.specs.declared.events.Outcome.{Outcome}
use Rattle.jr_model.specs.declared.events.Outcome.TheVariants.{Whole}
use Rattle.jr_model.specs.declared.events.Started.{Started}
use Rattle.jr_model.specs.declared.tickets.TicketKind.{TicketKind}
use Rattle.jr_model.specs.declared.tickets.TicketKind.TheVariants as ticket
use Rattle.jr_model.specs.Choice.{choice}
use Rattle.jr_model.specs.History.{started, started_by, first_given, end_of, outcome_of, if_flying, in_flight, is_verdict_on, is_judged, is_judged_kind, ended_whole, if_awaiting, awaiting}
use Rattle.jr_model.specs.Legal.{is_complete}
use Rattle.jr_model.specs.Machine.{work_of}
use Rattle.jr_model.specs.Plan.{Plan}
use Rattle.jr_model.specs.Replies.{FileBytes}
use Rattle.jr_model.specs.Serial.{carried_out, ends_as, followed_by, memory_after, goes_on, serial_after, serial_history}
use Rattle.jr_model.proofs.SerialLaws.{first_given-append, any-append, legal_serial}
use Rattle.jr_model.specs.PlanFacts.{IsPlanned}
use Rattle.jr_model.proofs.PlaceLemmas.{keeps_none}
use Rattle.jr_model.proofs.PlanLemmas.{numbered_of}
use Rattle.jr_laws_steps.proofs.IdleLaws.{idle_is_over}

-- where the I/O of a number has ended, and, if it gets a verdict, has it, it is done
abbrev pub is_done : List Event → ℕ → Started → Bool
is_done history id io =
    not (is_none (outcome_of history id)) && (not (is_judged_kind io.kind) || is_judged history id)

-- all that was started is done
abbrev pub AreDone : List Event → Type 0
AreDone history = (id : ℕ) (io : Started) → slice_get (started history) id ≡ Some io → is_done history id io ≡ true

-- what is done isn't in flight
done_flies : (history : List Event) (id : ℕ) (io : Started) → is_done history id io ≡ true → if_flying history (id, io) ≡ None
done_flies history id io done =
    let ended = and_parts (not (is_none (outcome_of history id))) (not (is_judged_kind io.kind) || is_judged history id) done in
    cond-false (is_none (outcome_of history id)) (Some io) None (not-true (is_none (outcome_of history id)) ended.0)

-- what is done awaits no verdict
done_awaits : (history : List Event) (id : ℕ) (io : Started) → is_done history id io ≡ true → if_awaiting history (id, io) ≡ None
done_awaits history id io done =
    let ended = and_parts (not (is_none (outcome_of history id))) (not (is_judged_kind io.kind) || is_judged history id) done in
    cond-false (is_judged_kind io.kind && ended_whole (outcome_of history id) && not (is_judged history id)) (Some io) None
    (elim (or_cases (not (is_judged_kind io.kind)) (is_judged history id) ended.1) [
      | inl other ↦
          and_left (is_judged_kind io.kind && ended_whole (outcome_of history id)) (not (is_judged history id))
          (and_left (is_judged_kind io.kind) (ended_whole (outcome_of history id)) (not-true (is_judged_kind io.kind) other))
      | inr judged ↦
          and_right (is_judged_kind io.kind && ended_whole (outcome_of history id)) (not (is_judged history id)) (not_from_true (is_judged history id) judged)
    ])

-- where all is done, nothing flies
pub done_rests : (history : List Event) → AreDone history → in_flight history ≡ []
done_rests history done =
    keeps_none (if_flying history) 0 (started history)
    (λ id io at. let same : id ≡ 0 + id = omega arith in subst (λ (n : ℕ). if_flying history (n, io) ≡ None) same (done_flies history id io (done id io at)))

-- and no verdict is missing
pub done_judged : (history : List Event) → AreDone history → awaiting history ≡ []
done_judged history done =
    keeps_none (if_awaiting history) 0 (started history)
    (λ id io at. let same : id ≡ 0 + id = omega arith in subst (λ (n : ℕ). if_awaiting history (n, io) ≡ None) same (done_awaits history id io (done id io at)))

-- a place of two lists, one behind the other
cases_append : {X : Type 0} (xs ys : List X) (k : ℕ) (x : X) → slice_get (xs ++ ys) k ≡ Some x → (slice_get xs k ≡ Some x) ⊎ ((j : ℕ) × (k ≡ length xs + j) × (slice_get ys j ≡ Some x))
cases_append [] ys k x at = inr (k, omega arith, at)
cases_append (first ∷ xs) ys zero x at = inl at
cases_append (first ∷ xs) ys (suc k) x at =
    elim (cases_append xs ys k x at) [
      | inl before ↦ inl before
      | inr behind ↦ inr (behind.0, omega (arith, behind.1), behind.2)
    ]

-- an end among these events, or before them
ended_in : (history events : List Event) (id : ℕ) → (is_none (outcome_of history id) ≡ false) ⊎ (is_none (first_given (end_of id) events) ≡ false) → not (is_none (outcome_of (history ++ events) id)) ≡ true
ended_in history events id ended =
    ap (λ (o : Option Outcome). not (is_none o)) (first_given-append (end_of id) history events)
    ∙ either (outcome_of history id) (first_given (end_of id) events) ended
  where
    either : (a b : Option Outcome) → (is_none a ≡ false) ⊎ (is_none b ≡ false) → not (is_none (option_or a b)) ≡ true
    either (Some x) b h = refl
    either None (Some y) h = refl
    either None None h = elim h [ inl e ↦ cc | inr e ↦ cc ]

-- what is done stays so
done_more : (history events : List Event) (id : ℕ) (io : Started) → is_done history id io ≡ true → is_done (history ++ events) id io ≡ true
done_more history events id io done =
    let parts = and_parts (not (is_none (outcome_of history id))) (not (is_judged_kind io.kind) || is_judged history id) done in
    and_from (not (is_none (outcome_of (history ++ events) id))) (not (is_judged_kind io.kind) || is_judged (history ++ events) id)
    (ended_in history events id (inl (not-true (is_none (outcome_of history id)) parts.0)))
    (elim (or_cases (not (is_judged_kind io.kind)) (is_judged history id) parts.1) [
      | inl other ↦ or_left (not (is_judged_kind io.kind)) (is_judged (history ++ events) id) other
      | inr judged ↦ or_right (not (is_judged_kind io.kind)) (is_judged (history ++ events) id)
          (any-append (is_verdict_on id) history events ∙ or_left (is_judged history id) (list_any (is_verdict_on id) events) judged)
    ])

-- the end of this I/O
this_end : (id : ℕ) (rest : Option Outcome) → is_none (option_or (end_of id (End 0 id Whole)) rest) ≡ false
this_end id rest = ap (λ (b : Bool). is_none (option_or (cond b (Some Whole) None) rest)) (eq-eqb id id refl)

-- what is behind the event that starts an I/O: its end, and its verdict where it gets one
record EndsDone (id : ℕ) (kind : TicketKind) (events : List Event) : Type 0 where
  pub none : started events ≡ []
  pub ended : is_none (first_given (end_of id) events) ≡ false
  pub judged : (not (is_judged_kind kind) || list_any (is_verdict_on id) events) ≡ true

ends_done : (plan : Plan) (memory : List FileBytes) (id : ℕ) (io : Started) (kind : TicketKind) → EndsDone id kind (ends_as plan memory id io kind)
ends_done plan memory id io ticket.Read = record { none = refl; ended = this_end id None; judged = refl }
ends_done plan memory id io ticket.Write = record { none = refl; ended = this_end id None; judged = refl }
ends_done plan memory id io ticket.Probe = record { none = refl; ended = this_end id None; judged = or_left (id == id) false (eq-eqb id id refl) }
ends_done plan memory id io ticket.ReadCheck = record { none = refl; ended = this_end id None; judged = or_left (id == id) false (eq-eqb id id refl) }

-- what a step starts is done with it
starts_done : (plan : Plan) (history : List Event) (e : Event) (first : Option Started) (j : ℕ) (io : Started) → started_by e ≡ first → slice_get (cons_option first (started (followed_by plan (memory_after plan history) (length (started history)) first))) j ≡ Some io → is_done (history ++ e ∷ followed_by plan (memory_after plan history) (length (started history)) first) (length (started history) + j) io ≡ true
starts_done plan history e None j io starts at = cc
starts_done plan history e (Some s) (suc j) io starts at =
    let ends = ends_done plan (memory_after plan history) (length (started history)) s s.kind in
    absurd (none_got j io (sym (ap (λ (ios : List Started). slice_get ios j) ends.none) ∙ at))
  where
    none_got : (k : ℕ) (x : Started) → None ≡ Some x → ⊥
    none_got k x h = cc
starts_done plan history e (Some s) zero io starts at =
    let id = length (started history) in
    let rest = ends_as plan (memory_after plan history) id s s.kind in
    let events = e ∷ rest in
    let ends = ends_done plan (memory_after plan history) id s s.kind in
    let same : id ≡ id + 0 = omega arith in
    subst (λ (n : ℕ). is_done (history ++ events) n io ≡ true) same
    (subst (λ (x : Started). is_done (history ++ events) id x ≡ true) (same_Some s io at)
    (and_from (not (is_none (outcome_of (history ++ events) id))) (not (is_judged_kind s.kind) || is_judged (history ++ events) id)
    (ended_in history events id (inr (behind_first (end_of id e) (first_given (end_of id) rest) ends.ended)))
    (elim (or_cases (not (is_judged_kind s.kind)) (list_any (is_verdict_on id) rest) ends.judged) [
      | inl other ↦ or_left (not (is_judged_kind s.kind)) (is_judged (history ++ events) id) other
      | inr judged ↦ or_right (not (is_judged_kind s.kind)) (is_judged (history ++ events) id)
          (any-append (is_verdict_on id) history events
          ∙ or_right (is_judged history id) (list_any (is_verdict_on id) events) (or_right (is_verdict_on id e) (list_any (is_verdict_on id) rest) judged))
    ])))
  where
    behind_first : (a b : Option Outcome) → is_none b ≡ false → is_none (option_or a b) ≡ false
    behind_first None b h = h
    behind_first (Some x) b h = refl

-- a choice that is carried out leaves all done
done_choice : (plan : Plan) (history : List Event) (e : Event) → AreDone history → AreDone (history ++ carried_out plan history e)
done_choice plan history e done id io at =
    let events = carried_out plan history e in
    let place = subst (λ (ios : List Started). slice_get ios id ≡ Some io) (filter_map-append started_by history events) at in
    elim (cases_append (started history) (started events) id io place) [
      | inl before ↦ done_more history events id io (done id io before)
      | inr now ↦ subst (λ (n : ℕ). is_done (history ++ events) n io ≡ true) (sym now.1) (starts_done plan history e (started_by e) now.0 io refl now.2)
    ]

done_goes_on : (plan : Plan) (rest : List Event → List Event) (history : List Event) (o : Option Event) → ((longer : List Event) → AreDone longer → AreDone (rest longer)) → AreDone history → AreDone (goes_on plan rest history o)
done_goes_on plan rest history None keeps done = done
done_goes_on plan rest history (Some e) keeps done = keeps (history ++ carried_out plan history e) (done_choice plan history e done)

pub done_serial : (limit : ℕ) (plan : Plan) (history : List Event) → AreDone history → AreDone (serial_after limit plan history)
done_serial zero plan history done = done
done_serial (suc limit) plan history done =
    done_goes_on plan (serial_after limit plan) history (choice plan history 0) (λ more still. done_serial limit plan more still) done

none_started : AreDone []
none_started id io at = cc

-- in the history of one worker all is done
pub serial_done : (plan : Plan) → AreDone (serial_history plan)
serial_done plan = done_serial (2 * work_of plan) plan [] none_started

-- the history of one worker, after which nothing may be started, is complete
pub serial_complete : (plan : Plan) → IsPlanned plan → choice plan (serial_history plan) 0 ≡ None → is_complete plan (serial_history plan) ≡ true
serial_complete plan planned ends =
    idle_is_over plan (serial_history plan) 0 planned (legal_serial plan (numbered_of plan planned)) ends
    (done_rests (serial_history plan) (serial_done plan)) (done_judged (serial_history plan) (serial_done plan))
