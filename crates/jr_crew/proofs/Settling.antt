-- Between two turns all that was started has ended, and each check that ended whole has its verdict.
use Rattle.std.proofs.Common.{◌≡◌, ℕ, ◌+◌, List, [], ◌∷◌, ◌++◌, length, Bool, true, false, cond, ◌&&◌, not, refl, sym, ◌∙◌, ap, subst, arith, inl, inr}
use Rattle.std.specs.Prelude.{Option, Some, None, slice_get, is_none}
use Rattle.std.specs.Option.{option_or}
use Rattle.std.specs.List.{list_any}
use Rattle.std.proofs.lemmas.Bool.{or_left}
use Rattle.jr_model.specs.declared.events.Event.{Event}
use Rattle.jr_model.specs.declared.events.Outcome.{Outcome}
use Rattle.jr_model.specs.declared.events.Outcome.TheVariants.{Whole, Failed, Short}
use Rattle.jr_model.specs.declared.events.Started.{Started}
use Rattle.jr_model.specs.declared.tickets.TicketKind.{TicketKind}
use Rattle.jr_model.specs.declared.tickets.TicketKind.TheVariants as ticket
use Rattle.jr_model.specs.History.{started, end_of, first_given, if_flying, in_flight, is_verdict_on, is_judged, is_judged_kind, ended_whole, if_awaiting, awaiting}
use Rattle.jr_model.proofs.SerialLaws.{first_given-append, any-append}
use Rattle.jr_header.specs.Served.{is_whole_check}
use Rattle.jr_model.proofs.PlaceLemmas.{keeps_none}
use Rattle.jr_laws_steps.proofs.StartedLemmas.{got_more}
use Rattle.jr_crew.specs.Turns.{IsSettled, AreSettled}

pub none_settled : AreSettled []
none_settled id io at = cc

whole_check : (kind : TicketKind) (o : Outcome) → (is_judged_kind kind && ended_whole (Some o)) ≡ is_whole_check kind o
whole_check ticket.Read o = refl
whole_check ticket.Write o = refl
whole_check ticket.Probe Whole = refl
whole_check ticket.Probe Failed = refl
whole_check ticket.Probe (Short n) = refl
whole_check ticket.ReadCheck Whole = refl
whole_check ticket.ReadCheck Failed = refl
whole_check ticket.ReadCheck (Short n) = refl

no_flight : (history : List Event) (id : ℕ) (io : Started) → IsSettled history id io → if_flying history (id, io) ≡ None
no_flight history id io settled = ap (λ (o : Option Outcome). cond (is_none o) (Some io) None) settled.ended

waits_not : (whole judged : Bool) → (whole ≡ true → judged ≡ true) → (whole && not judged) ≡ false
waits_not true judged h = ap not (h refl)
waits_not false judged h = refl

no_wait : (history : List Event) (id : ℕ) (io : Started) → IsSettled history id io → if_awaiting history (id, io) ≡ None
no_wait history id io settled =
    ap (λ (o : Option Outcome). cond (is_judged_kind io.kind && ended_whole o && not (is_judged history id)) (Some io) None) settled.ended
    ∙ ap (λ (b : Bool). cond (b && not (is_judged history id)) (Some io) None) (whole_check io.kind settled.outcome)
    ∙ ap (λ (b : Bool). cond b (Some io) None) (waits_not (is_whole_check io.kind settled.outcome) (is_judged history id) settled.judged)

-- then nothing is in flight
pub settled_rests : (history : List Event) → AreSettled history → in_flight history ≡ []
settled_rests history settled =
    keeps_none (if_flying history) 0 (started history)
    (λ id io at. let same : id ≡ 0 + id = omega arith in subst (λ (n : ℕ). if_flying history (n, io) ≡ None) same (no_flight history id io (settled id io at)))

-- and no verdict is missing
pub settled_judged : (history : List Event) → AreSettled history → awaiting history ≡ []
settled_judged history settled =
    keeps_none (if_awaiting history) 0 (started history)
    (λ id io at. let same : id ≡ 0 + id = omega arith in subst (λ (n : ℕ). if_awaiting history (n, io) ≡ None) same (no_wait history id io (settled id io at)))

-- what is settled stays so
settled_more : (history events : List Event) (id : ℕ) (io : Started) → IsSettled history id io → IsSettled (history ++ events) id io
settled_more history events id io settled = record {
  outcome = settled.outcome;
  ended =
      first_given-append (end_of id) history events
      ∙ ap (λ (o : Option Outcome). option_or o (first_given (end_of id) events)) settled.ended;
  judged = λ (whole : is_whole_check io.kind settled.outcome ≡ true).
      any-append (is_verdict_on id) history events ∙ or_left (is_judged history id) (list_any (is_verdict_on id) events) (settled.judged whole);
}

-- where one more is started and settled, all is settled
pub settled_next : (before longer events : List Event) (io : Started) → AreSettled before → longer ≡ before ++ events → started longer ≡ started before ++ io ∷ [] → IsSettled longer (length (started before)) io → AreSettled longer
settled_next before longer events io settled same more here id s at =
    elim (got_more (started before) io id s (subst (λ (ios : List Started). slice_get ios id ≡ Some s) more at)) [
      | inl old ↦ subst (λ (h : List Event). IsSettled h id s) (sym same) (settled_more before events id s (settled id s old))
      | inr new ↦
          subst (λ (n : ℕ). IsSettled longer n s) (sym new.0)
          (subst (λ (x : Started). IsSettled longer (length (started before)) x) (sym new.1) here)
    ]

-- where nothing more is started, all stays settled
pub settled_still : (before longer events : List Event) → AreSettled before → longer ≡ before ++ events → started longer ≡ started before → AreSettled longer
settled_still before longer events settled same none id s at =
    subst (λ (h : List Event). IsSettled h id s) (sym same)
    (settled_more before events id s (settled id s (subst (λ (ios : List Started). slice_get ios id ≡ Some s) none at)))
