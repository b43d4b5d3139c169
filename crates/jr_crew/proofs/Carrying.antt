-- What was started is carried out by one call: it ends, and gets its verdict.
use Rattle.std.proofs.Common.{◌≡◌, ℕ, List, [], ◌∷◌, ◌++◌, length, replicate, Bool, true, false, cond, ◌||◌, refl, sym, ◌∙◌, ap, subst, arith, append_assoc, append-nil}
use Rattle.std.specs.Prelude.{Option, Some, None, slice_get, ◌==◌, is_none}
use Rattle.std.specs.Option.{option_or}
use Rattle.std.specs.List.{list_any}
use Rattle.std.proofs.lemmas.Bool.{cond_both, eq-eqb, or_left, or_right}
use Rattle.std.proofs.lemmas.List.{length-replicate}
use Rattle.jr_model.specs.declared.events.Event.{Event}
use Rattle.jr_model.specs.declared.events.Event.TheVariants.{End, Verdict}
use Rattle.jr_model.specs.declared.events.Outcome.{Outcome}
use Rattle.jr_model.specs.declared.events.Outcome.TheVariants.{Whole, Failed, Short}
use Rattle.jr_model.specs.declared.events.Started.{Started}
use Rattle.jr_model.specs.declared.tickets.Ticket.{Ticket}
use Rattle.jr_model.specs.declared.tickets.TicketKind.{TicketKind}
use Rattle.jr_model.specs.declared.tickets.TicketKind.TheVariants as ticket
use Rattle.jr_model.specs.History.{first_given, started, end_of, outcome_of, is_verdict_on, is_judged, is_judged_kind, ended_whole}
use Rattle.jr_model.specs.Judgement.{verdict_of}
use Rattle.jr_model.specs.Legal.{is_legal, may_happen}
use Rattle.jr_model.specs.Plan.{Plan}
use Rattle.jr_model.specs.Replies.{EngineState}
use Rattle.jr_model.proofs.LegalLaws.{is_legal-more}
use Rattle.jr_model.proofs.RaceLaws.{raced_other}
use Rattle.jr_model.proofs.SerialLaws.{first_given-append, any-append}
use Rattle.jr_model.specs.PlanFacts.{IsPlanned}
use Rattle.jr_engines.specs.Answers.{AnswerParts, Answers}
use Rattle.jr_header.specs.Served.{asked_with, is_whole_check}
use Rattle.jr_laws_steps.proofs.StartedLemmas.{started-other, started-append}
use Rattle.jr_desk_tickets.specs.Kept.{IsOwn, tickets_of}
use Rattle.jr_desk_tickets.specs.Tickets.{ticket_of}
use Rattle.jr_desk_state.specs.Takes.{IsChosen}
use Rattle.jr_desk_state.proofs.Keeping.{tickets_more, chosen_legal, chosen_started, may_end, may_judge}
use Rattle.jr_desk.proofs.Refusing.{judged_probe}
use Rattle.jr_crew.specs.Turns.{ended_by, AreSettled}
use Rattle.jr_crew.proofs.Chosen.{chosen_unended, chosen_unjudged, chosen_own}
use Rattle.jr_crew.proofs.Settling.{settled_next}
use Rattle.jr_crew.proofs.Unraced.{chosen_unraced}

-- the ticket of what is started next
abbrev pub next_of : Plan → List Event → Started → Ticket
next_of plan history io = ticket_of plan (length (started history), io)

-- the buffer that the engine is asked with for it
abbrev pub buffer_for : Ticket → List ℕ
buffer_for t = asked_with t.kind t (replicate t.piece.len 0)

-- what is appended for a ticket that ended so
abbrev pub judged_with : Ticket → Outcome → List ℕ → List Event
judged_with t outcome bytes =
    cond (is_whole_check t.kind outcome) (Verdict 0 t.id (verdict_of t.method t.write t.piece t.expected bytes) ∷ []) []

abbrev pub ended_with : Ticket → Outcome → List ℕ → List Event
ended_with t outcome bytes = End t.worker t.id outcome ∷ judged_with t outcome bytes

-- which starts nothing
pub ended_starts_none : (t : Ticket) (outcome : Outcome) (bytes : List ℕ) → started (ended_with t outcome bytes) ≡ []
ended_starts_none t outcome bytes =
    cond_both (is_whole_check t.kind outcome) (Verdict 0 t.id (verdict_of t.method t.write t.piece t.expected bytes) ∷ []) []
    (λ (events : List Event). started events ≡ []) (λ h. refl) (λ h. refl)

pub ended_by-with : (old new : EngineState) (t : Ticket) (buffer : List ℕ) (answer : AnswerParts) → Answers old t buffer answer new → ended_by answer ≡ ended_with t answer.outcome answer.bytes
ended_by-with old new t buffer answer asked = ap (λ (x : Ticket). ended_with x answer.outcome answer.bytes) asked.ticket

-- it ends

pub outcome_then : (history : List Event) (worker id : ℕ) (outcome : Outcome) (rest : List Event) → outcome_of history id ≡ None → outcome_of (history ++ End worker id outcome ∷ rest) id ≡ Some outcome
outcome_then history worker id outcome rest unended =
    first_given-append (end_of id) history (End worker id outcome ∷ rest)
    ∙ ap (λ (o : Option Outcome). option_or o (first_given (end_of id) (End worker id outcome ∷ rest))) unended
    ∙ ap (λ (b : Bool). option_or (cond b (Some outcome) None) (first_given (end_of id) rest)) (eq-eqb id id refl)

pub unjudged_then : (history : List Event) (worker id io : ℕ) (outcome : Outcome) → is_judged history id ≡ false → is_judged (history ++ End worker io outcome ∷ []) id ≡ false
unjudged_then history worker id io outcome unjudged =
    any-append (is_verdict_on id) history (End worker io outcome ∷ []) ∙ ap (λ (b : Bool). b || false) unjudged

-- and its ticket stays the desk's own
pub own_then : (plan : Plan) (history : List Event) (t : Ticket) (worker id : ℕ) (outcome : Outcome) → IsOwn plan history t → IsOwn plan (history ++ End worker id outcome ∷ []) t
own_then plan history t worker id outcome own =
    let e = End worker id outcome in
    ap (λ (ts : List Ticket). slice_get ts t.id)
    (tickets_more plan history (history ++ e ∷ []) None (started-other history e refl ∙ sym (append-nil (started history)))
    ∙ append-nil (tickets_of plan history))
    ∙ own

whole_ended : (kind : TicketKind) (how : Outcome) → is_whole_check kind how ≡ true → ended_whole (Some how) ≡ true
whole_ended ticket.Read how h = cc
whole_ended ticket.Write how h = cc
whole_ended ticket.Probe Whole h = refl
whole_ended ticket.Probe Failed h = cc
whole_ended ticket.Probe (Short n) h = cc
whole_ended ticket.ReadCheck Whole h = refl
whole_ended ticket.ReadCheck Failed h = cc
whole_ended ticket.ReadCheck (Short n) h = cc

judged_room : (kind : TicketKind) (t : Ticket) (n : ℕ) → is_judged_kind kind ≡ true → length (asked_with kind t (replicate n 0)) ≡ n
judged_room ticket.Probe t n h = length-replicate n 0
judged_room ticket.ReadCheck t n h = length-replicate n 0
judged_room ticket.Read t n h = cc
judged_room ticket.Write t n h = cc

-- a turn of worker 0
module _ (plan : Plan) (history begun : List Event) (io : Started) (engine next : EngineState) (answer : AnswerParts) (planned : IsPlanned plan) (legal : is_legal plan history ≡ true) (chosen : IsChosen plan 0 history begun (Some io)) (asked : Answers engine (next_of plan history io) (buffer_for (next_of plan history io)) answer next) where
  pub begun_legal : is_legal plan begun ≡ true
  begun_legal = chosen_legal plan 0 history begun (Some io) planned legal chosen

  pub ended_legal : is_legal plan (begun ++ End io.worker (length (started history)) answer.outcome ∷ []) ≡ true
  ended_legal =
      let t = next_of plan history io in
      is_legal-more plan begun (End t.worker t.id answer.outcome) begun_legal
      (may_end plan begun t answer.outcome (chosen_own plan 0 history begun io planned legal chosen)
      (ap is_none (chosen_unended plan 0 history begun io planned legal chosen)) asked.fits)

  verdict_legal : AreSettled history → is_whole_check io.kind answer.outcome ≡ true → may_happen plan (begun ++ End io.worker (length (started history)) answer.outcome ∷ []) (Verdict 0 (length (started history)) (verdict_of (next_of plan history io).method (next_of plan history io).write (next_of plan history io).piece (next_of plan history io).expected answer.bytes)) ≡ true
  verdict_legal settled whole =
      let t = next_of plan history io in
      let ended = begun ++ End t.worker t.id answer.outcome ∷ [] in
      let judged : is_judged_kind io.kind ≡ true = judged_probe io.kind answer.outcome whole in
      let room : length answer.bytes ≡ t.piece.len = asked.room ∙ judged_room io.kind t io.piece.len judged in
      may_judge plan ended t 0 answer.bytes false (sym (raced_other begun (End t.worker t.id answer.outcome) t.id refl ∙ chosen_unraced plan 0 history begun io chosen settled)) planned ended_legal
      (own_then plan begun t t.worker t.id answer.outcome (chosen_own plan 0 history begun io planned legal chosen))
      (unjudged_then begun t.worker t.id t.id answer.outcome (chosen_unjudged plan 0 history begun io planned legal chosen))
      (ap ended_whole (outcome_then begun t.worker t.id answer.outcome [] (chosen_unended plan 0 history begun io planned legal chosen)) ∙ whole_ended io.kind answer.outcome whole)
      judged (omega (arith, room))

  -- the longer history is legal
  pub turn_legal : AreSettled history → is_legal plan (begun ++ ended_with (next_of plan history io) answer.outcome answer.bytes) ≡ true
  turn_legal settled =
      let t = next_of plan history io in
      let e = End t.worker t.id answer.outcome in
      let said = Verdict 0 t.id (verdict_of t.method t.write t.piece t.expected answer.bytes) in
      cond_both (is_whole_check io.kind answer.outcome) (said ∷ []) [] (λ (events : List Event). is_legal plan (begun ++ e ∷ events) ≡ true)
      (λ (whole : is_whole_check io.kind answer.outcome ≡ true).
      subst (λ (all : List Event). is_legal plan all ≡ true) (append_assoc begun (e ∷ []) (said ∷ []))
      (is_legal-more plan (begun ++ e ∷ []) said ended_legal (verdict_legal settled whole)))
      (λ h. ended_legal)

  -- one more was started
  pub turn_started : started (begun ++ ended_with (next_of plan history io) answer.outcome answer.bytes) ≡ started history ++ io ∷ []
  turn_started =
      let t = next_of plan history io in
      started-append begun (ended_with t answer.outcome answer.bytes)
      ∙ ap (λ (ios : List Started). started begun ++ ios) (ended_starts_none t answer.outcome answer.bytes)
      ∙ append-nil (started begun)
      ∙ chosen_started plan 0 history begun (Some io) chosen

  -- and all is settled again
  pub turn_settled : AreSettled history → AreSettled (begun ++ ended_with (next_of plan history io) answer.outcome answer.bytes)
  turn_settled settled =
      let t = next_of plan history io in
      let id = length (started history) in
      let events = ended_with t answer.outcome answer.bytes in
      let said = Verdict 0 id (verdict_of t.method t.write t.piece t.expected answer.bytes) ∷ [] in
      settled_next history (begun ++ events) (chosen.0 ++ events) io settled
      (ap (λ (h : List Event). h ++ events) chosen.1 ∙ append_assoc history chosen.0 events)
      turn_started
      (record {
        outcome = answer.outcome;
        ended = outcome_then begun t.worker id answer.outcome (judged_with t answer.outcome answer.bytes) (chosen_unended plan 0 history begun io planned legal chosen);
        judged = λ (whole : is_whole_check io.kind answer.outcome ≡ true).
            any-append (is_verdict_on id) begun events
            ∙ or_right (is_judged begun id) (list_any (is_verdict_on id) events)
            (ap (λ (b : Bool). list_any (is_verdict_on id) (cond b said [])) whole ∙ or_left (id == id) false (eq-eqb id id refl));
      })
