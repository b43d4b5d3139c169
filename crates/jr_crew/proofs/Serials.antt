-- What the worker of a serial run completed, as its history grows: each turn adds one item, which is the engine's next call.
use Rattle.std.proofs.Common.{◌≡◌, ℕ, zero, suc, ◌+◌, ◌<◌, List, [], ◌∷◌, ◌++◌, length, map, Bool, true, false, cond, refl, sym, ◌∙◌, ap, subst, arith, append_assoc, append-nil}
use Rattle.std.specs.Prelude.{Option, Some, None, slice_get, filter_map, ◌==◌}
use Rattle.std.specs.List.{enumerate_from, cons_option, list_all}
use Rattle.std.specs.Option.{option_or}
use Rattle.std.proofs.lemmas.Bool.{and_parts, cond_both, eq-eqb, ltb-true, ne_eqb}
use Rattle.std.proofs.lemmas.List.Elements.{filter_map-append}
use Rattle.jr_model.specs.declared.events.Event.{Event}
use Rattle.jr_model.specs.declared.events.Event.TheVariants.{Issue, Probe, Skip, End, Verdict}
use Rattle.jr_model.specs.declared.events.Started.{Started}
use Rattle.jr_model.specs.declared.events.Verdict.{Verdict as GivenVerdict}
use Rattle.jr_model.specs.declared.tickets.Ticket.{Ticket}
use Rattle.jr_model.specs.History.{started}
use Rattle.jr_model.specs.Judgement.{verdict_of}
use Rattle.jr_model.specs.Legal.{is_legal}
use Rattle.jr_model.specs.Plan.{Plan}
use Rattle.jr_model.specs.PlanFacts.{IsPlanned}
use Rattle.jr_model.specs.Replies.{EngineState}
use Rattle.jr_model.proofs.SerialLaws.{first_given-append}
use Rattle.jr_model.proofs.PlanLemmas.{numbered_of}
use Rattle.jr_model.proofs.OptionLemmas.{or_none}
use Rattle.jr_engines.specs.Answers.{AnswerParts, Answers}
use Rattle.jr_header.specs.Served.{is_whole_check, answer_verdict}
use Rattle.jr_laws_steps.proofs.Grown.{all_known, is_known}
use Rattle.jr_laws_steps.proofs.StartedLemmas.{started-append}
use Rattle.jr_desk_tickets.specs.Kept.{tickets_of}
use Rattle.jr_desk_tickets.specs.Tickets.{ticket_of}
use Rattle.jr_desk_state.specs.Takes.{IsChosen}
use Rattle.jr_crew_books.specs.declared.books.Done.{Done}
use Rattle.jr_crew_books.specs.Books.{verdict_by, verdict_in, done_with, done_by, dones_of}
use Rattle.jr_crew.specs.Crews.{IsCalledFor, AreCallsFor}
use Rattle.jr_crew.specs.Turns.{IsTurn, IsLastTurn}
use Rattle.jr_crew.proofs.Carrying.{next_of, buffer_for, judged_with, ended_with, ended_by-with, ended_starts_none}
use Rattle.jr_crew.proofs.Chosen.{IsStep, appends_by, chosen_worker, chosen_unjudged, chosen_own}
use Rattle.jr_crew.proofs.Matching.{unjudged_none}
use Rattle.jr_crew.proofs.Worked.{calls_on}

-- a ticket stays at its place where more is started
ticket_stays : (plan : Plan) (n : ℕ) (ios more : List Started) (k : ℕ) → k < length ios → slice_get (map (ticket_of plan) (enumerate_from n (ios ++ more))) k ≡ slice_get (map (ticket_of plan) (enumerate_from n ios)) k
ticket_stays plan n [] more k below = absurd (omega arith)
ticket_stays plan n (s ∷ ios) more zero below = refl
ticket_stays plan n (s ∷ ios) more (suc k) below = ticket_stays plan (n + 1) ios more k (omega (arith, below))

-- these events give no verdict on what was started before them
abbrev SayNothingOf : List Event → List Event → Type 0
SayNothingOf before more = (io : ℕ) → io < length (started before) → verdict_in more io ≡ None

-- where a history goes on so
module _ (plan : Plan) (worker : ℕ) (before more : List Event) (legal : is_legal plan before ≡ true) (nothing : SayNothingOf before more) where
  -- an event that was there is the same item of the book as before
  done_stays : (e : Event) → is_known (length (started before)) e ≡ true → done_by plan true (before ++ more) worker e ≡ done_by plan true before worker e
  done_stays (End w io outcome) known =
      let below : io < length (started before) = ltb-true io (length (started before)) known in
      let said : verdict_in (before ++ more) io ≡ verdict_in before io =
      first_given-append (verdict_by io) before more
      ∙ ap (option_or (verdict_in before io)) (nothing io below)
      ∙ or_none (verdict_in before io) in
      let ticket : slice_get (tickets_of plan (before ++ more)) io ≡ slice_get (tickets_of plan before) io =
      ap (λ (ios : List Started). slice_get (map (ticket_of plan) (enumerate_from 0 ios)) io) (started-append before more)
      ∙ ticket_stays plan 0 (started before) (started more) io below in
      ap (λ (o : Option GivenVerdict). cond (w == worker) (done_with outcome o (slice_get (tickets_of plan (before ++ more)) io)) None) said
      ∙ ap (λ (o : Option Ticket). cond (w == worker) (done_with outcome (verdict_in before io) o) None) ticket
  done_stays (Issue w dir write piece) known = refl
  done_stays (Probe w write piece) known = refl
  done_stays (Skip w write) known = refl
  done_stays (Verdict w io verdict) known = refl

  -- and so are all
  dones_stay : (events : List Event) → list_all (is_known (length (started before))) events ≡ true → filter_map (done_by plan true (before ++ more) worker) events ≡ filter_map (done_by plan true before worker) events
  dones_stay [] known = refl
  dones_stay (e ∷ events) known =
      let parts = and_parts (is_known (length (started before)) e) (list_all (is_known (length (started before))) events) known in
      ap (λ (o : Option Done). cons_option o (filter_map (done_by plan true (before ++ more) worker) events)) (done_stays e parts.0)
      ∙ ap (cons_option (done_by plan true before worker e)) (dones_stay events parts.1)

  -- so the book goes on with what the further events complete
  dones_on : (after : List Event) → after ≡ before ++ more → dones_of plan true after worker ≡ dones_of plan true before worker ++ filter_map (done_by plan true after worker) more
  dones_on after same =
      subst (λ (h : List Event). dones_of plan true h worker ≡ dones_of plan true before worker ++ filter_map (done_by plan true h worker) more) (sym same)
      (filter_map-append (done_by plan true (before ++ more) worker) before more
      ∙ ap (λ (book : List Done). book ++ filter_map (done_by plan true (before ++ more) worker) more) (dones_stay before (all_known plan before legal)))

-- what is started or skipped says nothing of any I/O
step_says : (io : ℕ) (e : Event) → IsStep 0 e → verdict_by io e ≡ None
step_says io (Issue w dir write piece) step = refl
step_says io (Probe w write piece) step = refl
step_says io (Skip w write) step = refl
step_says io (End w id outcome) step = absurd step
step_says io (Verdict w id verdict) step = absurd step

-- and completes nothing
step_done : (plan : Plan) (history : List Event) (e : Event) → IsStep 0 e → done_by plan true history 0 e ≡ None
step_done plan history (Issue w dir write piece) step = refl
step_done plan history (Probe w write piece) step = refl
step_done plan history (Skip w write) step = refl
step_done plan history (End w id outcome) step = absurd step
step_done plan history (Verdict w id verdict) step = absurd step

-- so all that a take appends gives no verdict
take_says : (plan : Plan) (before history : List Event) (io : Option Started) → IsPlanned plan → (chosen : IsChosen plan 0 before history io) → (id : ℕ) → verdict_in chosen.0 id ≡ None
take_says plan before history io planned chosen id =
    appends_by plan 0 (λ (events : List Event). verdict_in events id ≡ None) (numbered_of plan planned) refl
    (λ (e : Event) (events : List Event) (step : IsStep 0 e) (rest : verdict_in events id ≡ None).
    ap (λ (o : Option GivenVerdict). option_or o (verdict_in events id)) (step_says id e step) ∙ rest)
    before chosen.0 chosen.2

-- and completes nothing
take_dones : (plan : Plan) (before history : List Event) (io : Option Started) → IsPlanned plan → (chosen : IsChosen plan 0 before history io) → (all : List Event) → filter_map (done_by plan true all 0) chosen.0 ≡ []
take_dones plan before history io planned chosen all =
    appends_by plan 0 (λ (events : List Event). filter_map (done_by plan true all 0) events ≡ []) (numbered_of plan planned) refl
    (λ (e : Event) (events : List Event) (step : IsStep 0 e) (rest : filter_map (done_by plan true all 0) events ≡ []).
    ap (λ (o : Option Done). cons_option o (filter_map (done_by plan true all 0) events)) (step_done plan all e step) ∙ rest)
    before chosen.0 chosen.2

-- a take that starts nothing leaves the book as it was
last_dones : (plan : Plan) (before history : List Event) → IsPlanned plan → is_legal plan before ≡ true → IsChosen plan 0 before history None → dones_of plan true history 0 ≡ dones_of plan true before 0
last_dones plan before history planned legal chosen =
    dones_on plan 0 before chosen.0 legal (λ io below. take_says plan before history None planned chosen io) history chosen.1
    ∙ ap (λ (book : List Done). dones_of plan true before 0 ++ book) (take_dones plan before history None planned chosen history)
    ∙ append-nil (dones_of plan true before 0)

-- the verdict of one check, where it is given
said_where : (judged : Bool) (id : ℕ) (said : GivenVerdict) → verdict_in (cond judged (Verdict 0 id said ∷ []) []) id ≡ cond judged (Some said) None
said_where true id said = ap (λ (b : Bool). option_or (cond b (Some said) None) None) (eq-eqb id id refl)
said_where false id said = refl

-- a turn of worker 0
module _ (plan : Plan) (history begun : List Event) (io : Started) (engine next : EngineState) (answer : AnswerParts) (planned : IsPlanned plan) (legal : is_legal plan history ≡ true) (chosen : IsChosen plan 0 history begun (Some io)) (asked : Answers engine (next_of plan history io) (buffer_for (next_of plan history io)) answer next) where
  -- its item of the book
  abbrev turn_done : Done
  turn_done =
      let t = next_of plan history io in
      record {
        ticket = t;
        outcome = answer.outcome;
        verdict = cond (is_whole_check t.kind answer.outcome) (Some (verdict_of t.method t.write t.piece t.expected answer.bytes)) None;
      }

  -- it is the engine's next call
  turn_call : IsCalledFor true engine turn_done next
  turn_call = record {
    answer = answer;
    asked = asked;
    outcome = refl;
    verdict = record {
      said = answer_verdict answer;
      true_of = λ _. refl;
      is =
          ap (λ (t : Ticket). cond (is_whole_check t.kind answer.outcome) (Some (verdict_of t.method t.write t.piece t.expected answer.bytes)) None)
          (sym asked.ticket);
    };
  }

  -- what is appended for it
  abbrev events : List Event
  events = ended_with (next_of plan history io) answer.outcome answer.bytes

  -- the whole turn says nothing of what was started before
  turn_says : SayNothingOf history (chosen.0 ++ events)
  turn_says id below =
      let t = next_of plan history io in
      let said = verdict_of t.method t.write t.piece t.expected answer.bytes in
      first_given-append (verdict_by id) chosen.0 events
      ∙ ap (λ (o : Option GivenVerdict). option_or o (verdict_in events id)) (take_says plan history begun (Some io) planned chosen id)
      ∙ cond_both (is_whole_check io.kind answer.outcome) (Verdict 0 t.id said ∷ []) [] (λ (xs : List Event). verdict_in xs id ≡ None)
      (λ h. ap (λ (b : Bool). option_or (cond b (Some said) None) None) (ne_eqb t.id id (λ (same : t.id ≡ id). absurd (omega (arith, same, below)))))
      (λ h. refl)

  -- the history says of it what the answer is judged to be
  said_then : verdict_in (begun ++ events) (length (started history)) ≡ turn_done.verdict
  said_then =
      let t = next_of plan history io in
      let id = length (started history) in
      first_given-append (verdict_by id) begun events
      ∙ ap (λ (o : Option GivenVerdict). option_or o (verdict_in events id)) (unjudged_none begun id (chosen_unjudged plan 0 history begun io planned legal chosen))
      ∙ said_where (is_whole_check io.kind answer.outcome) id (verdict_of t.method t.write t.piece t.expected answer.bytes)

  -- and has its ticket under its number
  ticket_then : slice_get (tickets_of plan (begun ++ events)) (length (started history)) ≡ Some (next_of plan history io)
  ticket_then =
      let t = next_of plan history io in
      ap (λ (ios : List Started). slice_get (map (ticket_of plan) (enumerate_from 0 ios)) (length (started history)))
      (started-append begun events
      ∙ ap (λ (ios : List Started). started begun ++ ios) (ended_starts_none t answer.outcome answer.bytes)
      ∙ append-nil (started begun))
      ∙ chosen_own plan 0 history begun io planned legal chosen

  -- so what is appended completes it
  ended_dones : filter_map (done_by plan true (begun ++ events) 0) events ≡ turn_done ∷ []
  ended_dones =
      let t = next_of plan history io in
      let id = length (started history) in
      let all = begun ++ events in
      let rest = filter_map (done_by plan true all 0) (judged_with t answer.outcome answer.bytes) in
      ap (λ (b : Bool). cons_option (cond b (done_with answer.outcome (verdict_in all id) (slice_get (tickets_of plan all) id)) None) rest)
      (eq-eqb io.worker 0 (chosen_worker plan 0 history begun io planned chosen))
      ∙ ap (λ (o : Option Ticket). cons_option (done_with answer.outcome (verdict_in all id) o) rest) ticket_then
      ∙ ap (λ (o : Option GivenVerdict). record { ticket = t; outcome = answer.outcome; verdict = o } ∷ rest) said_then
      ∙ ap (λ (book : List Done). turn_done ∷ book)
      (cond_both (is_whole_check io.kind answer.outcome) (Verdict 0 id (verdict_of t.method t.write t.piece t.expected answer.bytes) ∷ []) []
      (λ (xs : List Event). filter_map (done_by plan true all 0) xs ≡ []) (λ h. refl) (λ h. refl))

  -- and the book has one item more
  turn_dones : dones_of plan true (begun ++ events) 0 ≡ dones_of plan true history 0 ++ turn_done ∷ []
  turn_dones =
      let all = begun ++ events in
      let same : all ≡ history ++ (chosen.0 ++ events) =
      ap (λ (h : List Event). h ++ events) chosen.1 ∙ append_assoc history chosen.0 events in
      dones_on plan 0 history (chosen.0 ++ events) legal turn_says all same
      ∙ ap (λ (book : List Done). dones_of plan true history 0 ++ book)
      (filter_map-append (done_by plan true all 0) chosen.0 events
      ∙ ap (λ (book : List Done). book ++ filter_map (done_by plan true all 0) events) (take_dones plan history begun (Some io) planned chosen all)
      ∙ ended_dones)

  -- which is one call more
  turn_called : (first : EngineState) → AreCallsFor true first (dones_of plan true history 0) engine → AreCallsFor true first (dones_of plan true (begun ++ events) 0) next
  turn_called first calls =
      subst (λ (book : List Done). AreCallsFor true first book next) (sym turn_dones)
      (calls_on true first (dones_of plan true history 0) engine turn_done next calls turn_call)

-- nothing was completed so far
pub first_called : (plan : Plan) (history : List Event) (engine : EngineState) → history ≡ [] → AreCallsFor true engine (dones_of plan true history 0) engine
first_called plan history engine none =
    subst (λ (h : List Event). AreCallsFor true engine (dones_of plan true h 0) engine) (sym none) refl

-- each turn of the desk whose plan this is keeps the calls those of what was completed
pub goes_called : (plan own : Plan) (history after : List Event) (first engine next : EngineState) → IsPlanned plan → own ≡ plan → is_legal plan history ≡ true → IsTurn own history after engine next → AreCallsFor true first (dones_of plan true history 0) engine → AreCallsFor true first (dones_of plan true after 0) next
goes_called plan own history after first engine next planned same legal turn calls =
    let this : IsTurn plan history after engine next = subst (λ (p : Plan). IsTurn p history after engine next) same turn in
    let answer = this.carried.answer in
    let t = next_of plan history this.io in
    subst (λ (h : List Event). AreCallsFor true first (dones_of plan true h 0) next) (sym this.carried.history)
    (subst (λ (xs : List Event). AreCallsFor true first (dones_of plan true (this.begun ++ xs) 0) next) (sym (ended_by-with engine next t (buffer_for t) answer this.carried.asked))
    (turn_called plan history this.begun this.io engine next answer planned legal this.chosen this.carried.asked first calls))

-- and so does the last one
pub ends_called : (plan own : Plan) (history after : List Event) (first engine next : EngineState) → IsPlanned plan → own ≡ plan → is_legal plan history ≡ true → IsLastTurn own history after engine next → AreCallsFor true first (dones_of plan true history 0) engine → AreCallsFor true first (dones_of plan true after 0) next
ends_called plan own history after first engine next planned same legal last calls =
    let this : IsLastTurn plan history after engine next = subst (λ (p : Plan). IsLastTurn p history after engine next) same last in
    subst (λ (book : List Done). AreCallsFor true first book next) (sym (last_dones plan history after planned legal this.chosen))
    (subst (λ (e : EngineState). AreCallsFor true first (dones_of plan true history 0) e) (sym this.engine) calls)
