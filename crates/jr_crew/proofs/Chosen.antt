-- What a take appends are issues, checks and skips of its worker alone.
use Rattle.std.proofs.Common.{◌≡◌, ℕ, ◌<◌, List, [], ◌∷◌, ◌++◌, length, Bool, true, false, ◌||◌, refl, sym, ◌∙◌, ap, subst, arith, inl, inr}
use Rattle.std.specs.Prelude.{Option, Some, None, slice_get}
use Rattle.std.specs.Option.{option_or}
use Rattle.std.specs.List.{list_any}
use Rattle.std.proofs.lemmas.Bool.{false_from_ne_true}
use Rattle.jr_model.specs.declared.events.Event.{Event}
use Rattle.jr_model.specs.declared.events.Event.TheVariants.{Issue, Probe, Skip, End, Verdict}
use Rattle.jr_model.specs.declared.events.Outcome.{Outcome}
use Rattle.jr_model.specs.declared.events.Started.{Started}
use Rattle.jr_model.specs.declared.tickets.Ticket.{Ticket}
use Rattle.jr_model.specs.Choice.{choice}
use Rattle.jr_model.specs.History.{first_given, started, started_by, end_of, outcome_of, is_verdict_on, is_judged}
use Rattle.jr_model.specs.Legal.{is_legal}
use Rattle.jr_model.specs.Machine.{Appends, is_skip}
use Rattle.jr_model.specs.Plan.{Plan, IsNumbered}
use Rattle.jr_model.specs.Rounds.{pass_of}
use Rattle.jr_model.proofs.LegalLaws.{choice_is_step, cases_step_of}
use Rattle.jr_model.proofs.SerialLaws.{first_given-append, any-append}
use Rattle.jr_model.specs.PlanFacts.{IsPlanned}
use Rattle.jr_model.proofs.OptionLemmas.{none_from}
use Rattle.jr_model.proofs.PlanLemmas.{numbered_of}
use Rattle.jr_model.proofs.PlaceLemmas.{got_last}
use Rattle.jr_model.proofs.HistoryLemmas.{legal_is_well}
use Rattle.jr_desk_tickets.specs.Kept.{IsOwn, tickets_of}
use Rattle.jr_desk_tickets.specs.Tickets.{ticket_of}
use Rattle.jr_desk_tickets.proofs.OwnTickets.{tickets_count}
use Rattle.jr_desk_state.specs.Takes.{IsChosen, last_started}
use Rattle.jr_desk_state.proofs.Keeping.{by_is_skip, tickets_more, chosen_started}

-- an issue, a check or a skip by this worker
abbrev pub IsStep : ℕ → Event → Type 0
IsStep worker (Issue w dir write piece) = w ≡ worker
IsStep worker (Probe w write piece) = w ≡ worker
IsStep worker (Skip w write) = w ≡ worker
IsStep worker (End w io outcome) = ⊥
IsStep worker (Verdict w io verdict) = ⊥

pub choice_steps : (plan : Plan) (history : List Event) (worker : ℕ) (e : Event) → IsNumbered plan → choice plan history worker ≡ Some e → IsStep worker e
choice_steps plan history worker e numbered chosen =
    let step = choice_is_step plan history worker e numbered chosen in
    elim (cases_step_of plan history worker (pass_of step.0 step.1) step.2 e step.3) [
      | inl probe ↦ subst (λ (x : Event). IsStep worker x) (sym probe) refl
      | inr other ↦
          elim other [
            | inl skip ↦ subst (λ (x : Event). IsStep worker x) (sym skip) refl
            | inr issue ↦ subst (λ (x : Event). IsStep worker x) (sym issue) refl
          ]
    ]

-- what holds of no events, and holds on at each step before them, holds of all that a take appends
pub appends_by : (plan : Plan) (worker : ℕ) (P : List Event → Type 0) → IsNumbered plan → P [] → ((e : Event) (events : List Event) → IsStep worker e → P events → P (e ∷ events)) → (before events : List Event) → Appends plan worker before events → P events
appends_by plan worker P numbered none more before [] appends = none
appends_by plan worker P numbered none more before (e ∷ events) appends =
    more e events (choice_steps plan before worker e numbered appends.0)
    (by_is_skip e (Appends plan worker (before ++ e ∷ []) events) (events ≡ []) (P events) appends.1
    (λ (skip : is_skip e ≡ true) (rest : Appends plan worker (before ++ e ∷ []) events). appends_by plan worker P numbered none more (before ++ e ∷ []) events rest)
    (λ (other : is_skip e ≡ false) (last : events ≡ []). subst P (sym last) none))

-- what a step starts, its worker started
step_worker : (worker : ℕ) (e : Event) (io : Started) → IsStep worker e → started_by e ≡ Some io → io.worker ≡ worker
step_worker worker (Issue w dir write piece) io step starts = sym (ap worker_of starts) ∙ step
  where
    worker_of : Option Started → ℕ
    worker_of None = 0
    worker_of (Some s) = s.worker
step_worker worker (Probe w write piece) io step starts = sym (ap worker_of starts) ∙ step
  where
    worker_of : Option Started → ℕ
    worker_of None = 0
    worker_of (Some s) = s.worker
step_worker worker (Skip w write) io step starts = cc
step_worker worker (End w id outcome) io step starts = absurd step
step_worker worker (Verdict w id verdict) io step starts = absurd step

-- what a take starts is its worker's
pub chosen_worker : (plan : Plan) (worker : ℕ) (before history : List Event) (io : Started) → IsPlanned plan → IsChosen plan worker before history (Some io) → io.worker ≡ worker
chosen_worker plan worker before history io planned chosen =
    appends_by plan worker (λ (events : List Event). (s : Started) → last_started events ≡ Some s → s.worker ≡ worker) (numbered_of plan planned)
    (λ s h. none_last s h) more before chosen.0 chosen.2 io (sym chosen.3)
  where
    none_last : (s : Started) → None ≡ Some s → s.worker ≡ worker
    none_last s h = cc

    more : (e : Event) (events : List Event) → IsStep worker e → ((s : Started) → last_started events ≡ Some s → s.worker ≡ worker) → (s : Started) → last_started (e ∷ events) ≡ Some s → s.worker ≡ worker
    more e [] step rest s starts = step_worker worker e s step starts
    more e (next ∷ events) step rest s starts = rest s starts

-- it ends nothing
step_ends_none : (worker id : ℕ) (e : Event) → IsStep worker e → end_of id e ≡ None
step_ends_none worker id (Issue w dir write piece) step = refl
step_ends_none worker id (Probe w write piece) step = refl
step_ends_none worker id (Skip w write) step = refl
step_ends_none worker id (End w io outcome) step = absurd step
step_ends_none worker id (Verdict w io verdict) step = absurd step

-- it judges nothing
step_judges_none : (worker id : ℕ) (e : Event) → IsStep worker e → is_verdict_on id e ≡ false
step_judges_none worker id (Issue w dir write piece) step = refl
step_judges_none worker id (Probe w write piece) step = refl
step_judges_none worker id (Skip w write) step = refl
step_judges_none worker id (End w io outcome) step = absurd step
step_judges_none worker id (Verdict w io verdict) step = absurd step

-- what a take by this worker started
module _ (plan : Plan) (worker : ℕ) (before history : List Event) (io : Started) (planned : IsPlanned plan) (legal : is_legal plan before ≡ true) (chosen : IsChosen plan worker before history (Some io)) where
  -- it has not ended
  pub chosen_unended : outcome_of history (length (started before)) ≡ None
  chosen_unended =
      let id = length (started before) in
      ap (λ (h : List Event). outcome_of h id) chosen.1
      ∙ first_given-append (end_of id) before chosen.0
      ∙ ap (λ (o : Option Outcome). option_or o (first_given (end_of id) chosen.0))
      (none_from (outcome_of before id) (λ (p : Outcome) (h : outcome_of before id ≡ Some p). let below : id < id = (legal_is_well plan before legal).ends id p h in omega (arith, below)))
      ∙ appends_by plan worker (λ (events : List Event). first_given (end_of id) events ≡ None) (numbered_of plan planned) refl
      (λ (e : Event) (events : List Event) (step : IsStep worker e) (rest : first_given (end_of id) events ≡ None).
      ap (λ (o : Option Outcome). option_or o (first_given (end_of id) events)) (step_ends_none worker id e step) ∙ rest)
      before chosen.0 chosen.2

  -- and has no verdict
  pub chosen_unjudged : is_judged history (length (started before)) ≡ false
  chosen_unjudged =
      let id = length (started before) in
      ap (λ (h : List Event). is_judged h id) chosen.1
      ∙ any-append (is_verdict_on id) before chosen.0
      ∙ ap (λ (b : Bool). b || list_any (is_verdict_on id) chosen.0)
      (false_from_ne_true (is_judged before id) (λ (h : is_judged before id ≡ true). let below : id < id = (legal_is_well plan before legal).judged id h in omega (arith, below)))
      ∙ appends_by plan worker (λ (events : List Event). list_any (is_verdict_on id) events ≡ false) (numbered_of plan planned) refl
      (λ (e : Event) (events : List Event) (step : IsStep worker e) (rest : list_any (is_verdict_on id) events ≡ false).
      ap (λ (b : Bool). b || list_any (is_verdict_on id) events) (step_judges_none worker id e step) ∙ rest)
      before chosen.0 chosen.2

  -- its ticket is the desk's own
  pub chosen_own : IsOwn plan history (ticket_of plan (length (started before), io))
  chosen_own =
      let id = length (started before) in
      let t = ticket_of plan (id, io) in
      ap (λ (ts : List Ticket). slice_get ts id) (tickets_more plan before history (Some io) (chosen_started plan worker before history (Some io) chosen))
      ∙ ap (λ (n : ℕ). slice_get (tickets_of plan before ++ t ∷ []) n) (sym (tickets_count plan before))
      ∙ got_last (tickets_of plan before) t
