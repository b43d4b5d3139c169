-- Each event of a run of one worker is by worker 0.
use Rattle.std.proofs.Common.{◌≡◌, ℕ, List, [], ◌++◌, true, refl, sym, ◌∙◌, ap, subst}
use Rattle.std.specs.Prelude.{Option, nat_lt}
use Rattle.std.specs.List.{list_all}
use Rattle.std.proofs.lemmas.Bool.{cond_both, and_from}
use Rattle.std.proofs.lemmas.List.Folds.{list_all-append}
use Rattle.jr_model.specs.declared.events.Event.{Event}
use Rattle.jr_model.specs.declared.events.Event.TheVariants.{Issue, Probe, Skip, End, Verdict}
use Rattle.jr_model.specs.declared.events.Started.{Started}
use Rattle.jr_model.specs.Plan.{Plan}
use Rattle.jr_model.specs.PlanFacts.{IsPlanned}
use Rattle.jr_model.proofs.PlanLemmas.{numbered_of}
use Rattle.jr_engines.specs.Answers.{AnswerParts}
use Rattle.jr_header.specs.Served.{is_to_judge}
use Rattle.jr_desk_state.specs.Takes.{IsChosen}
use Rattle.jr_crew_books.specs.Numbers.{is_numbered}
use Rattle.jr_crew.specs.Turns.{ended_by, judged_by}
use Rattle.jr_crew.proofs.Chosen.{IsStep, appends_by}

-- all of it is by worker 0
abbrev pub IsAlone : List Event → Type 0
IsAlone history = list_all (is_numbered 1 0) history ≡ true

step_alone : (e : Event) → IsStep 0 e → is_numbered 1 0 e ≡ true
step_alone (Issue w dir write piece) step = ap (λ (n : ℕ). nat_lt n 1) step
step_alone (Probe w write piece) step = ap (λ (n : ℕ). nat_lt n 1) step
step_alone (Skip w write) step = ap (λ (n : ℕ). nat_lt n 1) step
step_alone (End w io outcome) step = absurd step
step_alone (Verdict w io verdict) step = absurd step

alone_on : (xs ys : List Event) → IsAlone xs → IsAlone ys → IsAlone (xs ++ ys)
alone_on xs ys p q =
    list_all-append (is_numbered 1 0) xs ys ∙ and_from (list_all (is_numbered 1 0) xs) (list_all (is_numbered 1 0) ys) p q

-- a take by worker 0 keeps it so
pub chosen_alone : (plan : Plan) (before history : List Event) (io : Option Started) → IsPlanned plan → IsChosen plan 0 before history io → IsAlone before → IsAlone history
chosen_alone plan before history io planned chosen so =
    let steps : IsAlone chosen.0 =
    appends_by plan 0 IsAlone (numbered_of plan planned) refl
    (λ (e : Event) (events : List Event) (step : IsStep 0 e) (rest : IsAlone events).
    and_from (is_numbered 1 0 e) (list_all (is_numbered 1 0) events) (step_alone e step) rest)
    before chosen.0 chosen.2 in
    subst IsAlone (sym chosen.1) (alone_on before chosen.0 so steps)

-- and so does what is appended for an answer to a ticket of worker 0
pub ended_alone : (begun : List Event) (answer : AnswerParts) → answer.ticket.worker ≡ 0 → IsAlone begun → IsAlone (begun ++ ended_by answer)
ended_alone begun answer worker so =
    let end = End answer.ticket.worker answer.ticket.id answer.outcome in
    let judged : IsAlone (judged_by answer) =
    cond_both (is_to_judge answer) _ [] IsAlone (λ h. refl) (λ h. refl) in
    alone_on begun (ended_by answer) so
    (and_from (is_numbered 1 0 end) (list_all (is_numbered 1 0) (judged_by answer)) (ap (λ (n : ℕ). nat_lt n 1) worker) judged)
