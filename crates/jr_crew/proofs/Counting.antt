-- How many I/Os ended, as a history grows.
use Rattle.std.proofs.Common.{◌≡◌, ℕ, ◌+◌, List, [], ◌∷◌, ◌++◌, Bool, true, false, cond, refl, ◌∙◌, ap, arith}
use Rattle.std.specs.Prelude.{count_by, Option}
use Rattle.std.proofs.lemmas.Bool.{cond_both}
use Rattle.std.proofs.lemmas.List.Sums.{sum_by-append, sum_by-cons}
use Rattle.jr_model.specs.declared.events.Event.{Event}
use Rattle.jr_model.specs.declared.events.Event.TheVariants.{Issue, Probe, Skip, End, Verdict}
use Rattle.jr_model.specs.declared.events.Started.{Started}
use Rattle.jr_model.specs.Plan.{Plan}
use Rattle.jr_model.specs.PlanFacts.{IsPlanned}
use Rattle.jr_model.proofs.PlanLemmas.{numbered_of}
use Rattle.jr_engines.specs.Answers.{AnswerParts, is_failed}
use Rattle.jr_header.specs.Served.{is_to_judge}
use Rattle.jr_desk_state.specs.Takes.{IsChosen}
use Rattle.jr_crew.specs.Ends.{is_end, is_failed_end, ends_of, failed_ends_of}
use Rattle.jr_crew.specs.Turns.{judged_by, ended_by}
use Rattle.jr_crew.proofs.Chosen.{IsStep, appends_by}

pub count-append : (p : Event → Bool) (xs ys : List Event) → count_by p (xs ++ ys) ≡ count_by p xs + count_by p ys
count-append p xs ys = sum_by-append (λ (x : Event). cond (p x) 1 0) xs ys

pub count-cons : {X : Type 0} (p : X → Bool) (e : X) (events : List X) → count_by p (e ∷ events) ≡ cond (p e) 1 0 + count_by p events
count-cons {X} p e events = sum_by-cons (λ (x : X). cond (p x) 1 0) e events

no_end : (worker : ℕ) (e : Event) → IsStep worker e → is_end e ≡ false
no_end worker (Issue w dir write piece) step = refl
no_end worker (Probe w write piece) step = refl
no_end worker (Skip w write) step = refl
no_end worker (End w io outcome) step = absurd step
no_end worker (Verdict w io verdict) step = refl

no_failed_end : (worker : ℕ) (e : Event) → IsStep worker e → is_failed_end e ≡ false
no_failed_end worker (Issue w dir write piece) step = refl
no_failed_end worker (Probe w write piece) step = refl
no_failed_end worker (Skip w write) step = refl
no_failed_end worker (End w io outcome) step = absurd step
no_failed_end worker (Verdict w io verdict) step = refl

-- what a take appends is not counted
chosen_count : (plan : Plan) (worker : ℕ) (p : Event → Bool) (before history : List Event) (io : Option Started) → ((e : Event) → IsStep worker e → p e ≡ false) → IsPlanned plan → IsChosen plan worker before history io → count_by p history ≡ count_by p before
chosen_count plan worker p before history io none planned chosen =
    let nothing : count_by p chosen.0 ≡ 0 =
    appends_by plan worker (λ (events : List Event). count_by p events ≡ 0) (numbered_of plan planned) refl
    (λ (e : Event) (events : List Event) (step : IsStep worker e) (rest : count_by p events ≡ 0).
    let here : ◌≡◌ {A = ℕ} (cond (p e) 1 0) 0 = ap (λ (b : Bool). cond {A = ℕ} b 1 0) (none e step) in
    omega (arith, count-cons p e events, here, rest))
    before chosen.0 chosen.2 in
    ap (λ (h : List Event). count_by p h) chosen.1 ∙ omega (arith, nothing, count-append p before chosen.0)

pub chosen_ends : (plan : Plan) (worker : ℕ) (before history : List Event) (io : Option Started) → IsPlanned plan → IsChosen plan worker before history io → ends_of history ≡ ends_of before
chosen_ends plan worker before history io planned chosen = chosen_count plan worker is_end before history io (no_end worker) planned chosen

pub chosen_failed_ends : (plan : Plan) (worker : ℕ) (before history : List Event) (io : Option Started) → IsPlanned plan → IsChosen plan worker before history io → failed_ends_of history ≡ failed_ends_of before
chosen_failed_ends plan worker before history io planned chosen =
    chosen_count plan worker is_failed_end before history io (no_failed_end worker) planned chosen

judged_ends : (answer : AnswerParts) → ends_of (judged_by answer) ≡ 0
judged_ends answer = cond_both (is_to_judge answer) _ [] (λ (events : List Event). ends_of events ≡ 0) (λ h. refl) (λ h. refl)

judged_failed_ends : (answer : AnswerParts) → failed_ends_of (judged_by answer) ≡ 0
judged_failed_ends answer = cond_both (is_to_judge answer) _ [] (λ (events : List Event). failed_ends_of events ≡ 0) (λ h. refl) (λ h. refl)

-- one more has ended
pub ended_ends : (history : List Event) (answer : AnswerParts) → ends_of (history ++ ended_by answer) ≡ ends_of history + 1
ended_ends history answer =
    let first : ends_of (ended_by answer) ≡ 1 + ends_of (judged_by answer) =
    count-cons is_end (End answer.ticket.worker answer.ticket.id answer.outcome) (judged_by answer) in
    omega (arith, count-append is_end history (ended_by answer), first, judged_ends answer)

-- and where it failed, one more has failed
pub ended_failed_ends : (history : List Event) (answer : AnswerParts) → failed_ends_of (history ++ ended_by answer) ≡ cond (is_failed answer.outcome) (failed_ends_of history + 1) (failed_ends_of history)
ended_failed_ends history answer =
    one_more (is_failed answer.outcome) (failed_ends_of history) (failed_ends_of (ended_by answer)) (failed_ends_of (judged_by answer)) (failed_ends_of (history ++ ended_by answer))
    (count-append is_failed_end history (ended_by answer))
    (count-cons is_failed_end (End answer.ticket.worker answer.ticket.id answer.outcome) (judged_by answer))
    (judged_failed_ends answer)
  where
    one_more : (b : Bool) (n m j total : ℕ) → total ≡ n + m → m ≡ cond b 1 0 + j → j ≡ 0 → total ≡ cond b (n + 1) n
    one_more true n m j total p q r = omega (arith, p, q, r)
    one_more false n m j total p q r = omega (arith, p, q, r)
