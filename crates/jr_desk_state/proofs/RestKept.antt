-- A clone at rest stays so, and has no step.
use Rattle.std.proofs.Common.{◌≡◌, ℕ, suc, ◌+◌, List, length, Bool, true, false, ◌&&◌, ◌||◌, not}
use Rattle.std.proofs.Common.{refl, sym, ◌∙◌, arith, inl, inr}
use Rattle.std.specs.Prelude.{◌==◌, None, Some}
use Rattle.std.proofs.lemmas.Bool.{and_parts, cases_Bool}
use Rattle.std.proofs.lemmas.Bool.{eqb-true, le-ltb}
use Rattle.jr_model.specs.declared.events.Event.{Event}
use Rattle.jr_model.specs.Choice.{choice_of_clone}
use Rattle.jr_model.specs.Legal.{is_legal, is_halted, has_room, is_over, is_at_rest}
use Rattle.jr_model.specs.Plan.{Plan, SubJob, clone_of}
use Rattle.jr_model.specs.Rounds.{pass_of, all_issued, has_rounds, nothing_flies_of, pass_finished, clone_finished}
use Rattle.jr_model.specs.PlanFacts.{IsPlanned}
use Rattle.jr_backlog.specs.Rounds.{is_due, is_closed}
use Rattle.jr_backlog.specs.CurrentRound.{current_round}
use Rattle.jr_model.proofs.PlanLemmas.{own_place}
use Rattle.jr_desk_totals.specs.Tallies.{awaited, flying_checks, flying_issues}
use Rattle.jr_desk_totals.proofs.Compared.{is_at_rest-counts}
use Rattle.jr_desk_totals.proofs.Resting.{rest_longer}
use Rattle.jr_laws_rounds.proofs.CurrentLaws.{closed_at_end-law}
use Rattle.jr_laws_rounds.proofs.StandingFinished.{finished_by_standing-law, clone_finished_by_standing-law}
use Rattle.jr_laws_rounds.proofs.StandingSteps.{always_in_pass}
use Rattle.jr_laws_rounds.proofs.StandingOver.{none_checked, none_issued, over_longer}
use Rattle.jr_laws_steps.specs.Nexts.{IsNext, grown}
use Rattle.jr_desk_state.specs.declared.resting.Rested.{Rested}
use Rattle.jr_desk_state.specs.Rests.{AreRested}
use Rattle.jr_desk_state.proofs.ChoiceMoves.{chosen, step_blocked, step_issues, next_none}

-- a round that is closed isn't under way
closed_waits_not : (due closed rounds : Bool) → (not rounds || (due && closed)) ≡ true → (rounds && (due && not (due && closed))) ≡ false
closed_waits_not due closed false h = refl
closed_waits_not true true true h = refl
closed_waits_not true false true h = cc
closed_waits_not false closed true h = refl

-- so a clone at rest has no step
module _ (plan : Plan) (planned : IsPlanned plan) (c : ℕ) (job : SubJob) (there : clone_of plan c ≡ Some job) (h : List Event)
    (legal : is_legal plan h ≡ true) (worker : ℕ) where
  pub none_at_rest : is_at_rest h job ≡ true → choice_of_clone plan h worker job ≡ None
  none_at_rest rest =
      let c_job = job.clone in
      let flies = flying_issues h c_job + flying_checks h c_job in
      let now = always_in_pass plan planned job (own_place plan c job planned there) h legal in
      let p = now.0 in
      let parts = and_parts (is_over h job && (flies == 0)) (awaited h c_job == 0) (sym (is_at_rest-counts h job) ∙ rest) in
      let over = (and_parts (is_over h job) (flies == 0) parts.0).0 in
      chosen plan h worker c p job planned legal there now.1
      ∙ elim (cases_Bool (is_halted h job || not (has_room h job))) [
        | inl blocked ↦ step_blocked plan h worker job p blocked
        | inr free ↦
            let runs = or_first_false (is_halted h job) (not (has_room h job)) free in
            let finished : clone_finished h job ≡ true = after_false (is_halted h job) (clone_finished h job) runs over in
            let last = and_parts (suc p == job.passes) (pass_finished h (pass_of job p))
            (sym (clone_finished_by_standing-law plan h c p job planned legal there now.1) ∙ finished) in
            let closed = and_parts (all_issued h (pass_of job p) && nothing_flies_of h c_job)
            (not (has_rounds job) || is_closed (current_round job h))
            (sym (finished_by_standing-law closed_at_end-law plan h c p job planned legal there now.1 runs) ∙ last.1) in
            let round = current_round job h in
            step_issues plan h worker job p free
            (closed_waits_not (is_due round) (length round.to_check == 0) (has_rounds job) closed.1)
            ∙ next_none plan h worker job p last.1
            (le-ltb (suc p) job.passes (let equal = eqb-true (suc p) job.passes last.0 in omega (arith, equal)))
      ]
    where
      or_first_false : (a b : Bool) → (a || b) ≡ false → a ≡ false
      or_first_false true b h = h
      or_first_false false b h = refl

      after_false : (a b : Bool) → a ≡ false → (a || b) ≡ true → b ≡ true
      after_false true b h g = cc
      after_false false b h g = g

-- one event more leaves it at rest
pub rests_on : (plan : Plan) (h : List Event) (e : Event) (job : SubJob) → IsNext plan h e → clone_of plan job.clone ≡ Some job
    → is_at_rest h job ≡ true → is_at_rest (grown h e) job ≡ true
rests_on plan h e job next own =
    rest_longer plan job h next.legal (none_issued plan next.planned job own h next.legal) (none_checked plan next.planned job own h next.legal)
    e next.may (over_longer plan next.planned job own h e next.legal next.may)

-- and the clones that were passed by as the history was stay passed by
pub rested_grows : (plan : Plan) (h : List Event) (e : Event) (rested : Rested) → IsNext plan h e → AreRested plan h rested
    → AreRested plan (grown h e) rested
rested_grows plan h e rested next are = record {
  leading = λ c job there before. stays c job there (are.leading c job there before);
  earlier = λ c job first there at before. stays c job there (are.earlier c job first there at before);
  last = are.last;
}
  where
    stays : (c : ℕ) (job : SubJob) → clone_of plan c ≡ Some job → is_at_rest h job ≡ true → is_at_rest (grown h e) job ≡ true
    stays c job there = rests_on plan h e job next (own_place plan c job next.planned there)
