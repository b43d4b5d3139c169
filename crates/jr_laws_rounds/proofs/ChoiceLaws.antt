-- The least step of a clone, by the pass that it is in and its current round.
use Rattle.std.proofs.Common.{◌≡◌, ℕ, suc, ◌<◌, List, Bool, true, false, cond, ◌&&◌, ◌||◌, not, refl, sym, ◌∙◌, ap, subst, arith, inl, inr}
use Rattle.std.specs.Prelude.{◌⊎◌, Some, None, slice_get, nat_lt, ◌==◌}
use Rattle.std.specs.List.{list_any, list_all}
use Rattle.std.proofs.lemmas.Bool.{and_parts, and_from, and_left, and_right, or_parts, lt-ltb, le-ltb, cases_Bool, cases_lt, cases_order, not-false, not_from_false, false_from_ne_true, both_ways, cond-true, cond-false}
use Rattle.jr_model.specs.declared.events.Event.{Event}
use Rattle.jr_model.specs.declared.events.WriteId.{WriteId}
use Rattle.jr_model.specs.declared.workloads.Draw.{Draw}
use Rattle.jr_model.specs.Choice.{choice_of_clone, choice_of_pass}
use Rattle.jr_model.specs.Draws.{draws_of_job}
use Rattle.jr_model.specs.History.{first_given, same_write}
use Rattle.jr_model.specs.Legal.{is_halted, has_room, may_take_up}
use Rattle.jr_model.specs.Plan.{Plan, SubJob, clone_of}
use Rattle.jr_model.specs.Rounds.{pass_of, write_id, issued_count, has_rounds, group_index, is_open, no_issue_flies, waits_for_round, pass_finished, is_current}
use Rattle.jr_model.specs.PlanFacts.{IsPlanned}
use Rattle.jr_model.proofs.PlanLemmas.{own_place}
use Rattle.jr_backlog.specs.Rounds.{is_due, is_closed}
use Rattle.jr_backlog.specs.CurrentRound.{current_round, last_issued}
use Rattle.jr_laws_rounds.specs.Standing.{IsInPass, is_under_way, take_up_write, issue_of, next_issue, ChoiceByStanding}
use Rattle.jr_laws_rounds.specs.Rounds.{HasRound, WaitsUnderWay, LeftInPass, LeftAreUnsettled}
use Rattle.jr_laws_rounds.proofs.StandingDraws.{planned_draw}
use Rattle.jr_laws_rounds.proofs.StandingPasses.{done_parts, none_taken, unbegun}
use Rattle.jr_laws_rounds.proofs.StandingSteps.{finished_before, before_from}
use Rattle.jr_laws_rounds.proofs.ChoiceSteps.{can_take, no_step_of, blocked_step, not_issued, done_not_current, later_not_current, unbegun_not_taken, unbegun_free, waits_unfinished, free_not_taken, no_choice_of, chosen_of, none_chosen, next_draw}
use Rattle.jr_laws_rounds.proofs.ChoiceRounds.{AreUnsettled, waits_no_issue, of_round}

-- a pass is current where it is one of the clone's that isn't finished, and those before it are
now_current : (h : List Event) (job : SubJob) (q : ℕ) → q < job.passes → pass_finished h (pass_of job q) ≡ false → ((r : ℕ) → r < q → pass_finished h (pass_of job r) ≡ true) → is_current h (pass_of job q) ≡ true
now_current h job q within unfinished before =
    let below = nat_lt q job.passes in
    let not_done = not (pass_finished h (pass_of job q)) in
    and_from (below && not_done) _
    (and_from below not_done (lt-ltb q job.passes within) (not_from_false (pass_finished h (pass_of job q)) unfinished))
    (before_from h job q before)

module _ (plan : Plan) (planned : IsPlanned plan) (job : SubJob) (there : clone_of plan job.clone ≡ Some job) (h : List Event) (worker p : ℕ) (in_pass : IsInPass h job p) where
  -- a finished pass has no choice, nor one after an unfinished one
  done_none : (q : ℕ) → pass_finished h (pass_of job q) ≡ true → choice_of_pass plan h worker (pass_of job q) ≡ None
  done_none q done =
      no_choice_of plan h worker job q (λ k draw at.
      no_step_of plan h worker (pass_of job q) draw
      (none_taken plan h job q k draw at (done_parts h (pass_of job q) done).closed)
      (not_issued plan h (pass_of job q) draw (λ now. done_not_current h (pass_of job q) done now)))

  later_none : (r q : ℕ) → r < q → p < q → pass_finished h (pass_of job r) ≡ false → choice_of_pass plan h worker (pass_of job q) ≡ None
  later_none r q later above unfinished =
      no_choice_of plan h worker job q (λ k draw at.
      no_step_of plan h worker (pass_of job q) draw
      (unbegun_not_taken plan h job q k draw at (in_pass.after q above))
      (not_issued plan h (pass_of job q) draw (λ now. later_not_current h job r q later unfinished now)))

  -- where its pass isn't finished the other passes have none
  others_none : pass_finished h (pass_of job p) ≡ false → (r : ℕ) → r < job.passes → (r ≡ p → ⊥) → choice_of_pass plan h worker (pass_of job r) ≡ None
  others_none unfinished r within apart =
      elim (cases_order r p) [
        | inl same ↦ absurd (apart same)
        | inr other ↦
            elim other [
              | inl before ↦ done_none r (finished_before h job p r in_pass before)
              | inr after ↦ later_none p r after after unfinished
            ]
      ]

  -- where its pass is finished those up to it have none
  up_to_none : pass_finished h (pass_of job p) ≡ true → (r : ℕ) → r < suc p → choice_of_pass plan h worker (pass_of job r) ≡ None
  up_to_none done r below =
      elim (cases_lt r p) [
        | inl before ↦ done_none r (finished_before h job p r in_pass before)
        | inr last ↦
            let same : p ≡ r = omega (arith, below, last) in
            subst (λ (n : ℕ). choice_of_pass plan h worker (pass_of job n) ≡ None) same (done_none p done)
      ]

  -- a clone that is halted or has no room has no choice
  blocked_none : (is_halted h job || not (has_room h job)) ≡ true → choice_of_clone plan h worker job ≡ None
  blocked_none blocked =
      none_chosen plan h worker job (λ r within. no_choice_of plan h worker job r (λ k draw at. blocked_step plan h worker (pass_of job r) draw blocked))

  -- where no round is under way the choice is the next issue
  module _ (going : is_halted h job ≡ false) (room : has_room h job ≡ true) where
    here_choice : (has_rounds job ≡ true → waits_for_round h (pass_of job p) ≡ false) → pass_finished h (pass_of job p) ≡ false → choice_of_clone plan h worker job ≡ issue_of plan h worker (pass_of job p) (slice_get (draws_of_job job p) (issued_count h (pass_of job p)))
    here_choice free unfinished =
        chosen_of plan h worker job p in_pass.within (others_none unfinished)
        ∙ next_draw plan h worker job p (issued_count h (pass_of job p)) refl
        (record {
          going = going;
          room = room;
          current = now_current h job p in_pass.within unfinished (λ r below. finished_before h job p r in_pass below);
          free = by_rounds (cases_Bool (has_rounds job));
          untaken = λ k draw at. free_not_taken plan h job p k draw at free;
        })
      where
        by_rounds : (has_rounds job ≡ true) ⊎ (has_rounds job ≡ false) → waits_for_round h (pass_of job p) ≡ false
        by_rounds (inl rounds) = free rounds
        by_rounds (inr none) = and_left (has_rounds job) _ none

    next_choice : pass_finished h (pass_of job p) ≡ true → suc p < job.passes → choice_of_clone plan h worker job ≡ issue_of plan h worker (pass_of job (suc p)) (slice_get (draws_of_job job (suc p)) 0)
    next_choice done within =
        let none = in_pass.after (suc p) (omega arith) in
        let unfinished = unbegun plan planned job there h (suc p) none in
        let draw = planned_draw plan job.clone (suc p) job planned there in
        chosen_of plan h worker job (suc p) within (λ r below apart. other unfinished r apart)
        ∙ next_draw plan h worker job (suc p) 0 none
        (record {
          going = going;
          room = room;
          current = now_current h job (suc p) within unfinished (λ r below. earlier r below);
          free = unbegun_free h job (suc p) 0 draw.0 draw.1 none;
          untaken = λ k other_draw at. unbegun_not_taken plan h job (suc p) k other_draw at none;
        })
      where
        earlier : (r : ℕ) → r < suc p → pass_finished h (pass_of job r) ≡ true
        earlier r below =
            elim (cases_lt r p) [
              | inl before ↦ finished_before h job p r in_pass before
              | inr last ↦
                  let same : p ≡ r = omega (arith, below, last) in
                  subst (λ (n : ℕ). pass_finished h (pass_of job n) ≡ true) same done
            ]

        other : pass_finished h (pass_of job (suc p)) ≡ false → (r : ℕ) → (r ≡ suc p → ⊥) → choice_of_pass plan h worker (pass_of job r) ≡ None
        other unfinished r apart =
            elim (cases_order r (suc p)) [
              | inl same ↦ absurd (apart same)
              | inr differs ↦
                  elim differs [
                    | inl before ↦ up_to_none done r before
                    | inr after ↦ later_none (suc p) r after (omega (arith, after)) unfinished
                  ]
            ]

    issue_choice : (has_rounds job ≡ true → waits_for_round h (pass_of job p) ≡ false) → choice_of_clone plan h worker job ≡ next_issue plan h worker job p
    issue_choice free =
        let here = issue_of plan h worker (pass_of job p) (slice_get (draws_of_job job p) (issued_count h (pass_of job p))) in
        let first = issue_of plan h worker (pass_of job (suc p)) (slice_get (draws_of_job job (suc p)) 0) in
        let more = nat_lt (suc p) job.passes in
        let done = pass_finished h (pass_of job p) in
        elim (cases_Bool done) [
          | inl finished ↦
              elim (cases_lt (suc p) job.passes) [
                | inl within ↦
                    next_choice finished within
                    ∙ sym (cond-true more first None (lt-ltb (suc p) job.passes within))
                    ∙ sym (cond-true done (cond more first None) here finished)
                | inr last ↦
                    none_chosen plan h worker job (λ r within. up_to_none finished r (omega (arith, last, within)))
                    ∙ sym (cond-false more first None (le-ltb (suc p) job.passes last))
                    ∙ sym (cond-true done (cond more first None) here finished)
              ]
          | inr unfinished ↦ here_choice free unfinished ∙ sym (cond-false done (cond more first None) here unfinished)
        ]

    -- while a round is under way it is the first write of the round that may be taken up
    round_choice : has_rounds job ≡ true → waits_for_round h (pass_of job p) ≡ true → list_all (λ (write : WriteId). (write.clone == job.clone) && (write.pass == p)) (current_round job h).to_check ≡ true → AreUnsettled h job p (current_round job h).to_check → choice_of_clone plan h worker job ≡ cond (no_issue_flies h job.clone) (first_given (take_up_write plan h worker job) (current_round job h).to_check) None
    round_choice rounds waits own left =
        let checks = first_given (take_up_write plan h worker job) (current_round job h).to_check in
        chosen_of plan h worker job p in_pass.within (others_none (waits_unfinished h job p waits))
        ∙ elim (cases_Bool (no_issue_flies h job.clone)) [
          | inl quiet ↦
              of_round plan h worker job p (record { rounds = rounds; going = going; room = room; waits = waits; quiet = quiet }) (last_issued job.clone h) own left
              ∙ sym (cond-true (no_issue_flies h job.clone) checks None quiet)
          | inr busy ↦
              no_choice_of plan h worker job p (λ k draw at. no_step_of plan h worker (pass_of job p) draw (barred busy draw) (waits_no_issue plan h worker job p waits draw))
              ∙ sym (cond-false (no_issue_flies h job.clone) checks None busy)
        ]
      where
        barred : no_issue_flies h job.clone ≡ false → (draw : Draw) → may_take_up plan h (pass_of job p) draw ≡ false
        barred busy draw =
            false_from_ne_true (may_take_up plan h (pass_of job p) draw) (λ may.
            both_ways (is_open h (pass_of job p) (group_index (pass_of job p) draw.number))
            (and_right _ (no_issue_flies h job.clone) busy)
            (can_take plan h (pass_of job p) draw may).opened)

-- the law, where the current round says what the pass waits for
pub choice_by_standing-law : WaitsUnderWay → LeftInPass → LeftAreUnsettled → ChoiceByStanding
choice_by_standing-law waits in_this unsettled plan h worker c p job planned legal at in_pass =
    let there = own_place plan c job planned at in
    let round = current_round job h in
    let blocked = is_halted h job || not (has_room h job) in
    let under = has_rounds job && is_under_way round in
    let checks = cond (no_issue_flies h job.clone) (first_given (take_up_write plan h worker job) round.to_check) None in
    let issues = next_issue plan h worker job p in
    elim (cases_Bool blocked) [
      | inl stuck ↦ blocked_none plan planned job there h worker p in_pass stuck ∙ sym (cond-true blocked None (cond under checks issues) stuck)
      | inr open_now ↦
          (let parts = or_parts (is_halted h job) (not (has_room h job)) open_now in
          let room = not-false (has_room h job) parts.1 in
          elim (cases_Bool under) [
            | inl now ↦
                let both = and_parts (has_rounds job) (is_under_way round) now in
                let has : HasRound plan h job p = record { planned = planned; legal = legal; there = there; in_pass = in_pass; rounds = both.0; runs = parts.0 } in
                let due = (and_parts (is_due round) (not (is_closed round)) both.1).0 in
                round_choice plan planned job there h worker p in_pass parts.0 room both.0 (waits plan h job p has ∙ both.1) (in_this plan h job p has)
                (λ k draw drawn writes.
                sym (ap (λ (b : Bool). b && list_any (same_write (write_id (pass_of job p) draw)) round.to_check) due)
                ∙ unsettled plan h job p k draw has drawn writes)
                ∙ sym (cond-true under checks issues now)
            | inr free ↦
                issue_choice plan planned job there h worker p in_pass parts.0 room
                (λ rounds.
                let has : HasRound plan h job p = record { planned = planned; legal = legal; there = there; in_pass = in_pass; rounds = rounds; runs = parts.0 } in
                waits plan h job p has ∙ sym (ap (λ (b : Bool). b && is_under_way round) rounds) ∙ free)
                ∙ sym (cond-false under checks issues free)
          ])
          ∙ sym (cond-false blocked None (cond under checks issues) open_now)
    ]
