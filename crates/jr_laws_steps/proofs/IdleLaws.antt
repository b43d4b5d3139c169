-- Where nothing may be started and nothing flies, each clone is over.
use Rattle.std.proofs.Common.{◌≡◌, ℕ, zero, suc, ◌+◌, ◌<◌, ◌≤◌, List, [], length, take, Bool, true, false, ◌&&◌, ◌||◌, not, sym, ◌∙◌, ap, subst, arith, inl, inr}
use Rattle.std.specs.Prelude.{Some, None, slice_get, nat_le, nat_lt, ◌==◌}
use Rattle.std.specs.List.{list_any, list_all, range_with_len}
use Rattle.std.proofs.lemmas.Bool.{and_parts, and_from, or_left, or_right, cases_Bool, not_from_false, not-true, false_from_ne_true, eq-eqb, le-leb, lt-ltb, cases_lt, both_ways}
use Rattle.jr_model.specs.declared.events.Event.{Event}
use Rattle.jr_model.specs.declared.events.Event.TheVariants.{Issue}
use Rattle.jr_model.specs.declared.workloads.Draw.{Draw}
use Rattle.jr_model.specs.Choice.{choice, choice_of_clone, choice_of_pass}
use Rattle.jr_model.specs.History.{in_flight, awaiting, is_of_clone}
use Rattle.jr_model.specs.Legal.{is_halted, is_over, is_at_rest, phase_is_open, has_room, is_clear, takes_up, may_take_up, may_issue, check_or_skip, step_of, is_legal, is_complete}
use Rattle.jr_model.specs.Plan.{Plan, SubJob, issued_as}
use Rattle.jr_model.specs.Rounds.{Pass, pass_of, passes_of, write_id, is_write_draw, issued_count, all_issued, issued_among, has_rounds, group_of, group_count, group_index, is_full, is_settled, is_closed, no_issue_flies, is_open, waits_for_round, rounds_closed, nothing_flies_of, nothing_flies_in, pass_finished, clone_finished, is_current}
use Rattle.jr_model.specs.PlanFacts.{IsPlanned}
use Rattle.jr_model.proofs.PlaceLemmas.{item_at, all_from, first_fails, any_found, any_at, none_given, got_ranged, ranged_at, got_made, made_at}
use Rattle.jr_model.proofs.PlanLemmas.{numbered_of}
use Rattle.jr_model.proofs.OptionLemmas.{neither_chosen}
use Rattle.jr_laws_steps.proofs.GroupLaws.{AreNumbered, group_write}
use Rattle.jr_laws_steps.proofs.IssueLaws.{numbered_draws, issued_at_most}
use Rattle.jr_laws_steps.proofs.RestLaws.{length_by_none, room_at_rest, clear_at_rest, no_issue_at_rest, none_of_clone_at_rest, none_of_pass_at_rest, taken_up_settled}

-- a pass of a clone that isn't halted, whose phase is open, and of whose draws none may be started
pub record IsStuck (plan : Plan) (history : List Event) (worker : ℕ) (pass : Pass) : Type 0 where
  pub rests : in_flight history ≡ []
  pub depth : 1 ≤ pass.job.depth
  pub going : is_halted history pass.job ≡ false
  pub opened : phase_is_open plan history pass.job ≡ true
  pub numbered : AreNumbered 0 pass.draws
  pub few : issued_count history pass ≤ length pass.draws
  pub none : (k : ℕ) (draw : Draw) → slice_get pass.draws k ≡ Some draw → step_of plan history worker pass draw ≡ None

module _ (plan : Plan) (history : List Event) (worker : ℕ) (pass : Pass) (stuck : IsStuck plan history worker pass) where
  no_step : (k : ℕ) (draw : Draw) → slice_get pass.draws k ≡ Some draw → (may_take_up plan history pass draw ≡ false) × (may_issue plan history pass draw ≡ false)
  no_step k draw at =
      neither_chosen (may_take_up plan history pass draw) (may_issue plan history pass draw) (check_or_skip history worker pass draw) (Issue worker (issued_as pass.job draw.dir) (write_id pass draw) draw.piece) (stuck.none k draw at)

  -- a write of an open round may be taken up where it isn't settled
  may_take : (g : ℕ) (draw : Draw) → has_rounds pass.job ≡ true → is_full history pass g ≡ true → is_closed history pass g ≡ false → is_write_draw draw ≡ true → group_index pass draw.number ≡ g → is_settled history (write_id pass draw) ≡ false → may_take_up plan history pass draw ≡ true
  may_take g draw rounds full unclosed writes index unsettled =
      let untaken : list_any (takes_up (write_id pass draw)) history ≡ false = false_from_ne_true (list_any (takes_up (write_id pass draw)) history) (λ taken. both_ways (is_settled history (write_id pass draw)) unsettled (taken_up_settled history stuck.rests (write_id pass draw) taken)) in
      let opens : is_open history pass g ≡ true =
      and_from (is_full history pass g && not (is_closed history pass g)) (no_issue_flies history pass.job.clone)
      (and_from (is_full history pass g) (not (is_closed history pass g)) full (not_from_false (is_closed history pass g) unclosed))
      (no_issue_at_rest history stuck.rests pass.job.clone) in
      let written = is_write_draw draw in
      let checked = has_rounds pass.job in
      let new = not (list_any (takes_up (write_id pass draw)) history) in
      let going = not (is_halted history pass.job) in
      let room = has_room history pass.job in
      let clear = is_clear plan history pass.job false draw.piece in
      and_from (written && checked && new && going && room && clear) (is_open history pass (group_index pass draw.number))
      (and_from (written && checked && new && going && room) clear
      (and_from (written && checked && new && going) room
      (and_from (written && checked && new) going
      (and_from (written && checked) new
      (and_from written checked writes rounds)
      (not_from_false (list_any (takes_up (write_id pass draw)) history) untaken))
      (not_from_false (is_halted history pass.job) stuck.going))
      (room_at_rest history stuck.rests pass.job stuck.depth))
      (clear_at_rest history stuck.rests plan pass.job false draw.piece))
      (subst (λ (n : ℕ). is_open history pass n ≡ true) (sym index) opens)

  -- no round is open
  no_round : waits_for_round history pass ≡ true → ⊥
  no_round waits =
      let waiting = λ (g : ℕ). is_full history pass g && not (is_closed history pass g) in
      let parts = and_parts (has_rounds pass.job) (list_any waiting (range_with_len 0 (group_count pass))) waits in
      let group = any_found waiting (range_with_len 0 (group_count pass)) parts.1 in
      let g = group.1 in
      let is = and_parts (is_full history pass g) (not (is_closed history pass g)) group.3 in
      let ranged = got_ranged 0 (group_count pass) group.0 g group.2 in
      let settled = λ (draw : Draw). is_settled history (write_id pass draw) in
      let closed : is_closed history pass g ≡ false = not-true (is_closed history pass g) is.1 in
      let unsettled : list_all settled (group_of pass g) ≡ false = ap (λ (b : Bool). b && list_all settled (group_of pass g)) (sym is.0) ∙ closed in
      let first = first_fails settled (group_of pass g) unsettled in
      let write = group_write pass g first.0 first.1 stuck.numbered (omega (arith, ranged)) first.2 in
      both_ways (may_take_up plan history pass first.1) (no_step write.0 first.1 write.1).0
      (may_take g first.1 parts.0 is.0 closed write.2 write.3 first.3)

  -- where all is issued, and no round is open, all rounds are closed
  all_closed : all_issued history pass ≡ true → waits_for_round history pass ≡ false → rounds_closed history pass ≡ true
  all_closed issued free =
      elim (cases_Bool (has_rounds pass.job)) [
        | inl rounds ↦
            or_right (not (has_rounds pass.job)) (list_all (λ g. is_closed history pass g) (range_with_len 0 (group_count pass)))
            (all_from (λ g. is_closed history pass g) (range_with_len 0 (group_count pass)) (λ k g at. each rounds k g at))
        | inr none ↦
            or_left (not (has_rounds pass.job)) (list_all (λ g. is_closed history pass g) (range_with_len 0 (group_count pass)))
            (not_from_false (has_rounds pass.job) none)
      ]
    where
      each : has_rounds pass.job ≡ true → (k g : ℕ) → slice_get (range_with_len 0 (group_count pass)) k ≡ Some g → is_closed history pass g ≡ true
      each rounds k g at =
          elim (cases_Bool (is_closed history pass g)) [
            | inl closed ↦ closed
            | inr unclosed ↦
                let full : is_full history pass g ≡ true = or_left (all_issued history pass) (nat_lt 0 pass.job.backlog && (issued_among history pass (group_of pass g) == pass.job.backlog)) issued in
                let waits = and_from (has_rounds pass.job) (list_any (λ n. is_full history pass n && not (is_closed history pass n)) (range_with_len 0 (group_count pass))) rounds
                (any_at (λ n. is_full history pass n && not (is_closed history pass n)) (range_with_len 0 (group_count pass)) k g at
                (and_from (is_full history pass g) (not (is_closed history pass g)) full (not_from_false (is_closed history pass g) unclosed))) in
                absurd (both_ways (waits_for_round history pass) free waits)
          ]

  -- where no round is open, and the pass is the current one, all is issued
  issued_all : waits_for_round history pass ≡ false → is_current history pass ≡ true → all_issued history pass ≡ true
  issued_all free current =
      elim (cases_Bool (all_issued history pass)) [
        | inl issued ↦ issued
        | inr more ↦
            elim (cases_lt (issued_count history pass) (length pass.draws)) [
              | inl below ↦ absurd (next_may (draw_there below))
              | inr all ↦ eq-eqb (issued_count history pass) (length pass.draws) (omega (arith, all, stuck.few))
            ]
      ]
    where
      draw_there : issued_count history pass < length pass.draws → (draw : Draw) × (slice_get pass.draws (issued_count history pass) ≡ Some draw)
      draw_there below = item_at pass.draws (issued_count history pass) below

      next_may : ((draw : Draw) × (slice_get pass.draws (issued_count history pass) ≡ Some draw)) → ⊥
      next_may there =
          let draw = there.0 in
          let number = stuck.numbered (issued_count history pass) draw there.1 in
          let next = draw.number == issued_count history pass in
          let going = not (is_halted history pass.job) in
          let room = has_room history pass.job in
          let clear = is_clear plan history pass.job (is_write_draw draw) draw.piece in
          let first = is_current history pass in
          let unheld = not (waits_for_round history pass) in
          both_ways (may_issue plan history pass draw) (no_step (issued_count history pass) draw there.1).1
          (and_from (next && going && room && clear && first && unheld) (phase_is_open plan history pass.job)
          (and_from (next && going && room && clear && first) unheld
          (and_from (next && going && room && clear) first
          (and_from (next && going && room) clear
          (and_from (next && going) room
          (and_from next going (eq-eqb draw.number (issued_count history pass) (omega (arith, number))) (not_from_false (is_halted history pass.job) stuck.going))
          (room_at_rest history stuck.rests pass.job stuck.depth))
          (clear_at_rest history stuck.rests plan pass.job (is_write_draw draw) draw.piece))
          current)
          (not_from_false (waits_for_round history pass) free))
          stuck.opened)

  -- so the pass, where those before it are finished, is finished
  pub stuck_finished : pass.number < pass.job.passes → list_all (pass_finished history) (take pass.number (passes_of pass.job)) ≡ true → pass_finished history pass ≡ true
  stuck_finished within before =
      elim (cases_Bool (pass_finished history pass)) [
        | inl finished ↦ finished
        | inr unfinished ↦
            let first = nat_lt pass.number pass.job.passes && not (pass_finished history pass) in
            let current : is_current history pass ≡ true =
            and_from first (list_all (pass_finished history) (take pass.number (passes_of pass.job)))
            (and_from (nat_lt pass.number pass.job.passes) (not (pass_finished history pass)) (lt-ltb pass.number pass.job.passes within) (not_from_false (pass_finished history pass) unfinished))
            before in
            let free : waits_for_round history pass ≡ false = false_from_ne_true (waits_for_round history pass) no_round in
            let issued = issued_all free current in
            and_from (all_issued history pass && nothing_flies_in history pass) (rounds_closed history pass)
            (and_from (all_issued history pass) (nothing_flies_in history pass) issued (none_of_pass_at_rest history stuck.rests pass))
            (all_closed issued free)
      ]

-- a legal history in which nothing flies and no verdict is missing, after which nothing may be started
module _ (plan : Plan) (history : List Event) (worker : ℕ) (planned : IsPlanned plan) (legal : is_legal plan history ≡ true) (idle : choice plan history worker ≡ None) (rests : in_flight history ≡ []) (judged : awaiting history ≡ []) where
  -- none of the draws of a planned clone's pass may be started
  no_choice : (i p k : ℕ) (job : SubJob) (draw : Draw) → slice_get plan.clones i ≡ Some job → p < job.passes → slice_get (pass_of job p).draws k ≡ Some draw → step_of plan history worker (pass_of job p) draw ≡ None
  no_choice i p k job draw at within drawn =
      let of_clone = none_given (choice_of_clone plan history worker) plan.clones i job idle at in
      let place : slice_get (range_with_len 0 job.passes) p ≡ Some p =
      let same : 0 + p ≡ p = omega arith in ranged_at 0 job.passes p within ∙ ap Some same in
      let of_pass = none_given (choice_of_pass plan history worker) (passes_of job) p (pass_of job p) of_clone (made_at (pass_of job) (range_with_len 0 job.passes) p p place) in
      none_given (step_of plan history worker (pass_of job p)) (pass_of job p).draws k draw of_pass drawn

  stuck_pass : (i p : ℕ) (job : SubJob) → slice_get plan.clones i ≡ Some job → p < job.passes → is_halted history job ≡ false → phase_is_open plan history job ≡ true → IsStuck plan history worker (pass_of job p)
  stuck_pass i p job at within going opened = record {
    rests = rests;
    depth = (planned.drafted.limited i job at).depth_least;
    going = going;
    opened = opened;
    numbered = numbered_draws job p;
    few = issued_at_most plan history i p job (numbered_of plan planned) at legal;
    none = λ k draw drawn. no_choice i p k job draw at within drawn;
  }

  -- a clone whose phase is open, and that isn't halted, is finished
  finished_where_open : (i : ℕ) (job : SubJob) → slice_get plan.clones i ≡ Some job → is_halted history job ≡ false → phase_is_open plan history job ≡ true → clone_finished history job ≡ true
  finished_where_open i job at going opened =
      elim (cases_Bool (clone_finished history job)) [
        | inl finished ↦ finished
        | inr unfinished ↦
            let first = first_fails (pass_finished history) (passes_of job) unfinished in
            let made = got_made (pass_of job) (range_with_len 0 job.passes) first.0 first.1 first.2 in
            let ranged = got_ranged 0 job.passes first.0 made.0 made.1 in
            let number : made.0 ≡ first.0 = omega (arith, ranged.0) in
            let here : pass_of job first.0 ≡ first.1 = ap (pass_of job) (sym number) ∙ made.2 in
            let fails : pass_finished history (pass_of job first.0) ≡ false = ap (pass_finished history) here ∙ first.3 in
            let finished = stuck_finished plan history worker (pass_of job first.0) (stuck_pass i first.0 job at ranged.1 going opened) ranged.1 first.4 in
            absurd (both_ways (pass_finished history (pass_of job first.0)) fails finished)
      ]

  over_where_open : (i : ℕ) (job : SubJob) → slice_get plan.clones i ≡ Some job → phase_is_open plan history job ≡ true → is_over history job ≡ true
  over_where_open i job at opened =
      elim (cases_Bool (is_halted history job)) [
        | inl halted ↦ or_left (is_halted history job) (clone_finished history job) halted
        | inr going ↦ or_right (is_halted history job) (clone_finished history job) (finished_where_open i job at going opened)
      ]

  -- an over clone is at rest
  over_at_rest : (job : SubJob) → is_over history job ≡ true → is_at_rest history job ≡ true
  over_at_rest job over =
      and_from (is_over history job && nothing_flies_of history job.clone) (not (list_any (is_of_clone job.clone) (awaiting history)))
      (and_from (is_over history job) (nothing_flies_of history job.clone) over (none_of_clone_at_rest history rests job.clone))
      (ap (λ ios. not (list_any (is_of_clone job.clone) ios)) judged)

  -- the clones of the phases below n are over
  over_below : (n i : ℕ) (job : SubJob) → slice_get plan.clones i ≡ Some job → job.phase < n → is_over history job ≡ true
  over_below zero i job at below = absurd (omega (arith, below))
  over_below (suc n) i job at below =
      over_where_open i job at
      (all_from (λ (other : SubJob). nat_le job.phase other.phase || is_at_rest history other) plan.clones
      (λ k other there. earlier_at_rest other (λ before. over_below n k other there (omega (arith, before, below)))))
    where
      earlier_at_rest : (other : SubJob) → (other.phase < job.phase → is_over history other ≡ true) → (nat_le job.phase other.phase || is_at_rest history other) ≡ true
      earlier_at_rest other over =
          elim (cases_lt other.phase job.phase) [
            | inl before ↦ or_right (nat_le job.phase other.phase) (is_at_rest history other) (over_at_rest other (over before))
            | inr later ↦ or_left (nat_le job.phase other.phase) (is_at_rest history other) (le-leb job.phase other.phase later)
          ]

  -- so each clone is over, and the run is complete
  pub idle_is_over : is_complete plan history ≡ true
  idle_is_over =
      and_from ((length (in_flight history) == 0) && (length (awaiting history) == 0)) (list_all (is_over history) plan.clones)
      (and_from (length (in_flight history) == 0) (length (awaiting history) == 0) (length_by_none (in_flight history) rests) (length_by_none (awaiting history) judged))
      (all_from (is_over history) plan.clones (λ i job at. over_below (suc job.phase) i job at (omega arith)))
