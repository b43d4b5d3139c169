-- Which draws of a clone have no step, by the pass that it is in.
use Rattle.std.proofs.Common.{◌≡◌, ℕ, ◌+◌, ◌<◌, List, Bool, true, false, cond, ◌&&◌, ◌||◌, not, refl, sym, ◌∙◌, ap, subst, arith, inl, inr}
use Rattle.std.specs.Prelude.{Option, Some, None, slice_get, ◌==◌}
use Rattle.std.specs.List.{list_any, range_with_len}
use Rattle.std.proofs.lemmas.Bool.{and_parts, and_from, or_cases, eqb-true, eq-eqb, not-true, not_from_true, not_from_false, false_from_ne_true, both_ways, cond-false}
use Rattle.jr_model.specs.declared.events.Event.{Event}
use Rattle.jr_model.specs.declared.events.Event.TheVariants.{Issue}
use Rattle.jr_model.specs.declared.workloads.Draw.{Draw}
use Rattle.jr_model.specs.Choice.{choice_of_clone, choice_of_pass}
use Rattle.jr_model.specs.Draws.{draws_of_job}
use Rattle.jr_model.specs.Legal.{is_halted, has_room, is_clear, phase_is_open, takes_up, may_take_up, may_issue, check_or_skip, step_of}
use Rattle.jr_model.specs.Plan.{Plan, SubJob, issued_as}
use Rattle.jr_model.specs.Rounds.{Pass, pass_of, passes_of, write_id, is_write_draw, issued_count, has_rounds, group_count, group_index, is_full, is_closed, is_open, waits_for_round, pass_finished, is_current}
use Rattle.jr_laws_steps.proofs.DrawnLaws.{takeable, full_needs_issue}
use Rattle.jr_model.proofs.PlaceLemmas.{any_found, any_at, got_made, got_ranged, ranged_at}
use Rattle.jr_model.proofs.PlanLemmas.{pass_at}
use Rattle.jr_model.proofs.BoolLemmas.{same_truth, seven_parts}
use Rattle.jr_model.proofs.LegalLaws.{number_of_draw}
use Rattle.jr_laws_quiet.proofs.Members.{in_own_group}
use Rattle.jr_laws_quiet.proofs.Phases.{open_parts}
use Rattle.jr_laws_rounds.specs.Standing.{issue_of}
use Rattle.jr_laws_rounds.proofs.StandingLists.{nothing_given, only_at}
use Rattle.jr_laws_rounds.proofs.StandingPasses.{done_parts, current_parts, group_closed, at_number}
use Rattle.jr_laws_rounds.proofs.StandingSteps.{before_at}

seven_from : (a b c d e f g : Bool) → a ≡ true → b ≡ true → c ≡ true → d ≡ true → e ≡ true → f ≡ true → g ≡ true → (a && b && c && d && e && f && g) ≡ true
seven_from a b c d e f g ha hb hc hd he hf hg =
    and_from (a && b && c && d && e && f) g
    (and_from (a && b && c && d && e) f
    (and_from (a && b && c && d) e
    (and_from (a && b && c) d
    (and_from (a && b) c
    (and_from a b ha hb)
    hc)
    hd)
    he)
    hf)
    hg

-- the parts of an issue that may be made
pub record CanIssue (plan : Plan) (h : List Event) (pass : Pass) (draw : Draw) : Type 0 where
  pub next : (draw.number == issued_count h pass) ≡ true
  pub going : not (is_halted h pass.job) ≡ true
  pub room : has_room h pass.job ≡ true
  pub clear : is_clear plan h pass.job (is_write_draw draw) draw.piece ≡ true
  pub current : is_current h pass ≡ true
  pub free : not (waits_for_round h pass) ≡ true
  pub opened : phase_is_open plan h pass.job ≡ true

pub can_issue : (plan : Plan) (h : List Event) (pass : Pass) (draw : Draw) → may_issue plan h pass draw ≡ true → CanIssue plan h pass draw
can_issue plan h pass draw may =
    let parts = seven_parts (draw.number == issued_count h pass) (not (is_halted h pass.job)) (has_room h pass.job)
    (is_clear plan h pass.job (is_write_draw draw) draw.piece) (is_current h pass) (not (waits_for_round h pass)) (phase_is_open plan h pass.job) may in
    record { next = parts.0; going = parts.1; room = parts.2; clear = parts.3; current = parts.4; free = parts.5; opened = parts.6 }

pub issue_may : (plan : Plan) (h : List Event) (pass : Pass) (draw : Draw) → CanIssue plan h pass draw → may_issue plan h pass draw ≡ true
issue_may plan h pass draw can =
    seven_from (draw.number == issued_count h pass) (not (is_halted h pass.job)) (has_room h pass.job)
    (is_clear plan h pass.job (is_write_draw draw) draw.piece) (is_current h pass) (not (waits_for_round h pass)) (phase_is_open plan h pass.job)
    can.next can.going can.room can.clear can.current can.free can.opened

-- the parts of a check or skip that may be made
pub record CanTake (plan : Plan) (h : List Event) (pass : Pass) (draw : Draw) : Type 0 where
  pub writes : is_write_draw draw ≡ true
  pub rounds : has_rounds pass.job ≡ true
  pub new : not (list_any (takes_up (write_id pass draw)) h) ≡ true
  pub going : not (is_halted h pass.job) ≡ true
  pub room : has_room h pass.job ≡ true
  pub clear : is_clear plan h pass.job false draw.piece ≡ true
  pub opened : is_open h pass (group_index pass draw.number) ≡ true

pub can_take : (plan : Plan) (h : List Event) (pass : Pass) (draw : Draw) → may_take_up plan h pass draw ≡ true → CanTake plan h pass draw
can_take plan h pass draw may =
    let parts = seven_parts (is_write_draw draw) (has_rounds pass.job) (not (list_any (takes_up (write_id pass draw)) h))
    (not (is_halted h pass.job)) (has_room h pass.job) (is_clear plan h pass.job false draw.piece) (is_open h pass (group_index pass draw.number)) may in
    record { writes = parts.0; rounds = parts.1; new = parts.2; going = parts.3; room = parts.4; clear = parts.5; opened = parts.6 }

pub take_may : (plan : Plan) (h : List Event) (pass : Pass) (draw : Draw) → CanTake plan h pass draw → may_take_up plan h pass draw ≡ true
take_may plan h pass draw can =
    seven_from (is_write_draw draw) (has_rounds pass.job) (not (list_any (takes_up (write_id pass draw)) h))
    (not (is_halted h pass.job)) (has_room h pass.job) (is_clear plan h pass.job false draw.piece) (is_open h pass (group_index pass draw.number))
    can.writes can.rounds can.new can.going can.room can.clear can.opened

-- where neither may be made there is no step
neither : (a b : Bool) (x y : Event) → a ≡ false → b ≡ false → cond a (Some x) (cond b (Some y) None) ≡ None
neither a b x y not_a not_b = cond-false a (Some x) (cond b (Some y) None) not_a ∙ cond-false b (Some y) None not_b

pub no_step_of : (plan : Plan) (h : List Event) (worker : ℕ) (pass : Pass) (draw : Draw) → may_take_up plan h pass draw ≡ false → may_issue plan h pass draw ≡ false → step_of plan h worker pass draw ≡ None
no_step_of plan h worker pass draw untaken unissued =
    neither (may_take_up plan h pass draw) (may_issue plan h pass draw) (check_or_skip h worker pass draw) (Issue worker (issued_as pass.job draw.dir) (write_id pass draw) draw.piece) untaken unissued

-- a clone that is halted, or has no room, has no step
pub blocked_step : (plan : Plan) (h : List Event) (worker : ℕ) (pass : Pass) (draw : Draw) → (is_halted h pass.job || not (has_room h pass.job)) ≡ true → step_of plan h worker pass draw ≡ None
blocked_step plan h worker pass draw blocked =
    no_step_of plan h worker pass draw
    (false_from_ne_true (may_take_up plan h pass draw) (λ may. let can = can_take plan h pass draw may in blocks can.going can.room))
    (false_from_ne_true (may_issue plan h pass draw) (λ may. let can = can_issue plan h pass draw may in blocks can.going can.room))
  where
    blocks : not (is_halted h pass.job) ≡ true → has_room h pass.job ≡ true → ⊥
    blocks going room =
        elim (or_cases (is_halted h pass.job) (not (has_room h pass.job)) blocked) [
          | inl halted ↦ both_ways (not (is_halted h pass.job)) (not_from_true (is_halted h pass.job) halted) going
          | inr full ↦ both_ways (not (has_room h pass.job)) (not_from_true (has_room h pass.job) room) full
        ]

-- a pass that isn't current has no issue
pub not_issued : (plan : Plan) (h : List Event) (pass : Pass) (draw : Draw) → (is_current h pass ≡ true → ⊥) → may_issue plan h pass draw ≡ false
not_issued plan h pass draw past = false_from_ne_true (may_issue plan h pass draw) (λ may. past (can_issue plan h pass draw may).current)

-- a finished pass isn't current, nor is one after an unfinished one
pub done_not_current : (h : List Event) (pass : Pass) → pass_finished h pass ≡ true → is_current h pass ≡ true → ⊥
done_not_current h pass done now = both_ways (pass_finished h pass) (current_parts h pass now).unfinished done

pub later_not_current : (h : List Event) (job : SubJob) (r q : ℕ) → r < q → pass_finished h (pass_of job r) ≡ false → is_current h (pass_of job q) ≡ true → ⊥
later_not_current h job r q later unfinished current =
    let now = current_parts h (pass_of job q) current in
    both_ways (pass_finished h (pass_of job r)) unfinished (before_at h job q r now.before later (omega (arith, later, now.within)))

-- of a pass of which nothing was issued no write is taken up
pub unbegun_not_taken : (plan : Plan) (h : List Event) (job : SubJob) (q k : ℕ) (draw : Draw) → slice_get (draws_of_job job q) k ≡ Some draw → issued_count h (pass_of job q) ≡ 0 → may_take_up plan h (pass_of job q) draw ≡ false
unbegun_not_taken plan h job q k draw at none =
    let pass = pass_of job q in
    let g = group_index pass draw.number in
    false_from_ne_true (may_take_up plan h pass draw) (λ may.
    full_needs_issue h pass g k draw at none (open_parts h pass g (takeable plan h pass draw may).opened).full)

-- where nothing was issued of a pass it waits for no round
pub unbegun_free : (h : List Event) (job : SubJob) (q k : ℕ) (draw : Draw) → slice_get (draws_of_job job q) k ≡ Some draw → issued_count h (pass_of job q) ≡ 0 → waits_for_round h (pass_of job q) ≡ false
unbegun_free h job q k draw at none = false_from_ne_true (waits_for_round h (pass_of job q)) no_wait
  where
    no_wait : waits_for_round h (pass_of job q) ≡ true → ⊥
    no_wait waits =
        let pass = pass_of job q in
        let waiting = λ (g : ℕ). is_full h pass g && not (is_closed h pass g) in
        let parts = and_parts (has_rounds job) (list_any waiting (range_with_len 0 (group_count pass))) waits in
        let group = any_found waiting (range_with_len 0 (group_count pass)) parts.1 in
        let is = and_parts (is_full h pass group.1) (not (is_closed h pass group.1)) group.3 in
        full_needs_issue h pass group.1 k draw at none is.0

-- a pass that waits for a round isn't finished
pub waits_unfinished : (h : List Event) (job : SubJob) (p : ℕ) → waits_for_round h (pass_of job p) ≡ true → pass_finished h (pass_of job p) ≡ false
waits_unfinished h job p waits = false_from_ne_true (pass_finished h (pass_of job p)) not_done
  where
    not_done : pass_finished h (pass_of job p) ≡ true → ⊥
    not_done done =
        let pass = pass_of job p in
        let waiting = λ (g : ℕ). is_full h pass g && not (is_closed h pass g) in
        let parts = and_parts (has_rounds job) (list_any waiting (range_with_len 0 (group_count pass))) waits in
        let group = any_found waiting (range_with_len 0 (group_count pass)) parts.1 in
        let g = group.1 in
        let is = and_parts (is_full h pass g) (not (is_closed h pass g)) group.3 in
        let ranged = got_ranged 0 (group_count pass) group.0 g group.2 in
        both_ways (is_closed h pass g) (not-true (is_closed h pass g) is.1)
        (group_closed h job p g parts.0 (done_parts h pass done).closed (omega (arith, ranged.0, ranged.1)))

-- where a pass waits for no round none of its writes is taken up
pub free_not_taken : (plan : Plan) (h : List Event) (job : SubJob) (p k : ℕ) (draw : Draw) → slice_get (draws_of_job job p) k ≡ Some draw → (has_rounds job ≡ true → waits_for_round h (pass_of job p) ≡ false) → may_take_up plan h (pass_of job p) draw ≡ false
free_not_taken plan h job p k draw at free = false_from_ne_true (may_take_up plan h (pass_of job p) draw) not_taken
  where
    not_taken : may_take_up plan h (pass_of job p) draw ≡ true → ⊥
    not_taken may =
        let pass = pass_of job p in
        let g = group_index pass draw.number in
        let waiting = λ (i : ℕ). is_full h pass i && not (is_closed h pass i) in
        let needs = takeable plan h pass draw may in
        let own = in_own_group job p draw.number draw (at_number job p k draw at) needs.writes in
        let opened = open_parts h pass g needs.opened in
        let same : 0 + g ≡ g = omega arith in
        let waits = and_from (has_rounds job) (list_any waiting (range_with_len 0 (group_count pass))) needs.rounds
        (any_at waiting (range_with_len 0 (group_count pass)) g g (ranged_at 0 (group_count pass) g own.1 ∙ ap Some same)
        (and_from (is_full h pass g) (not (is_closed h pass g)) opened.full (not_from_false (is_closed h pass g) opened.not_closed))) in
        both_ways (waits_for_round h pass) (free needs.rounds) waits

-- a pass none of whose draws has a step has no choice
pub no_choice_of : (plan : Plan) (h : List Event) (worker : ℕ) (job : SubJob) (q : ℕ) → ((k : ℕ) (draw : Draw) → slice_get (draws_of_job job q) k ≡ Some draw → step_of plan h worker (pass_of job q) draw ≡ None) → choice_of_pass plan h worker (pass_of job q) ≡ None
no_choice_of plan h worker job q none = nothing_given (step_of plan h worker (pass_of job q)) (draws_of_job job q) none

-- the pass at a place of a clone's passes
pass_at_place : (job : SubJob) (k : ℕ) (pass : Pass) → slice_get (passes_of job) k ≡ Some pass → (pass_of job k ≡ pass) × (k < job.passes)
pass_at_place job k pass at =
    let made = got_made (pass_of job) (range_with_len 0 job.passes) k pass at in
    let ranged = got_ranged 0 job.passes k made.0 made.1 in
    let number : k ≡ made.0 = omega (arith, ranged.0) in
    (ap (pass_of job) number ∙ made.2, ranged.1)

-- where one pass alone has a choice, it is the clone's
pub chosen_of : (plan : Plan) (h : List Event) (worker : ℕ) (job : SubJob) (q : ℕ) → q < job.passes → ((r : ℕ) → r < job.passes → (r ≡ q → ⊥) → choice_of_pass plan h worker (pass_of job r) ≡ None) → choice_of_clone plan h worker job ≡ choice_of_pass plan h worker (pass_of job q)
chosen_of plan h worker job q within others =
    only_at (choice_of_pass plan h worker) (passes_of job) q (pass_of job q) (pass_at job q within)
    (λ k pass differs at.
    let is = pass_at_place job k pass at in
    subst (λ (x : Pass). choice_of_pass plan h worker x ≡ None) is.0 (others k is.1 differs))

pub none_chosen : (plan : Plan) (h : List Event) (worker : ℕ) (job : SubJob) → ((r : ℕ) → r < job.passes → choice_of_pass plan h worker (pass_of job r) ≡ None) → choice_of_clone plan h worker job ≡ None
none_chosen plan h worker job none =
    nothing_given (choice_of_pass plan h worker) (passes_of job)
    (λ k pass at.
    let is = pass_at_place job k pass at in
    subst (λ (x : Pass). choice_of_pass plan h worker x ≡ None) is.0 (none k is.1))

-- what the issue of a pass's next draw rests on
pub record CanGoOn (plan : Plan) (h : List Event) (job : SubJob) (q : ℕ) : Type 0 where
  pub going : is_halted h job ≡ false
  pub room : has_room h job ≡ true
  pub current : is_current h (pass_of job q) ≡ true
  pub free : waits_for_round h (pass_of job q) ≡ false
  pub untaken : (k : ℕ) (draw : Draw) → slice_get (draws_of_job job q) k ≡ Some draw → may_take_up plan h (pass_of job q) draw ≡ false

-- the choice of such a pass is the issue of its next draw
pub next_draw : (plan : Plan) (h : List Event) (worker : ℕ) (job : SubJob) (q n : ℕ) → issued_count h (pass_of job q) ≡ n → CanGoOn plan h job q → choice_of_pass plan h worker (pass_of job q) ≡ issue_of plan h worker (pass_of job q) (slice_get (draws_of_job job q) n)
next_draw plan h worker job q n count can = by_draw (slice_get (draws_of_job job q) n) refl
  where
    other_number : (k : ℕ) (draw : Draw) → slice_get (draws_of_job job q) k ≡ Some draw → (k ≡ n → ⊥) → step_of plan h worker (pass_of job q) draw ≡ None
    other_number k draw at differs =
        let number = number_of_draw job q k draw at in
        no_step_of plan h worker (pass_of job q) draw (can.untaken k draw at)
        (false_from_ne_true (may_issue plan h (pass_of job q) draw) (λ may.
        let next : draw.number ≡ issued_count h (pass_of job q) = eqb-true draw.number (issued_count h (pass_of job q)) (can_issue plan h (pass_of job q) draw may).next in
        differs (omega (arith, number, next, count))))

    this_one : (draw : Draw) → slice_get (draws_of_job job q) n ≡ Some draw → step_of plan h worker (pass_of job q) draw ≡ issue_of plan h worker (pass_of job q) (Some draw)
    this_one draw at =
        let pass = pass_of job q in
        let issue = Issue worker (issued_as job draw.dir) (write_id pass draw) draw.piece in
        let clear = is_clear plan h pass.job (is_write_draw draw) draw.piece in
        let opened = phase_is_open plan h job in
        let number = number_of_draw job q n draw at in
        let same : may_issue plan h pass draw ≡ (clear && opened) =
        same_truth (may_issue plan h pass draw) (clear && opened)
        (λ may. let parts = can_issue plan h pass draw may in and_from clear opened parts.clear parts.opened)
        (λ both.
        let parts = and_parts clear opened both in
        issue_may plan h pass draw (record {
          next = eq-eqb draw.number (issued_count h pass) (omega (arith, number, count));
          going = not_from_false (is_halted h job) can.going;
          room = can.room;
          clear = parts.0;
          current = can.current;
          free = not_from_false (waits_for_round h pass) can.free;
          opened = parts.1;
        })) in
        cond-false (may_take_up plan h pass draw) (Some (check_or_skip h worker pass draw)) (cond (may_issue plan h pass draw) (Some issue) None) (can.untaken n draw at)
        ∙ ap (λ (b : Bool). cond b (Some issue) None) same

    by_draw : (o : Option Draw) → slice_get (draws_of_job job q) n ≡ o → choice_of_pass plan h worker (pass_of job q) ≡ issue_of plan h worker (pass_of job q) o
    by_draw None past =
        no_choice_of plan h worker job q (λ k draw at. other_number k draw at (λ same. nothing_there k draw same at))
      where
        nothing_there : (k : ℕ) (draw : Draw) → k ≡ n → slice_get (draws_of_job job q) k ≡ Some draw → ⊥
        nothing_there k draw same at =
            let found : Some draw ≡ None = sym at ∙ ap (slice_get (draws_of_job job q)) same ∙ past in
            cc
    by_draw (Some draw) at =
        only_at (step_of plan h worker (pass_of job q)) (draws_of_job job q) n draw at
        (λ k other differs there. other_number k other there differs)
        ∙ this_one draw at
