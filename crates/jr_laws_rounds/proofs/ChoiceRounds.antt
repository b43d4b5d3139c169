-- While a round is under way: the least draw of the pass that has a step is the first write of the round that may be taken up.
use Rattle.std.proofs.Common.{◌≡◌, ℕ, ◌+◌, ◌*◌, List, [], ◌∷◌, map, drop, true, false, cond, ◌&&◌, ◌||◌, not, sym, ◌∙◌, ap, subst, inl, inr}
use Rattle.std.specs.Prelude.{◌⊎◌, Option, Some, None, slice_get, filter, ◌==◌}
use Rattle.std.specs.List.{list_any, list_all}
use Rattle.std.proofs.lemmas.Bool.{and_parts, and_from, or_parts, or_from, eqb-true, cases_Bool, cases_eq, not-true, not-false, not_from_true, not_from_false, false_from_ne_true, both_ways, cond-true, cond-false}
use Rattle.std.proofs.lemmas.Option.{same_Some}
use Rattle.jr_model.specs.declared.events.Event.{Event}
use Rattle.jr_model.specs.declared.events.Event.TheVariants.{Issue}
use Rattle.jr_model.specs.declared.events.WriteId.{WriteId}
use Rattle.jr_model.specs.declared.workloads.Draw.{Draw}
use Rattle.jr_model.specs.Choice.{choice_of_pass}
use Rattle.jr_model.specs.Draws.{draws_of_job}
use Rattle.jr_model.specs.History.{first_given, same_write}
use Rattle.jr_model.specs.Legal.{is_halted, has_room, is_clear, takes_up, may_take_up, may_issue, check_or_skip, step_of}
use Rattle.jr_model.specs.Plan.{Plan, SubJob, issued_as}
use Rattle.jr_model.specs.Rounds.{pass_of, write_id, is_write_draw, writes_of, has_rounds, group_of, group_index, is_full, is_settled, is_closed, no_issue_flies, waits_for_round}
use Rattle.jr_model.proofs.LegalLaws.{same_write_refl}
use Rattle.jr_model.proofs.Equality.{eq_write}
use Rattle.jr_backlog.specs.CurrentRound.{is_left, round_up_to}
use Rattle.jr_laws_steps.proofs.DrawnLaws.{takeable}
use Rattle.jr_laws_steps.proofs.IssueLaws.{numbered_draws}
use Rattle.jr_model.proofs.PlaceLemmas.{any_found, any_at, got_filtered, got_taken, got_dropped, got_made, made_at}
use Rattle.jr_laws_quiet.proofs.Checks.{settled_taken}
use Rattle.jr_laws_quiet.proofs.Groups.{group_is, group_is_all}
use Rattle.jr_laws_quiet.proofs.Issues.{all_at}
use Rattle.jr_laws_quiet.proofs.Members.{in_own_group}
use Rattle.jr_laws_quiet.proofs.Phases.{open_parts}
use Rattle.jr_laws_rounds.specs.Standing.{take_up, take_up_write}
use Rattle.jr_laws_rounds.proofs.StandingLists.{nothing_given, given_of_made, rising_kept, gives_same}
use Rattle.jr_laws_rounds.proofs.StandingPasses.{at_number}
use Rattle.jr_laws_rounds.proofs.ChoiceSteps.{can_issue, can_take, take_may, no_step_of}
use Rattle.jr_laws_rounds.proofs.KeptLists.{group_rises}

group_write_at : (job : SubJob) (p g j : ℕ) (draw : Draw) → slice_get (group_of (pass_of job p) g) j ≡ Some draw → (m : ℕ) × (slice_get (writes_of (pass_of job p)) m ≡ Some draw)
group_write_at job p g j draw at =
    elim (cases_Bool (job.backlog == 0)) [
      | inl none ↦ (j, subst (λ (all : List Draw). slice_get all j ≡ Some draw) (group_is_all job p g none) at)
      | inr some ↦
          let b = job.backlog in
          let ws = writes_of (pass_of job p) in
          let cut = subst (λ (all : List Draw). slice_get all j ≡ Some draw) (group_is job p g some) at in
          let taken = got_taken b (drop (g * b) ws) j draw cut in
          (g * b + j, got_dropped (g * b) ws j draw taken.1)
    ]

-- it is a write of the pass, at its number
pub record IsWriteAt (job : SubJob) (p : ℕ) (draw : Draw) : Type 0 where
  pub at : slice_get (draws_of_job job p) draw.number ≡ Some draw
  pub writes : is_write_draw draw ≡ true

write_of_group : (job : SubJob) (p g j : ℕ) (draw : Draw) → slice_get (group_of (pass_of job p) g) j ≡ Some draw → IsWriteAt job p draw
write_of_group job p g j draw at =
    let write = group_write_at job p g j draw at in
    let drawn = got_filtered is_write_draw (draws_of_job job p) write.0 draw write.1 in
    record { at = at_number job p drawn.0 draw drawn.1; writes = drawn.2 }

-- the writes of a group that are left
abbrev pub left_of : List Event → SubJob → ℕ → ℕ → List Draw
left_of h job p g = filter (is_left h (pass_of job p)) (group_of (pass_of job p) g)

abbrev pub left_writes : List Event → SubJob → ℕ → ℕ → List WriteId
left_writes h job p g = map (write_id (pass_of job p)) (left_of h job p g)

-- these writes are those of the pass's full groups that aren't settled
abbrev pub AreUnsettled : List Event → SubJob → ℕ → List WriteId → Type 0
AreUnsettled h job p writes =
    (k : ℕ) (draw : Draw)
    → slice_get (draws_of_job job p) k ≡ Some draw
    → is_write_draw draw ≡ true
    → list_any (same_write (write_id (pass_of job p) draw)) writes
    ≡ (is_full h (pass_of job p) (group_index (pass_of job p) draw.number) && not (is_settled h (write_id (pass_of job p) draw)))

-- while a round of a pass is under way, nothing of the clone bars it, and no read or write of it is in flight
pub record IsChecking (h : List Event) (job : SubJob) (p : ℕ) : Type 0 where
  pub rounds : has_rounds job ≡ true
  pub going : is_halted h job ≡ false
  pub room : has_room h job ≡ true
  pub waits : waits_for_round h (pass_of job p) ≡ true
  pub quiet : no_issue_flies h job.clone ≡ true

-- what isn't left of a full group isn't taken up
not_left : (plan : Plan) (h : List Event) (job : SubJob) (p : ℕ) (draw : Draw) → (is_write_draw draw ≡ true → (is_full h (pass_of job p) (group_index (pass_of job p) draw.number) && not (is_settled h (write_id (pass_of job p) draw))) ≡ false) → may_take_up plan h (pass_of job p) draw ≡ false
not_left plan h job p draw none = false_from_ne_true (may_take_up plan h (pass_of job p) draw) no_take
  where
    no_take : may_take_up plan h (pass_of job p) draw ≡ true → ⊥
    no_take may =
        let pass = pass_of job p in
        let g = group_index pass draw.number in
        let needs = takeable plan h pass draw may in
        let full = (open_parts h pass g needs.opened).full in
        let untaken = not-true (list_any (takes_up (write_id pass draw)) h) needs.untaken in
        let unsettled : is_settled h (write_id pass draw) ≡ false =
        false_from_ne_true (is_settled h (write_id pass draw)) (λ settled. both_ways (list_any (takes_up (write_id pass draw)) h) untaken (settled_taken h (write_id pass draw) settled)) in
        both_ways (is_full h pass g && not (is_settled h (write_id pass draw))) (none needs.writes)
        (and_from (is_full h pass g) (not (is_settled h (write_id pass draw))) full (not_from_false (is_settled h (write_id pass draw)) unsettled))

module _ (plan : Plan) (h : List Event) (worker : ℕ) (job : SubJob) (p : ℕ) where
  -- while a round is under way no draw of the pass is issued
  pub waits_no_issue : waits_for_round h (pass_of job p) ≡ true → (draw : Draw) → may_issue plan h (pass_of job p) draw ≡ false
  waits_no_issue waits draw =
      false_from_ne_true (may_issue plan h (pass_of job p) draw) (λ may.
      both_ways (not (waits_for_round h (pass_of job p))) (not_from_true (waits_for_round h (pass_of job p)) waits) (can_issue plan h (pass_of job p) draw may).free)

  -- a write that is left is taken up, unless it was, or something bars it
  left_step : IsChecking h job p → (draw : Draw) → IsWriteAt job p draw → (is_full h (pass_of job p) (group_index (pass_of job p) draw.number) && not (is_settled h (write_id (pass_of job p) draw))) ≡ true → step_of plan h worker (pass_of job p) draw ≡ take_up plan h worker (pass_of job p) (Some draw)
  left_step now draw write left =
      let pass = pass_of job p in
      let event = check_or_skip h worker pass draw in
      let issue = Issue worker (issued_as job draw.dir) (write_id pass draw) draw.piece in
      let taken = list_any (takes_up (write_id pass draw)) h in
      let clear = is_clear plan h pass.job false draw.piece in
      let unissued = waits_no_issue now.waits draw in
      elim (cases_Bool (taken || not clear)) [
        | inl bars ↦
            no_step_of plan h worker pass draw (false_from_ne_true (may_take_up plan h pass draw) (λ may. barred bars may)) unissued
            ∙ sym (cond-true (taken || not clear) None (Some event) bars)
        | inr free ↦
            cond-true (may_take_up plan h pass draw) (Some event) (cond (may_issue plan h pass draw) (Some issue) None) (may_be free)
            ∙ sym (cond-false (taken || not clear) None (Some event) free)
      ]
    where
      barred : (list_any (takes_up (write_id (pass_of job p) draw)) h || not (is_clear plan h job false draw.piece)) ≡ true → may_take_up plan h (pass_of job p) draw ≡ true → ⊥
      barred bars may =
          let taken = list_any (takes_up (write_id (pass_of job p) draw)) h in
          let clear = is_clear plan h job false draw.piece in
          let can = can_take plan h (pass_of job p) draw may in
          both_ways (taken || not clear)
          (or_from taken (not clear) (not-true taken can.new) (not_from_true clear can.clear))
          bars

      may_be : (list_any (takes_up (write_id (pass_of job p) draw)) h || not (is_clear plan h job false draw.piece)) ≡ false → may_take_up plan h (pass_of job p) draw ≡ true
      may_be free =
          let pass = pass_of job p in
          let g = group_index pass draw.number in
          let taken = list_any (takes_up (write_id pass draw)) h in
          let clear = is_clear plan h pass.job false draw.piece in
          let parts = or_parts taken (not clear) free in
          let full = and_parts (is_full h pass g) (not (is_settled h (write_id pass draw))) left in
          let unsettled = not-true (is_settled h (write_id pass draw)) full.1 in
          let own = in_own_group job p draw.number draw write.at write.writes in
          let unclosed : is_closed h pass g ≡ false =
          false_from_ne_true (is_closed h pass g) (λ closed.
          both_ways (is_settled h (write_id pass draw)) unsettled
          (all_at (λ (d : Draw). is_settled h (write_id pass d)) (group_of pass g) own.0.place draw
          (and_parts (is_full h pass g) (list_all (λ (d : Draw). is_settled h (write_id pass d)) (group_of pass g)) closed).1 own.0.at)) in
          take_may plan h pass draw (record {
            writes = write.writes;
            rounds = now.rounds;
            new = not_from_false taken parts.0;
            going = not_from_false (is_halted h job) now.going;
            room = now.room;
            clear = not-false clear parts.1;
            opened = and_from (is_full h pass g && not (is_closed h pass g)) (no_issue_flies h job.clone)
                (and_from (is_full h pass g) (not (is_closed h pass g)) full.0 (not_from_false (is_closed h pass g) unclosed)) now.quiet;
          })

  -- the choice of the pass, where the writes of one of its groups are those left
  of_group : IsChecking h job p → (g : ℕ) → AreUnsettled h job p (left_writes h job p g) → choice_of_pass plan h worker (pass_of job p) ≡ first_given (take_up_write plan h worker job) (left_writes h job p g)
  of_group now g left =
      gives_same (step_of plan h worker (pass_of job p)) (λ (z : Draw). take_up plan h worker (pass_of job p) (slice_get (draws_of_job job p) z.number)) (draws_of_job job p) (left_of h job p g)
      (record {
        numbered = numbered_draws job p;
        rises = rising_kept (is_left h (pass_of job p)) 0 (group_of (pass_of job p) g) (group_rises job p g);
        among = λ j z at. (its_write j z at).at;
        same = λ j z at. same_step j z at;
        others = λ k x at. other k x at;
      })
      ∙ sym (given_of_made (take_up_write plan h worker job) (write_id (pass_of job p)) (left_of h job p g))
    where
      its_write : (j : ℕ) (z : Draw) → slice_get (left_of h job p g) j ≡ Some z → IsWriteAt job p z
      its_write j z at =
          let member = got_filtered (is_left h (pass_of job p)) (group_of (pass_of job p) g) j z at in
          write_of_group job p g member.0 z member.1

      same_step : (j : ℕ) (z : Draw) → slice_get (left_of h job p g) j ≡ Some z → step_of plan h worker (pass_of job p) z ≡ take_up plan h worker (pass_of job p) (slice_get (draws_of_job job p) z.number)
      same_step j z at =
          let id = write_id (pass_of job p) in
          let write = its_write j z at in
          let there : list_any (same_write (id z)) (left_writes h job p g) ≡ true =
          any_at (same_write (id z)) (left_writes h job p g) j (id z) (made_at id (left_of h job p g) j z at) (same_write_refl (id z)) in
          left_step now z write (sym (left z.number z write.at write.writes) ∙ there)
          ∙ ap (take_up plan h worker (pass_of job p)) (sym write.at)

      found_left : (k : ℕ) (x : Draw) → slice_get (draws_of_job job p) k ≡ Some x → list_any (same_write (write_id (pass_of job p) x)) (left_writes h job p g) ≡ true → (j : ℕ) × (slice_get (left_of h job p g) j ≡ Some x)
      found_left k x at some =
          let id = write_id (pass_of job p) in
          let found = any_found (same_write (id x)) (left_writes h job p g) some in
          let made = got_made id (left_of h job p g) found.0 found.1 found.2 in
          let names : id x ≡ id made.0 = eq_write (id x) found.1 found.3 ∙ sym made.2 in
          let number : x.number ≡ made.0.number = ap (λ (w : WriteId). w.number) names in
          let one : x ≡ made.0 = same_Some x made.0 (sym (at_number job p k x at) ∙ ap (slice_get (draws_of_job job p)) number ∙ (its_write found.0 made.0 made.1).at) in
          (found.0, made.1 ∙ ap Some (sym one))

      other : (k : ℕ) (x : Draw) → slice_get (draws_of_job job p) k ≡ Some x → (step_of plan h worker (pass_of job p) x ≡ None) ⊎ ((j : ℕ) × (slice_get (left_of h job p g) j ≡ Some x))
      other k x at =
          elim (cases_Bool (list_any (same_write (write_id (pass_of job p) x)) (left_writes h job p g))) [
            | inl some ↦ inr (found_left k x at some)
            | inr none ↦
                inl (no_step_of plan h worker (pass_of job p) x
                (not_left plan h job p x (λ writes. sym (left k x at writes) ∙ none))
                (waits_no_issue now.waits x))
          ]

  -- where none are left the pass has no choice
  of_none : IsChecking h job p → AreUnsettled h job p [] → choice_of_pass plan h worker (pass_of job p) ≡ None
  of_none now left =
      nothing_given (step_of plan h worker (pass_of job p)) (draws_of_job job p)
      (λ k x at.
      no_step_of plan h worker (pass_of job p) x
      (not_left plan h job p x (λ writes. sym (left k x at writes)))
      (waits_no_issue now.waits x))

  -- the writes left of some pass, which are all of this one
  of_pass : IsChecking h job p → (n g : ℕ) → list_all (λ (write : WriteId). (write.clone == job.clone) && (write.pass == p)) (left_writes h job n g) ≡ true → AreUnsettled h job p (left_writes h job n g) → choice_of_pass plan h worker (pass_of job p) ≡ first_given (take_up_write plan h worker job) (left_writes h job n g)
  of_pass now n g own left =
      elim (cases_eq n p) [
        | inl same ↦
            subst (λ (m : ℕ). AreUnsettled h job p (left_writes h job m g) → choice_of_pass plan h worker (pass_of job p) ≡ first_given (take_up_write plan h worker job) (left_writes h job m g))
            (sym same) (of_group now g) left
        | inr apart ↦ by_left apart (left_of h job n g) own left
      ]
    where
      by_left : (n ≡ p → ⊥) → (zs : List Draw) → list_all (λ (write : WriteId). (write.clone == job.clone) && (write.pass == p)) (map (write_id (pass_of job n)) zs) ≡ true → AreUnsettled h job p (map (write_id (pass_of job n)) zs) → choice_of_pass plan h worker (pass_of job p) ≡ first_given (take_up_write plan h worker job) (map (write_id (pass_of job n)) zs)
      by_left apart [] all none = of_none now none
      by_left apart (z ∷ zs) all none =
          let first = and_parts ((job.clone == job.clone) && (n == p)) (list_all (λ (write : WriteId). (write.clone == job.clone) && (write.pass == p)) (map (write_id (pass_of job n)) zs)) all in
          let same : n ≡ p = eqb-true n p (and_parts (job.clone == job.clone) (n == p) first.0).1 in
          absurd (apart same)

  -- so it is for the current round, whatever its last write is
  pub of_round : IsChecking h job p → (last : Option WriteId) → list_all (λ (write : WriteId). (write.clone == job.clone) && (write.pass == p)) (round_up_to job h last).to_check ≡ true → AreUnsettled h job p (round_up_to job h last).to_check → choice_of_pass plan h worker (pass_of job p) ≡ first_given (take_up_write plan h worker job) (round_up_to job h last).to_check
  of_round now None own left = of_none now left
  of_round now (Some write) own left = of_pass now write.pass (group_index (pass_of job write.pass) write.number) own left
