-- What the order of a clone's issues says of its next step in a legal history.
use Rattle.std.proofs.Common.{◌≡◌, ℕ, suc, ◌+◌, ◌<◌, List, [], ◌∷◌, ◌++◌, take, Bool, true, false, ◌&&◌, ◌||◌, not, refl, sym, ◌∙◌, ap, subst, arith, inl, inr}
use Rattle.std.specs.Prelude.{◌⊎◌, Some, slice_get, nat_le}
use Rattle.std.specs.List.{list_any, list_all, range_with_len}
use Rattle.std.proofs.lemmas.Bool.{and_parts, and_from, and_left, or_cases, or_left, or_right, cases_eq, cases_lt, not-true, false_from_ne_true, both_ways}
use Rattle.jr_model.specs.declared.events.Event.{Event}
use Rattle.jr_model.specs.declared.events.Event.TheVariants.{Issue, Probe, Skip, End, Verdict}
use Rattle.jr_model.specs.declared.workloads.Draw.{Draw}
use Rattle.jr_model.specs.Draws.{draws_of_job}
use Rattle.jr_model.specs.Legal.{is_legal, may_happen, is_at_rest, phase_is_open, takes_up}
use Rattle.jr_model.specs.Plan.{Plan, SubJob, clone_of}
use Rattle.jr_model.specs.Rounds.{Pass, pass_of, passes_of, write_id, is_write_draw, writes_of, issued_count, has_rounds, group_index, group_count, is_full, is_closed, no_issue_flies, is_open, waits_for_round, pass_finished}
use Rattle.jr_model.specs.PlanFacts.{IsPlanned}
use Rattle.jr_model.proofs.PlaceLemmas.{all_from, got_filtered}
use Rattle.jr_model.proofs.PlanLemmas.{numbered_of}
use Rattle.jr_model.proofs.HistoryLemmas.{by_events}
use Rattle.jr_model.proofs.BoolLemmas.{same_truth}
use Rattle.jr_model.proofs.LegalLaws.{number_of_draw}
use Rattle.jr_desk_totals.proofs.Resting.{rest_longer}
use Rattle.jr_laws_quiet.proofs.Checks.{settled_taken}
use Rattle.jr_laws_quiet.proofs.Groups.{got_filter}
use Rattle.jr_laws_quiet.proofs.Issues.{all_at, issued_same}
use Rattle.jr_laws_quiet.proofs.Members.{in_own_group, index_mono}
use Rattle.jr_laws_rounds.proofs.ChoiceSteps.{can_issue}
use Rattle.jr_laws_rounds.proofs.CurrentLast.{issued_by_other}
use Rattle.jr_laws_rounds.proofs.CurrentRounds.{member_settled, waited_for, waiting_group, waits_with}
use Rattle.jr_laws_rounds.proofs.CurrentPhases.{groups_turn}
use Rattle.jr_laws_rounds.proofs.StandingPasses.{issue_in, unbegun}
use Rattle.jr_laws_rounds.proofs.StandingSteps.{always_in_pass, before_at, before_from, finished_before}
use Rattle.jr_laws_rounds.proofs.StandingOver.{none_checked, none_issued, over_longer}
use Rattle.jr_replay_passes.specs.Passes.{IsLastBelow, NoneBelow}
use Rattle.jr_replay_passes.proofs.RankLemmas.{IsOwn}

-- ---- a write that wasn't taken up
-- the draw stands at its number
pub drawn_at : (pass : Pass) (k : ℕ) (draw : Draw) → IsOwn pass → slice_get pass.draws k ≡ Some draw → draw.number ≡ k
drawn_at pass k draw own at =
    number_of_draw pass.job pass.number k draw (ap (λ (q : Pass). slice_get q.draws k) (sym own) ∙ at)

-- its group isn't closed
unclosed : (h : List Event) (job : SubJob) (p : ℕ) (draw : Draw) → slice_get (draws_of_job job p) draw.number ≡ Some draw → is_write_draw draw ≡ true → list_any (takes_up (write_id (pass_of job p) draw)) h ≡ false → is_closed h (pass_of job p) (group_index (pass_of job p) draw.number) ≡ false
unclosed h job p draw drawn writes fresh =
    let pass = pass_of job p in
    let g = group_index pass draw.number in
    false_from_ne_true (is_closed h pass g) (λ closed.
    both_ways (list_any (takes_up (write_id pass draw)) h) fresh
    (settled_taken h (write_id pass draw) (member_settled h job p g draw closed (in_own_group job p draw.number draw drawn writes).0)))

open_test : (full closed quiet : Bool) → closed ≡ false → (full && quiet) ≡ (full && not closed && quiet)
open_test true true quiet is = cc
open_test true false quiet is = refl
open_test false closed quiet is = refl

-- so it is open where it is full and no issue flies
pub open_is : (h : List Event) (pass : Pass) (draw : Draw) → IsOwn pass → slice_get pass.draws draw.number ≡ Some draw → is_write_draw draw ≡ true → list_any (takes_up (write_id pass draw)) h ≡ false → (is_full h pass (group_index pass draw.number) && no_issue_flies h pass.job.clone) ≡ is_open h pass (group_index pass draw.number)
open_is h pass draw own drawn writes fresh =
    open_test (is_full h pass (group_index pass draw.number)) (is_closed h pass (group_index pass draw.number)) (no_issue_flies h pass.job.clone)
    (subst (λ (q : Pass). is_closed h q (group_index q draw.number) ≡ false) (sym own)
    (unclosed h pass.job pass.number draw
    (subst (λ (q : Pass). slice_get q.draws draw.number ≡ Some draw) own drawn)
    writes
    (subst (λ (q : Pass). list_any (takes_up (write_id q draw)) h ≡ false) own fresh)))

-- ---- a planned clone, after a legal history
module _ (plan : Plan) (planned : IsPlanned plan) (job : SubJob) (there : clone_of plan job.clone ≡ Some job) (h : List Event) (legal : is_legal plan h ≡ true) where
  -- the write that was issued last waits for its group's round, or none does
  waits_last : (p : ℕ) (last : Draw) → IsLastBelow (writes_of (pass_of job p)) (issued_count h (pass_of job p)) last → has_rounds job ≡ true → (is_full h (pass_of job p) (group_index (pass_of job p) last.number) && not (is_closed h (pass_of job p) (group_index (pass_of job p) last.number))) ≡ waits_for_round h (pass_of job p)
  waits_last p last is rounds = same_truth _ (waits_for_round h pass) from to
    where
      pass : Pass
      pass = pass_of job p

      g : ℕ
      g = group_index pass last.number

      own : (k : ℕ) × (slice_get (draws_of_job job p) k ≡ Some last) × (is_write_draw last ≡ true)
      own = got_filtered is_write_draw (draws_of_job job p) is.place last is.at

      drawn : slice_get (draws_of_job job p) last.number ≡ Some last
      drawn = ap (slice_get (draws_of_job job p)) (number_of_draw job p own.0 last own.1) ∙ own.1

      from : (is_full h pass g && not (is_closed h pass g)) ≡ true → waits_for_round h pass ≡ true
      from both =
          let parts = and_parts (is_full h pass g) (not (is_closed h pass g)) both in
          waits_with h job p g rounds (in_own_group job p last.number last drawn own.2).1 parts.0 (not-true (is_closed h pass g) parts.1)

      to : waits_for_round h pass ≡ true → (is_full h pass g && not (is_closed h pass g)) ≡ true
      to waits =
          let waiting = waiting_group h job p waits in
          let one = waited_for h job p waiting.group waiting.below waiting.full waiting.unclosed in
          let place = got_filter is_write_draw (draws_of_job job p) one.draw.number one.draw one.drawn one.writes in
          let low = index_mono job p one.draw.number last.number (is.last place.0 one.draw place.1 one.issued) in
          elim (cases_lt waiting.group g) [
            | inl before ↦
                absurd (both_ways (is_closed h pass waiting.group) waiting.unclosed
                (groups_turn plan (numbered_of plan planned) job there h legal p last.number waiting.group rounds is.below before))
            | inr behind ↦
                let same : waiting.group ≡ g = omega (arith, low, one.index, behind) in
                subst (λ (x : ℕ). (is_full h pass x && not (is_closed h pass x)) ≡ true) same
                (and_from (is_full h pass waiting.group) (not (is_closed h pass waiting.group)) waiting.full
                (ap not waiting.unclosed))
          ]

  waits_by : (p : ℕ) (last : Draw) (rounds : Bool) → IsLastBelow (writes_of (pass_of job p)) (issued_count h (pass_of job p)) last → has_rounds job ≡ rounds → (rounds && (is_full h (pass_of job p) (group_index (pass_of job p) last.number) && not (is_closed h (pass_of job p) (group_index (pass_of job p) last.number)))) ≡ waits_for_round h (pass_of job p)
  waits_by p last true is rounds = waits_last p last is rounds
  waits_by p last false is rounds =
      let pass = pass_of job p in
      sym (and_left (has_rounds job) (list_any (λ (g : ℕ). is_full h pass g && not (is_closed h pass g)) (range_with_len 0 (group_count pass))) rounds)

  -- where no write was issued none does
  waits_none : (p : ℕ) → NoneBelow (writes_of (pass_of job p)) (issued_count h (pass_of job p)) → false ≡ waits_for_round h (pass_of job p)
  waits_none p none =
      sym (false_from_ne_true (waits_for_round h (pass_of job p)) (λ waits.
      let waiting = waiting_group h job p waits in
      let one = waited_for h job p waiting.group waiting.below waiting.full waiting.unclosed in
      let place = got_filter is_write_draw (draws_of_job job p) one.draw.number one.draw one.drawn one.writes in
      let high = none place.0 one.draw place.1 in
      let low = one.issued in
      omega (arith, high, low)))

  pub waits_after : (pass : Pass) (last : Draw) → IsOwn pass → pass.job ≡ job → IsLastBelow (writes_of pass) (issued_count h pass) last → (has_rounds pass.job && (is_full h pass (group_index pass last.number) && not (is_closed h pass (group_index pass last.number)))) ≡ waits_for_round h pass
  waits_after pass last own same is =
      let whole : pass ≡ pass_of job pass.number = own ∙ ap (λ (j : SubJob). pass_of j pass.number) same in
      subst (λ (q : Pass). (has_rounds q.job && (is_full h q (group_index q last.number) && not (is_closed h q (group_index q last.number)))) ≡ waits_for_round h q) (sym whole)
      (waits_by pass.number last (has_rounds job) (subst (λ (q : Pass). IsLastBelow (writes_of q) (issued_count h q) last) whole is) refl)

  pub waits_never : (pass : Pass) → IsOwn pass → pass.job ≡ job → NoneBelow (writes_of pass) (issued_count h pass) → false ≡ waits_for_round h pass
  waits_never pass own same none =
      let whole : pass ≡ pass_of job pass.number = own ∙ ap (λ (j : SubJob). pass_of j pass.number) same in
      subst (λ (q : Pass). false ≡ waits_for_round h q) (sym whole)
      (waits_none pass.number (subst (λ (q : Pass). NoneBelow (writes_of q) (issued_count h q)) whole none))

  -- where a draw of a pass was issued, the passes before are finished
  pub begun_after : (p : ℕ) → 0 < issued_count h (pass_of job p) → list_all (pass_finished h) (take p (passes_of job)) ≡ true
  begun_after p some =
      let now = always_in_pass plan planned job there h legal in
      elim (cases_lt now.0 p) [
        | inl before ↦ absurd (let none = now.1.after p before in omega (arith, none, some))
        | inr within ↦ before_from h job p (λ (q : ℕ) (low : q < p). finished_before h job now.0 q now.1 (omega (arith, low, within)))
      ]

  pub earlier_begun : (pass : Pass) → IsOwn pass → pass.job ≡ job → 0 < issued_count h pass → true ≡ list_all (pass_finished h) (take pass.number (passes_of pass.job))
  earlier_begun pass own same some =
      let whole : pass ≡ pass_of job pass.number = own ∙ ap (λ (j : SubJob). pass_of j pass.number) same in
      sym (ap (λ (j : SubJob). list_all (pass_finished h) (take pass.number (passes_of j))) same
      ∙ begun_after pass.number (subst (λ (q : Pass). 0 < issued_count h q) whole some))

  -- the passes before one are finished where the last of them is
  pub earlier_by_last : (p : ℕ) → p < job.passes → pass_finished h (pass_of job p) ≡ list_all (pass_finished h) (take (suc p) (passes_of job))
  earlier_by_last p within =
      same_truth (pass_finished h (pass_of job p)) (list_all (pass_finished h) (take (suc p) (passes_of job)))
      (λ done. before_from h job (suc p) (λ (q : ℕ) (low : q < suc p). each done q low (cases_eq q p)))
      (λ all. before_at h job (suc p) p all (omega arith) within)
    where
      each : pass_finished h (pass_of job p) ≡ true → (q : ℕ) → q < suc p → (q ≡ p) ⊎ (q ≡ p → ⊥) → pass_finished h (pass_of job q) ≡ true
      each done q low (inl same) = subst (λ (n : ℕ). pass_finished h (pass_of job n) ≡ true) (sym same) done
      each done q low (inr apart) =
          let now = always_in_pass plan planned job there h legal in
          elim (cases_lt now.0 p) [
            | inl before ↦ absurd (both_ways (pass_finished h (pass_of job p)) (unbegun plan planned job there h p (now.1.after p before)) done)
            | inr beyond ↦ elim (cases_lt q p) [
              | inl lower ↦ finished_before h job now.0 q now.1 (omega (arith, lower, beyond))
              | inr higher ↦ absurd (apart (omega (arith, low, higher)))
            ]
          ]

-- ---- a clone at rest stays so

module _ (plan : Plan) (planned : IsPlanned plan) (job : SubJob) (there : clone_of plan job.clone ≡ Some job) where
  -- where a draw of the clone was issued the clones of earlier phases are at rest
  abbrev PhasesRest : List Event → Type 0
  PhasesRest h =
      (q i : ℕ) (other : SubJob)
      → 0 < issued_count h (pass_of job q)
      → slice_get plan.clones i ≡ Some other
      → (nat_le job.phase other.phase || is_at_rest h other) ≡ true

  longer : (h : List Event) (e : Event) → is_legal plan h ≡ true → may_happen plan h e ≡ true → (i : ℕ) (other : SubJob) → slice_get plan.clones i ≡ Some other → (nat_le job.phase other.phase || is_at_rest h other) ≡ true → (nat_le job.phase other.phase || is_at_rest (h ++ e ∷ []) other) ≡ true
  longer h e legal may i other at was =
      elim (or_cases (nat_le job.phase other.phase) (is_at_rest h other) was) [
        | inl later ↦ or_left (nat_le job.phase other.phase) (is_at_rest (h ++ e ∷ []) other) later
        | inr rests ↦
            or_right (nat_le job.phase other.phase) (is_at_rest (h ++ e ∷ []) other)
            (let own = subst (λ (n : ℕ). clone_of plan n ≡ Some other) (sym (numbered_of plan planned i other at)) at in
            rest_longer plan other h legal (none_issued plan planned other own h legal) (none_checked plan planned other own h legal) e may
            (over_longer plan planned other own h e legal may) rests)
      ]

  phases_step : (h : List Event) (e : Event) → is_legal plan h ≡ true → PhasesRest h → may_happen plan h e ≡ true → PhasesRest (h ++ e ∷ [])
  phases_step h (Issue worker kind write piece) legal was may q i other some at =
      longer h (Issue worker kind write piece) legal may i other at
      (elim (cases_eq write.clone job.clone) [
        | inl own ↦
            let issue = issue_in plan planned job there h worker kind write piece may own in
            all_at (λ (o : SubJob). nat_le job.phase o.phase || is_at_rest h o) plan.clones i other
            (can_issue plan h (pass_of job write.pass) issue.draw issue.may).opened at
        | inr foreign ↦ was q i other (omega (arith, some, issued_by_other job h worker kind write piece q foreign)) at
      ])
  phases_step h (Probe worker write piece) legal was may q i other some at =
      longer h (Probe worker write piece) legal may i other at (was q i other (omega (arith, some, issued_same h (Probe worker write piece) (pass_of job q) refl)) at)
  phases_step h (Skip worker write) legal was may q i other some at =
      longer h (Skip worker write) legal may i other at (was q i other (omega (arith, some, issued_same h (Skip worker write) (pass_of job q) refl)) at)
  phases_step h (End worker io outcome) legal was may q i other some at =
      longer h (End worker io outcome) legal may i other at (was q i other (omega (arith, some, issued_same h (End worker io outcome) (pass_of job q) refl)) at)
  phases_step h (Verdict worker io verdict) legal was may q i other some at =
      longer h (Verdict worker io verdict) legal may i other at (was q i other (omega (arith, some, issued_same h (Verdict worker io verdict) (pass_of job q) refl)) at)

  phases_rest : (h : List Event) → is_legal plan h ≡ true → PhasesRest h
  phases_rest h legal =
      by_events plan PhasesRest (λ q i other some at. absurd (omega (arith, some))) phases_step h legal

  -- so its phase stays open
  pub phase_stays_open : (h : List Event) → is_legal plan h ≡ true → 0 < issued_count h (pass_of job 0) → true ≡ phase_is_open plan h job
  phase_stays_open h legal some =
      sym (all_from (λ (other : SubJob). nat_le job.phase other.phase || is_at_rest h other) plan.clones (λ k other at. phases_rest h legal 0 k other some at))
