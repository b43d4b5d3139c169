-- A clone that is over stays so, and nothing more of it is started.
use Rattle.std.proofs.Common.{◌≡◌, ℕ, ◌<◌, List, [], ◌∷◌, ◌++◌, true, sym, ◌∙◌, subst, arith, inl, inr}
use Rattle.std.specs.Prelude.{Some, slice_get}
use Rattle.std.proofs.lemmas.Bool.{or_cases, or_left, or_right, cases_Bool, cases_lt, both_ways, not-true}
use Rattle.std.proofs.lemmas.List.FromFn.{length-map-range_with_len}
use Rattle.std.proofs.lemmas.Option.{same_Some, slice_get_within}
use Rattle.jr_model.specs.declared.blocks.Piece.{Piece}
use Rattle.jr_model.specs.declared.events.Event.{Event}
use Rattle.jr_model.specs.declared.events.Event.TheVariants.{Issue, Probe}
use Rattle.jr_model.specs.declared.events.IssueKind.{IssueKind}
use Rattle.jr_model.specs.declared.events.WriteId.{WriteId}
use Rattle.jr_model.specs.Legal.{is_legal, may_happen, may_take_up, is_halted, is_over}
use Rattle.jr_model.specs.Plan.{Plan, SubJob, clone_of}
use Rattle.jr_model.specs.PlanFacts.{IsPlanned}
use Rattle.jr_model.specs.Rounds.{Pass, pass_of, passes_of, pass_finished, clone_finished}
use Rattle.jr_model.proofs.PlaceLemmas.{all_from}
use Rattle.jr_model.proofs.PlanLemmas.{pass_at}
use Rattle.jr_laws_steps.proofs.StepLaws.{may_probe_of}
use Rattle.jr_laws_quiet.proofs.Issues.{all_at}
use Rattle.jr_laws_rounds.proofs.ChoiceSteps.{can_issue, can_take, unbegun_not_taken}
use Rattle.jr_laws_rounds.proofs.KeptSettled.{ran_before}
use Rattle.jr_laws_rounds.proofs.StandingPasses.{current_parts, done_parts, issue_in, none_taken, stays_finished, take_in}
use Rattle.jr_laws_rounds.proofs.StandingSteps.{always_in_pass}

pub over_longer : (plan : Plan) → IsPlanned plan → (other : SubJob) → clone_of plan other.clone ≡ Some other → (h : List Event) (e : Event)
    → is_legal plan h ≡ true → may_happen plan h e ≡ true → is_over h other ≡ true → is_over (h ++ e ∷ []) other ≡ true
over_longer plan planned other there h e legal may over =
    elim (or_cases (is_halted h other) (clone_finished h other) over) [
      | inl halted ↦
          elim (cases_Bool (is_halted (h ++ e ∷ []) other)) [
            | inl still ↦ or_left (is_halted (h ++ e ∷ []) other) (clone_finished (h ++ e ∷ []) other) still
            | inr runs ↦ absurd (both_ways (is_halted h other) (ran_before other h e runs) halted)
          ]
      | inr finished ↦
          or_right (is_halted (h ++ e ∷ []) other) (clone_finished (h ++ e ∷ []) other)
          (all_from (pass_finished (h ++ e ∷ [])) (passes_of other) (one finished))
    ]
  where
    one : clone_finished h other ≡ true → (k : ℕ) (pass : Pass) → slice_get (passes_of other) k ≡ Some pass
        → pass_finished (h ++ e ∷ []) pass ≡ true
    one finished k pass at =
        let within : k < other.passes =
        omega (arith, slice_get_within (passes_of other) k pass at, length-map-range_with_len (pass_of other) 0 other.passes) in
        let same : pass_of other k ≡ pass = same_Some (pass_of other k) pass (sym (pass_at other k within) ∙ at) in
        subst (λ (q : Pass). pass_finished (h ++ e ∷ []) q ≡ true) same
        (stays_finished plan planned other there h e k legal may
        (subst (λ (q : Pass). pass_finished h q ≡ true) (sym same) (all_at (pass_finished h) (passes_of other) k pass finished at)))

module _ (plan : Plan) (planned : IsPlanned plan) (other : SubJob) (there : clone_of plan other.clone ≡ Some other) (h : List Event)
    (legal : is_legal plan h ≡ true) (over : is_over h other ≡ true) where
  -- nothing more of a clone that is over is issued
  pub none_issued : (worker : ℕ) (kind : IssueKind) (write : WriteId) (piece : Piece)
      → may_happen plan h (Issue worker kind write piece) ≡ true → write.clone ≡ other.clone → ⊥
  none_issued worker kind write piece may own =
      let pass = pass_of other write.pass in
      let issue = issue_in plan planned other there h worker kind write piece may own in
      let can = can_issue plan h pass issue.draw issue.may in
      let now = current_parts h pass can.current in
      elim (or_cases (is_halted h other) (clone_finished h other) over) [
        | inl halted ↦ both_ways (is_halted h other) (not-true (is_halted h other) can.going) halted
        | inr finished ↦
            both_ways (pass_finished h pass) now.unfinished
            (all_at (pass_finished h) (passes_of other) write.pass pass finished (pass_at other write.pass now.within))
      ]

  -- nor checked
  pub none_checked : (worker : ℕ) (write : WriteId) (piece : Piece) → may_happen plan h (Probe worker write piece) ≡ true
      → write.clone ≡ other.clone → ⊥
  none_checked worker write piece may own =
      let pass = pass_of other write.pass in
      let take = take_in plan planned other there h write (may_probe_of plan h worker write piece may).0 own in
      let can = can_take plan h pass take.draw take.may in
      let now = always_in_pass plan planned other there h legal in
      elim (or_cases (is_halted h other) (clone_finished h other) over) [
        | inl halted ↦ both_ways (is_halted h other) (not-true (is_halted h other) can.going) halted
        | inr finished ↦
            both_ways (may_take_up plan h pass take.draw)
            (elim (cases_lt now.0 write.pass) [
              | inl later ↦ unbegun_not_taken plan h other write.pass write.number take.draw take.drawn (now.1.after write.pass later)
              | inr within ↦
                  none_taken plan h other write.pass write.number take.draw take.drawn
                  (done_parts h pass (all_at (pass_finished h) (passes_of other) write.pass pass finished
                  (pass_at other write.pass (omega (arith, within, now.1.within))))).closed
            ])
            take.may
      ]
