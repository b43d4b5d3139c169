-- How the pass that a clone is in goes on: by one event more, and into the next pass.
use Rattle.std.proofs.Common.{◌≡◌, ℕ, suc, ◌<◌, List, [], ◌∷◌, ◌++◌, take, true, false, refl, sym, ◌∙◌, subst, arith, inl, inr}
use Rattle.std.specs.Prelude.{◌⊎◌, Some, slice_get, ◌==◌}
use Rattle.std.specs.List.{list_all, range_with_len}
use Rattle.std.proofs.lemmas.Bool.{and_left, and_right, ne_eqb, cases_eq, cases_lt, cases_order, both_ways}
use Rattle.jr_model.specs.declared.blocks.Piece.{Piece}
use Rattle.jr_model.specs.declared.events.Event.{Event}
use Rattle.jr_model.specs.declared.events.Event.TheVariants.{Issue, Probe, Skip, End, Verdict}
use Rattle.jr_model.specs.declared.events.IssueKind.{IssueKind}
use Rattle.jr_model.specs.declared.events.WriteId.{WriteId}
use Rattle.jr_model.specs.Legal.{is_legal, may_happen}
use Rattle.jr_model.specs.Plan.{Plan, SubJob, clone_of}
use Rattle.jr_model.specs.Rounds.{Pass, pass_of, passes_of, issues_of, pass_finished}
use Rattle.jr_model.specs.PlanFacts.{IsPlanned}
use Rattle.jr_laws_steps.proofs.DrawnLaws.{issuable}
use Rattle.jr_model.proofs.PlaceLemmas.{all_from, got_taken, got_made, got_ranged}
use Rattle.jr_model.proofs.PlanLemmas.{pass_at}
use Rattle.jr_model.proofs.HistoryLemmas.{by_events}
use Rattle.jr_laws_quiet.proofs.Groups.{got_take}
use Rattle.jr_laws_quiet.proofs.Issues.{all_at, issued_same}
use Rattle.jr_laws_rounds.specs.Standing.{IsInPass}
use Rattle.jr_laws_rounds.proofs.StandingPasses.{current_parts, issue_in, stays_finished, unbegun}

-- where each pass of a front is finished, all of the front are
pub before_from : (h : List Event) (job : SubJob) (p : ℕ) → ((q : ℕ) → q < p → pass_finished h (pass_of job q) ≡ true) → list_all (pass_finished h) (take p (passes_of job)) ≡ true
before_from h job p each = all_from (pass_finished h) (take p (passes_of job)) one
  where
    one : (k : ℕ) (pass : Pass) → slice_get (take p (passes_of job)) k ≡ Some pass → pass_finished h pass ≡ true
    one k pass at =
        let taken = got_taken p (passes_of job) k pass at in
        let made = got_made (pass_of job) (range_with_len 0 job.passes) k pass taken.1 in
        let ranged = got_ranged 0 job.passes k made.0 made.1 in
        subst (λ (x : Pass). pass_finished h x ≡ true) made.2 (each made.0 (omega (arith, ranged.0, taken.0)))

-- and the other way round
pub before_at : (h : List Event) (job : SubJob) (p q : ℕ) → list_all (pass_finished h) (take p (passes_of job)) ≡ true → q < p → q < job.passes → pass_finished h (pass_of job q) ≡ true
before_at h job p q before below within =
    all_at (pass_finished h) (take p (passes_of job)) q (pass_of job q) before (got_take p (passes_of job) q below ∙ pass_at job q within)

-- those before the pass that a clone is in are finished
pub finished_before : (h : List Event) (job : SubJob) (p q : ℕ) → IsInPass h job p → q < p → pass_finished h (pass_of job q) ≡ true
finished_before h job p q in_pass below = before_at h job p q in_pass.before below (omega (arith, below, in_pass.within))

-- an issue of another clone, or of another pass, is none of the pass
pub other_clone : (job : SubJob) (q worker : ℕ) (kind : IssueKind) (write : WriteId) (piece : Piece) → (write.clone ≡ job.clone → ⊥) → issues_of (pass_of job q) (Issue worker kind write piece) ≡ false
other_clone job q worker kind write piece apart = and_left (write.clone == job.clone) (write.pass == q) (ne_eqb write.clone job.clone apart)

pub other_pass : (job : SubJob) (q worker : ℕ) (kind : IssueKind) (write : WriteId) (piece : Piece) → (write.pass ≡ q → ⊥) → issues_of (pass_of job q) (Issue worker kind write piece) ≡ false
other_pass job q worker kind write piece apart = and_right (write.clone == job.clone) (write.pass == q) (ne_eqb write.pass q apart)

module _ (plan : Plan) (planned : IsPlanned plan) (job : SubJob) (there : clone_of plan job.clone ≡ Some job) where
  -- at the start a clone is in its first pass
  pub starts_in_pass : IsInPass [] job 0
  starts_in_pass =
      let least = (planned.drafted.limited job.clone job there).passes_least in
      record { within = omega (arith, least); before = refl; after = λ later above. refl }

  -- an event that issues nothing of a later pass leaves the clone in its pass
  pub keeps_pass : (h : List Event) (e : Event) (p : ℕ) → is_legal plan h ≡ true → may_happen plan h e ≡ true → IsInPass h job p → ((q : ℕ) → p < q → issues_of (pass_of job q) e ≡ false) → IsInPass (h ++ e ∷ []) job p
  keeps_pass h e p legal may in_pass none = record {
    within = in_pass.within;
    before = before_from (h ++ e ∷ []) job p (λ q below. stays_finished plan planned job there h e q legal may (finished_before h job p q in_pass below));
    after = λ later above. issued_same h e (pass_of job later) (none later above) ∙ in_pass.after later above;
  }

  -- so does one that issues nothing of the clone
  pub other_keeps_pass : (h : List Event) (e : Event) (p : ℕ) → is_legal plan h ≡ true → may_happen plan h e ≡ true → IsInPass h job p → ((q : ℕ) → issues_of (pass_of job q) e ≡ false) → IsInPass (h ++ e ∷ []) job p
  other_keeps_pass h e p legal may in_pass none = keeps_pass h e p legal may in_pass (λ q above. none q)

  -- so does an issue of another clone
  pub foreign_keeps_pass : (h : List Event) (worker : ℕ) (kind : IssueKind) (write : WriteId) (piece : Piece) (p : ℕ) → is_legal plan h ≡ true → may_happen plan h (Issue worker kind write piece) ≡ true → IsInPass h job p → (write.clone ≡ job.clone → ⊥) → IsInPass (h ++ Issue worker kind write piece ∷ []) job p
  foreign_keeps_pass h worker kind write piece p legal may in_pass apart =
      keeps_pass h (Issue worker kind write piece) p legal may in_pass (λ q above. other_clone job q worker kind write piece apart)

  -- and so does an issue of the pass
  pub issue_keeps_pass : (h : List Event) (worker : ℕ) (kind : IssueKind) (write : WriteId) (piece : Piece) (p : ℕ) → is_legal plan h ≡ true → may_happen plan h (Issue worker kind write piece) ≡ true → IsInPass h job p → write.pass ≡ p → IsInPass (h ++ Issue worker kind write piece ∷ []) job p
  issue_keeps_pass h worker kind write piece p legal may in_pass same =
      keeps_pass h (Issue worker kind write piece) p legal may in_pass
      (λ q above. other_pass job q worker kind write piece (λ later. omega (arith, above, later, same)))

  -- where the pass is finished the clone is in the next one, if there is one
  pub next_in_pass : (h : List Event) (p : ℕ) → IsInPass h job p → pass_finished h (pass_of job p) ≡ true → suc p < job.passes → IsInPass h job (suc p)
  next_in_pass h p in_pass done within = record {
    within = within;
    before = before_from h job (suc p) (λ q below. one q below (cases_eq q p));
    after = λ later above. in_pass.after later (omega (arith, above));
  }
    where
      one : (q : ℕ) → q < suc p → (q ≡ p) ⊎ (q ≡ p → ⊥) → pass_finished h (pass_of job q) ≡ true
      one q below (inl same) = subst (λ (n : ℕ). pass_finished h (pass_of job n) ≡ true) (sym same) done
      one q below (inr apart) = finished_before h job p q in_pass (lower q p below apart)
        where
          lower : (a b : ℕ) → a < suc b → (a ≡ b → ⊥) → a < b
          lower a b below apart =
              elim (cases_lt a b) [
                | inl first ↦ first
                | inr high ↦ absurd (apart (omega (arith, below, high)))
              ]

  -- an issue of the clone is of the pass that it is in, or of the next where this one is finished
  pub issue_of_pass : (h : List Event) (worker : ℕ) (kind : IssueKind) (write : WriteId) (piece : Piece) (p : ℕ) → may_happen plan h (Issue worker kind write piece) ≡ true → IsInPass h job p → write.clone ≡ job.clone → (write.pass ≡ p) ⊎ ((write.pass ≡ suc p) × (pass_finished h (pass_of job p) ≡ true) × (suc p < job.passes))
  issue_of_pass h worker kind write piece p may in_pass clone =
      let issue = issue_in plan planned job there h worker kind write piece may clone in
      let now = current_parts h (pass_of job write.pass) (issuable plan h (pass_of job write.pass) issue.draw issue.may).current in
      elim (cases_order write.pass p) [
        | inl same ↦ inl same
        | inr other ↦
            elim other [
              | inl earlier ↦ absurd (both_ways (pass_finished h (pass_of job write.pass)) now.unfinished (finished_before h job p write.pass in_pass earlier))
              | inr later ↦
                  elim (cases_lt (suc p) write.pass) [
                    | inl beyond ↦
                        absurd (both_ways (pass_finished h (pass_of job (suc p))) (unbegun plan planned job there h (suc p) (in_pass.after (suc p) (omega arith)))
                        (before_at h job write.pass (suc p) now.before beyond (omega (arith, beyond, now.within))))
                    | inr next ↦
                        let is : write.pass ≡ suc p = omega (arith, next, later) in
                        inr (is, before_at h job write.pass p now.before later (omega (arith, later, now.within)), omega (arith, is, now.within))
                  ]
            ]
      ]

  -- after each legal history the clone is in a pass
  pub always_in_pass : (h : List Event) → is_legal plan h ≡ true → (p : ℕ) × IsInPass h job p
  always_in_pass h legal =
      by_events plan (λ (front : List Event). (p : ℕ) × IsInPass front job p) (0, starts_in_pass)
      (λ front e front_legal now may. one front e front_legal may now.0 now.1)
      h legal
    where
      one : (front : List Event) (e : Event) → is_legal plan front ≡ true → may_happen plan front e ≡ true → (p : ℕ) → IsInPass front job p → (q : ℕ) × IsInPass (front ++ e ∷ []) job q
      one front (Probe worker write piece) front_legal may p now = (p, other_keeps_pass front (Probe worker write piece) p front_legal may now (λ q. refl))
      one front (Skip worker write) front_legal may p now = (p, other_keeps_pass front (Skip worker write) p front_legal may now (λ q. refl))
      one front (End worker io outcome) front_legal may p now = (p, other_keeps_pass front (End worker io outcome) p front_legal may now (λ q. refl))
      one front (Verdict worker io verdict) front_legal may p now = (p, other_keeps_pass front (Verdict worker io verdict) p front_legal may now (λ q. refl))
      one front (Issue worker kind write piece) front_legal may p now =
          elim (cases_eq write.clone job.clone) [
            | inl own ↦
                elim (issue_of_pass front worker kind write piece p may now own) [
                  | inl here ↦ (p, issue_keeps_pass front worker kind write piece p front_legal may now here)
                  | inr next ↦ (suc p, issue_keeps_pass front worker kind write piece (suc p) front_legal may (next_in_pass front p now next.1 next.2) next.0)
                ]
            | inr foreign ↦ (p, foreign_keeps_pass front worker kind write piece p front_legal may now foreign)
          ]
