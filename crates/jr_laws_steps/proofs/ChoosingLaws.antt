-- What may be started has a step in its clone's pass, so it isn't passed over by a choice.
use Rattle.std.proofs.Common.{◌≡◌, ℕ, zero, suc, ◌<◌, List, [], ◌∷◌, true, false, ◌&&◌, ◌||◌, refl, sym, ◌∙◌, ap, subst, arith, inl, inr, zero-add}
use Rattle.std.specs.Prelude.{Option, Some, None, slice_get, nat_lt, ◌==◌}
use Rattle.std.specs.List.{range_with_len}
use Rattle.std.specs.Option.{option_or}
use Rattle.std.proofs.lemmas.Bool.{and_parts, or_cases, ltb-true, eqb-true, false_from_ne_true}
use Rattle.std.proofs.lemmas.Option.{same_Some}
use Rattle.jr_model.specs.declared.blocks.Piece.{Piece}
use Rattle.jr_model.specs.declared.events.Event.{Event}
use Rattle.jr_model.specs.declared.events.Event.TheVariants.{Issue, Probe, Skip, End, Verdict}
use Rattle.jr_model.specs.declared.events.IssueKind.{IssueKind}
use Rattle.jr_model.specs.declared.events.WriteId.{WriteId}
use Rattle.jr_model.specs.declared.workloads.Draw.{Draw}
use Rattle.jr_model.specs.Choice.{choice, choice_of_clone, choice_of_pass}
use Rattle.jr_model.specs.Draws.{draws_of_job}
use Rattle.jr_model.specs.History.{first_given}
use Rattle.jr_model.specs.Legal.{may_happen, may_take_up, may_issue, check_or_skip, step_of, is_legal}
use Rattle.jr_model.specs.Plan.{Plan, SubJob, issued_as}
use Rattle.jr_model.specs.Rounds.{Pass, pass_of, passes_of, write_id}
use Rattle.jr_model.proofs.LegalLaws.{cases_step_of}
use Rattle.jr_model.specs.PlanFacts.{IsPlanned}
use Rattle.jr_laws_steps.specs.Choosing.{named_by, stands_before}
use Rattle.jr_laws_steps.proofs.DrawnLaws.{issuable, current_pass, taken_up_within}
use Rattle.jr_laws_steps.proofs.IssueLaws.{numbered_draws}
use Rattle.jr_model.proofs.PlaceLemmas.{none_given, got_made, got_ranged}
use Rattle.jr_model.proofs.PlanLemmas.{numbered_of, pass_at}
use Rattle.jr_model.proofs.OptionLemmas.{neither_chosen}
use Rattle.jr_laws_steps.proofs.StepLaws.{MayIssue, MayTakeUp, may_issue_of, may_probe_of, may_skip_of}

-- draw k of pass p of clone c has a step, whoever the worker is
record HasStep (plan : Plan) (history : List Event) (c p k : ℕ) : Type 0 where
  job : SubJob
  draw : Draw
  planned : slice_get plan.clones c ≡ Some job
  within : p < job.passes
  drawn : slice_get (draws_of_job job p) k ≡ Some draw
  some : (worker : ℕ) → step_of plan history worker (pass_of job p) draw ≡ None → ⊥

issue_has_step : (plan : Plan) (history : List Event) (write : WriteId) (dir : IssueKind) (piece : Piece) → MayIssue plan history dir write piece → HasStep plan history write.clone write.pass write.number
issue_has_step plan history write dir piece m =
    let pass = pass_of m.job write.pass in
    record {
      job = m.job;
      draw = m.draw;
      planned = m.named.planned;
      within = current_pass history pass (issuable plan history pass m.draw m.may).current;
      drawn = m.named.drawn;
      some = λ w none.
          let neither = neither_chosen (may_take_up plan history pass m.draw) (may_issue plan history pass m.draw) (check_or_skip history w pass m.draw) (Issue w (issued_as pass.job m.draw.dir) (write_id pass m.draw) m.draw.piece) none in
          let e : true ≡ false = sym m.may ∙ neither.1 in
          cc;
    }

take_up_has_step : (plan : Plan) (history : List Event) (write : WriteId) → is_legal plan history ≡ true → MayTakeUp plan history write → HasStep plan history write.clone write.pass write.number
take_up_has_step plan history write legal m =
    let pass = pass_of m.job write.pass in
    record {
      job = m.job;
      draw = m.draw;
      planned = m.named.planned;
      within = taken_up_within plan history write m legal;
      drawn = m.named.drawn;
      some = λ w none.
          let neither = neither_chosen (may_take_up plan history pass m.draw) (may_issue plan history pass m.draw) (check_or_skip history w pass m.draw) (Issue w (issued_as pass.job m.draw.dir) (write_id pass m.draw) m.draw.piece) none in
          let e : true ≡ false = sym m.may ∙ neither.0 in
          cc;
    }

-- what may be started has a step
has_step : (plan : Plan) (history : List Event) (event : Event) (write : WriteId) → is_legal plan history ≡ true → named_by event ≡ Some write → may_happen plan history event ≡ true → HasStep plan history write.clone write.pass write.number
has_step plan history (Issue worker dir own piece) write legal named may =
    let P : WriteId → Type 0 = λ (w : WriteId). HasStep plan history w.clone w.pass w.number in
    subst P (same_Some own write named) (issue_has_step plan history own dir piece (may_issue_of plan history worker dir own piece may))
has_step plan history (Probe worker own piece) write legal named may =
    let P : WriteId → Type 0 = λ (w : WriteId). HasStep plan history w.clone w.pass w.number in
    subst P (same_Some own write named) (take_up_has_step plan history own legal (may_probe_of plan history worker own piece may).0)
has_step plan history (Skip worker own) write legal named may =
    let P : WriteId → Type 0 = λ (w : WriteId). HasStep plan history w.clone w.pass w.number in
    subst P (same_Some own write named) (take_up_has_step plan history own legal (may_skip_of plan history worker own may))
has_step plan history (End worker io outcome) write legal named may = cc
has_step plan history (Verdict worker io verdict) write legal named may = cc

-- so none of its clone, its pass or itself is passed over
module _ (plan : Plan) (history : List Event) (worker c p k : ℕ) (step : HasStep plan history c p k) where
  not_itself : step_of plan history worker (pass_of step.job p) step.draw ≡ None → ⊥
  not_itself none = step.some worker none

  not_its_pass : choice_of_pass plan history worker (pass_of step.job p) ≡ None → ⊥
  not_its_pass none =
      not_itself (none_given (step_of plan history worker (pass_of step.job p)) (draws_of_job step.job p) k step.draw none step.drawn)

  not_its_clone : choice_of_clone plan history worker step.job ≡ None → ⊥
  not_its_clone none =
      not_its_pass (none_given (choice_of_pass plan history worker) (passes_of step.job) p (pass_of step.job p) none (pass_at step.job p step.within))

  not_none : choice plan history worker ≡ None → ⊥
  not_none none = not_its_clone (none_given (choice_of_clone plan history worker) plan.clones c step.job none step.planned)

pub nothing_without : (plan : Plan) (history : List Event) (worker : ℕ) (event : Event) (write : WriteId) → IsPlanned plan → is_legal plan history ≡ true → choice plan history worker ≡ None → named_by event ≡ Some write → may_happen plan history event ≡ false
nothing_without plan history worker event write planned legal none named =
    false_from_ne_true (may_happen plan history event) (λ may.
    not_none plan history worker write.clone write.pass write.number (has_step plan history event write legal named may) none)

-- the first item of which something is given, and that nothing is given of those before it
record IsFirstGiven {X Y : Type 0} (f : X → Option Y) (xs : List X) (y : Y) : Type 0 where
  place : ℕ
  item : X
  at : slice_get xs place ≡ Some item
  gives : f item ≡ Some y
  before : (j : ℕ) (z : X) → j < place → slice_get xs j ≡ Some z → f z ≡ None

first_found : {X Y : Type 0} (f : X → Option Y) (xs : List X) (y : Y) → first_given f xs ≡ Some y → IsFirstGiven f xs y
first_found f [] y h = cc
first_found {X = X} {Y = Y} f (x ∷ xs) y h = by_first (λ g. first_found f xs y g) (f x) refl
  where
    rest_gives : (o : Option Y) → o ≡ None → option_or o (first_given f xs) ≡ Some y → first_given f xs ≡ Some y
    rest_gives None e g = g
    rest_gives (Some v) e g = cc

    this_gives : (o : Option Y) (v : Y) → o ≡ Some v → option_or o (first_given f xs) ≡ Some y → o ≡ Some y
    this_gives None v e g = cc
    this_gives (Some u) v e g = g

    earlier : (none : f x ≡ None) (rest : IsFirstGiven f xs y) (j : ℕ) (z : X) → j < suc rest.place → slice_get (x ∷ xs) j ≡ Some z → f z ≡ None
    earlier none rest zero z below at = subst (λ (w : X). f w ≡ None) (same_Some x z at) none
    earlier none rest (suc j) z below at = rest.before j z (omega (arith, below)) at

    by_first : (first_given f xs ≡ Some y → IsFirstGiven f xs y) → (o : Option Y) → f x ≡ o → IsFirstGiven f (x ∷ xs) y
    by_first more None e =
        let rest = more (rest_gives (f x) e h) in
        record { place = suc rest.place; item = rest.item; at = rest.at; gives = rest.gives; before = earlier e rest }
    by_first more (Some v) e =
        record { place = 0; item = x; at = refl; gives = this_gives (f x) v e h; before = λ j z below at. absurd (omega (arith, below)) }

-- what a step of a draw names
named_step : (plan : Plan) (history : List Event) (worker : ℕ) (pass : Pass) (draw : Draw) (chosen : Event) (first : WriteId) → step_of plan history worker pass draw ≡ Some chosen → named_by chosen ≡ Some first → first ≡ write_id pass draw
named_step plan history worker pass draw chosen first h named =
    elim (cases_step_of plan history worker pass draw chosen h) [
      | inl probe ↦ same_Some first (write_id pass draw) (sym named ∙ ap named_by probe)
      | inr other ↦
          elim other [
            | inl skip ↦ same_Some first (write_id pass draw) (sym named ∙ ap named_by skip)
            | inr issue ↦ same_Some first (write_id pass draw) (sym named ∙ ap named_by issue)
          ]
    ]

-- where a choice stands: its clone, its pass and its draw, and that nothing is given before them
record IsChosen (plan : Plan) (history : List Event) (worker : ℕ) (first : WriteId) : Type 0 where
  job : SubJob
  planned : slice_get plan.clones first.clone ≡ Some job
  clones : (c : ℕ) (other : SubJob) → c < first.clone → slice_get plan.clones c ≡ Some other → choice_of_clone plan history worker other ≡ None
  passes : (p : ℕ) → p < first.pass → p < job.passes → choice_of_pass plan history worker (pass_of job p) ≡ None
  draws : (k : ℕ) (draw : Draw) → k < first.number → slice_get (draws_of_job job first.pass) k ≡ Some draw → step_of plan history worker (pass_of job first.pass) draw ≡ None

chosen_at : (plan : Plan) (history : List Event) (worker : ℕ) (chosen : Event) (first : WriteId) → IsPlanned plan → choice plan history worker ≡ Some chosen → named_by chosen ≡ Some first → IsChosen plan history worker first
chosen_at plan history worker chosen first planned h named =
    let clone = first_found (choice_of_clone plan history worker) plan.clones chosen h in
    let job = clone.item in
    let found = first_found (choice_of_pass plan history worker) (passes_of job) chosen clone.gives in
    let made = got_made (pass_of job) (range_with_len 0 job.passes) found.place found.item found.at in
    let number : made.0 ≡ found.place = (got_ranged 0 job.passes found.place made.0 made.1).0 ∙ zero-add found.place in
    let is_pass : pass_of job found.place ≡ found.item = ap (pass_of job) (sym number) ∙ made.2 in
    let gives : choice_of_pass plan history worker (pass_of job found.place) ≡ Some chosen =
    subst (λ (q : Pass). choice_of_pass plan history worker q ≡ Some chosen) (sym is_pass) found.gives in
    let drawn = first_found (step_of plan history worker (pass_of job found.place)) (draws_of_job job found.place) chosen gives in
    let name = named_step plan history worker (pass_of job found.place) drawn.item chosen first drawn.gives named in
    let clone_is : first.clone ≡ clone.place = ap (λ (w : WriteId). w.clone) name ∙ numbered_of plan planned clone.place job clone.at in
    let pass_is : first.pass ≡ found.place = ap (λ (w : WriteId). w.pass) name in
    let number_is : first.number ≡ drawn.place = ap (λ (w : WriteId). w.number) name ∙ numbered_draws job found.place drawn.place drawn.item drawn.at ∙ zero-add drawn.place in
    let P : ℕ → Type 0 = λ n. slice_get plan.clones n ≡ Some job in
    let Q : ℕ → Type 0 = λ n. (k : ℕ) (draw : Draw) → k < drawn.place → slice_get (draws_of_job job n) k ≡ Some draw → step_of plan history worker (pass_of job n) draw ≡ None in
    record {
      job = job;
      planned = subst P (sym clone_is) clone.at;
      clones = λ c other below at. clone.before c other (omega (arith, below, clone_is)) at;
      passes = λ p below within. found.before p (pass_of job p) (omega (arith, below, pass_is)) (pass_at job p within);
      draws = λ k draw below at. subst Q (sym pass_is) drawn.before k draw (omega (arith, below, number_is)) at;
    }

-- a step before the choice contradicts it
before_clone : (plan : Plan) (history : List Event) (worker : ℕ) (first : WriteId) (c p k : ℕ) → IsChosen plan history worker first → HasStep plan history c p k → c < first.clone → ⊥
before_clone plan history worker first c p k at step below =
    not_its_clone plan history worker c p k step (at.clones c step.job below step.planned)

same_job : (plan : Plan) (history : List Event) (worker : ℕ) (first : WriteId) (p k : ℕ) (at : IsChosen plan history worker first) (step : HasStep plan history first.clone p k) → at.job ≡ step.job
same_job plan history worker first p k at step = same_Some at.job step.job (sym at.planned ∙ step.planned)

before_pass : (plan : Plan) (history : List Event) (worker : ℕ) (first : WriteId) (p k : ℕ) → IsChosen plan history worker first → HasStep plan history first.clone p k → p < first.pass → ⊥
before_pass plan history worker first p k at step below =
    let same = same_job plan history worker first p k at step in
    let within : p < at.job.passes = subst (λ (j : SubJob). p < j.passes) (sym same) step.within in
    not_its_pass plan history worker first.clone p k step
    (subst (λ (j : SubJob). choice_of_pass plan history worker (pass_of j p) ≡ None) same (at.passes p below within))

before_draw : (plan : Plan) (history : List Event) (worker : ℕ) (first : WriteId) (k : ℕ) → IsChosen plan history worker first → HasStep plan history first.clone first.pass k → k < first.number → ⊥
before_draw plan history worker first k at step below =
    let same = same_job plan history worker first first.pass k at step in
    let drawn : slice_get (draws_of_job at.job first.pass) k ≡ Some step.draw =
    subst (λ (j : SubJob). slice_get (draws_of_job j first.pass) k ≡ Some step.draw) (sym same) step.drawn in
    not_itself plan history worker first.clone first.pass k step
    (subst (λ (j : SubJob). step_of plan history worker (pass_of j first.pass) step.draw ≡ None) same (at.draws k step.draw below drawn))

none_before : (plan : Plan) (history : List Event) (worker : ℕ) (first write : WriteId) → IsChosen plan history worker first → HasStep plan history write.clone write.pass write.number → stands_before write first ≡ true → ⊥
none_before plan history worker first write at step before =
    elim (or_cases (nat_lt write.clone first.clone) _ before) [
      | inl clone ↦ before_clone plan history worker first write.clone write.pass write.number at step (ltb-true write.clone first.clone clone)
      | inr same ↦
          let parts = and_parts (write.clone == first.clone) (nat_lt write.pass first.pass || ((write.pass == first.pass) && nat_lt write.number first.number)) same in
          let here = subst (λ (n : ℕ). HasStep plan history n write.pass write.number) (eqb-true write.clone first.clone parts.0) step in
          elim (or_cases (nat_lt write.pass first.pass) _ parts.1) [
            | inl pass ↦ before_pass plan history worker first write.pass write.number at here (ltb-true write.pass first.pass pass)
            | inr last ↦
                let rest = and_parts (write.pass == first.pass) (nat_lt write.number first.number) last in
                before_draw plan history worker first write.number at
                (subst (λ (n : ℕ). HasStep plan history first.clone n write.number) (eqb-true write.pass first.pass rest.0) here)
                (ltb-true write.number first.number rest.1)
          ]
    ]

pub chosen_least : (plan : Plan) (history : List Event) (worker : ℕ) (chosen event : Event) (first write : WriteId) → IsPlanned plan → is_legal plan history ≡ true → choice plan history worker ≡ Some chosen → named_by chosen ≡ Some first → named_by event ≡ Some write → stands_before write first ≡ true → may_happen plan history event ≡ false
chosen_least plan history worker chosen event first write planned legal h is_first is_write before =
    false_from_ne_true (may_happen plan history event) (λ may.
    none_before plan history worker first write (chosen_at plan history worker chosen first planned h is_first)
    (has_step plan history event write legal is_write may) before)
