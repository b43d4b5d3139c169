-- The memory of a history that goes on: only the End of a write changes it.
use Rattle.std.proofs.Common.{◌≡◌, ℕ, List, [], ◌∷◌, ◌++◌, length, Bool, true, false, cond, refl, ◌∙◌, ap, append-nil}
use Rattle.std.specs.Prelude.{Option, Some, slice_get, fold}
use Rattle.std.specs.List.{list_all}
use Rattle.std.proofs.lemmas.Bool.{and_parts, ltb-true}
use Rattle.std.proofs.lemmas.List.Sums.{fold-append}
use Rattle.jr_model.specs.declared.events.Event.{Event}
use Rattle.jr_model.specs.declared.events.Event.TheVariants.{Issue, Probe, Skip, End, Verdict}
use Rattle.jr_model.specs.declared.events.Outcome.TheVariants.{Whole}
use Rattle.jr_model.specs.declared.events.Started.{Started}
use Rattle.jr_model.specs.declared.events.Verdict.{Verdict as GivenVerdict}
use Rattle.jr_model.specs.History.{ended_whole, started}
use Rattle.jr_model.specs.Legal.{is_legal}
use Rattle.jr_model.specs.Machine.{Appends}
use Rattle.jr_model.specs.Plan.{Plan}
use Rattle.jr_model.specs.PlanFacts.{IsPlanned}
use Rattle.jr_model.specs.Replies.{FileBytes, fresh_memory}
use Rattle.jr_model.specs.Serial.{memory_after, memory_by, with_io}
use Rattle.jr_model.proofs.PlaceLemmas.{got_longer}
use Rattle.jr_model.proofs.PlanLemmas.{numbered_of}
use Rattle.jr_laws_steps.proofs.Grown.{all_known, is_known}
use Rattle.jr_laws_steps.proofs.StartedLemmas.{started-append}
use Rattle.jr_crew.proofs.Chosen.{IsStep, appends_by}

-- one event says the same of the memory where more was started, if what it names was started before
by_same : (plan : Plan) (ios more : List Started) (memory : List FileBytes) (e : Event) → is_known (length ios) e ≡ true → memory_by plan (ios ++ more) memory e ≡ memory_by plan ios memory e
by_same plan ios more memory (End worker io outcome) known =
    ap (λ (o : Option Started). cond (ended_whole (Some outcome)) (with_io plan memory o) memory) (got_longer ios more io (ltb-true io (length ios) known))
by_same plan ios more memory (Issue worker kind write piece) known = refl
by_same plan ios more memory (Probe worker write piece) known = refl
by_same plan ios more memory (Skip worker write) known = refl
by_same plan ios more memory (Verdict worker io verdict) known = refl

-- and so do all
fold_known : (plan : Plan) (ios more : List Started) (memory : List FileBytes) (events : List Event) → list_all (is_known (length ios)) events ≡ true → fold (memory_by plan (ios ++ more)) memory events ≡ fold (memory_by plan ios) memory events
fold_known plan ios more memory [] known = refl
fold_known plan ios more memory (e ∷ events) known =
    let parts = and_parts (is_known (length ios) e) (list_all (is_known (length ios)) events) known in
    fold_known plan ios more (memory_by plan (ios ++ more) memory e) events parts.1
    ∙ ap (λ (m : List FileBytes). fold (memory_by plan ios) m events) (by_same plan ios more memory e parts.0)

-- the memory once a history goes on
memory-append : (plan : Plan) (before events : List Event) → is_legal plan before ≡ true → memory_after plan (before ++ events) ≡ fold (memory_by plan (started before ++ started events)) (memory_after plan before) events
memory-append plan before events legal =
    let ios = started before ++ started events in
    let fresh = fresh_memory plan.files in
    ap (λ (all : List Started). fold (memory_by plan all) fresh (before ++ events)) (started-append before events)
    ∙ fold-append (memory_by plan ios) fresh before events
    ∙ ap (λ (m : List FileBytes). fold (memory_by plan ios) m events) (fold_known plan (started before) (started events) fresh before (all_known plan before legal))

-- what is started or skipped leaves it
step_leaves : (plan : Plan) (ios : List Started) (memory : List FileBytes) (e : Event) → IsStep 0 e → memory_by plan ios memory e ≡ memory
step_leaves plan ios memory (Issue worker kind write piece) step = refl
step_leaves plan ios memory (Probe worker write piece) step = refl
step_leaves plan ios memory (Skip worker write) step = refl
step_leaves plan ios memory (End worker io outcome) step = absurd step
step_leaves plan ios memory (Verdict worker io verdict) step = absurd step

pub memory_step : (plan : Plan) (before : List Event) (e : Event) → is_legal plan before ≡ true → IsStep 0 e → memory_after plan (before ++ e ∷ []) ≡ memory_after plan before
memory_step plan before e legal step =
    memory-append plan before (e ∷ []) legal ∙ step_leaves plan (started before ++ started (e ∷ [])) (memory_after plan before) e step

-- and so does all that a take appends
pub memory_appends : (plan : Plan) (before events : List Event) → IsPlanned plan → is_legal plan before ≡ true → Appends plan 0 before events → memory_after plan (before ++ events) ≡ memory_after plan before
memory_appends plan before events planned legal appends =
    let ios = started before ++ started events in
    memory-append plan before events legal
    ∙ appends_by plan 0 (λ (steps : List Event). fold (memory_by plan ios) (memory_after plan before) steps ≡ memory_after plan before) (numbered_of plan planned) refl
    (λ (e : Event) (steps : List Event) (step : IsStep 0 e) (rest : fold (memory_by plan ios) (memory_after plan before) steps ≡ memory_after plan before).
    ap (λ (m : List FileBytes). fold (memory_by plan ios) m steps) (step_leaves plan ios (memory_after plan before) e step) ∙ rest)
    before events appends

-- what ended whole is in it, whether there is a verdict or not
pub memory_ended : (plan : Plan) (before : List Event) (worker id by : ℕ) (io : Started) (judged : Bool) (said : GivenVerdict) → is_legal plan before ≡ true → slice_get (started before) id ≡ Some io → memory_after plan (before ++ End worker id Whole ∷ cond judged (Verdict by id said ∷ []) []) ≡ with_io plan (memory_after plan before) (Some io)
memory_ended plan before worker id by io true said legal at =
    memory-append plan before (End worker id Whole ∷ Verdict by id said ∷ []) legal
    ∙ ap (λ (ios : List Started). with_io plan (memory_after plan before) (slice_get ios id)) (append-nil (started before))
    ∙ ap (with_io plan (memory_after plan before)) at
memory_ended plan before worker id by io false said legal at =
    memory-append plan before (End worker id Whole ∷ []) legal
    ∙ ap (λ (ios : List Started). with_io plan (memory_after plan before) (slice_get ios id)) (append-nil (started before))
    ∙ ap (with_io plan (memory_after plan before)) at
