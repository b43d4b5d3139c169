-- The laws of how much a run can start, and of what a take can append.
use Rattle.std.proofs.Common.{◌≡◌, ℕ, zero, suc, ◌+◌, ◌*◌, ◌<◌, ◌≤◌, List, [], ◌∷◌, ◌++◌, length, Bool, true, false, refl, sym, ◌∙◌, ap, subst, arith, inl, inr, append_assoc, append-nil}
use Rattle.std.specs.Prelude.{Option, Some, None}
use Rattle.std.specs.Bool.{MatchBool}
use Rattle.std.proofs.lemmas.Bool.{and_parts, cond_both, cases_Bool}
use Rattle.std.proofs.lemmas.List.Sums.{count_by-le-length}
use Rattle.std.proofs.lemmas.Option.{same_Some}
use Rattle.jr_model.specs.declared.events.Event.{Event}
use Rattle.jr_model.specs.declared.events.Event.TheVariants.{Issue, Probe, Skip, End, Verdict}
use Rattle.jr_model.specs.declared.events.Outcome.{Outcome}
use Rattle.jr_model.specs.Choice.{choice}
use Rattle.jr_model.specs.Draws.{draws_of_job}
use Rattle.jr_model.specs.History.{started, started_by}
use Rattle.jr_model.specs.Legal.{is_legal, legal_after, may_happen}
use Rattle.jr_model.specs.Machine.{Appends, choices_after, is_skip, taken, work_of}
use Rattle.jr_model.specs.Plan.{Plan, SubJob, IsNumbered, clone_of}
use Rattle.jr_model.specs.Rounds.{pass_of}
use Rattle.jr_model.specs.Serial.{carried_out, goes_on, serial_after, serial_history, followed_by, memory_after}
use Rattle.jr_model.specs.Words.{pass_words}
use Rattle.jr_model.proofs.LegalLaws.{is_legal-more, choice_may_happen, choice_is_step, cases_step_of}
use Rattle.jr_model.proofs.SerialLaws.{IsRested, well_choice}
use Rattle.jr_model.specs.PlanFacts.{IsPlanned}
use Rattle.jr_model.proofs.PlanLemmas.{numbered_of}
use Rattle.jr_model.proofs.HistoryLemmas.{started_count-more}
use Rattle.jr_laws_draws.proofs.TheLaw.{pass_law, drawable_of}
use Rattle.jr_laws_steps.proofs.CountLemmas.{sum_of_plan_within}
use Rattle.jr_laws_steps.proofs.CountSteps.{IssuedWithin, issued_within-more, unissued, is_untaken, untaken, all_unissued, all_untaken, all_unissued_most, all_untaken_most, issue_falls, probe_falls, skip_falls}

-- what an event that may happen keeps, a legal history has
pub along_legal : (plan : Plan) (P : List Event → Type 0) → ((history : List Event) (e : Event) → P history → may_happen plan history e ≡ true → P (history ++ e ∷ [])) → (before events : List Event) → P before → legal_after plan before events ≡ true → P (before ++ events)
along_legal plan P more before [] start legal = subst P (sym (append-nil before)) start
along_legal plan P more before (e ∷ events) start legal =
    let parts = and_parts (may_happen plan before e) (legal_after plan (before ++ e ∷ []) events) legal in
    subst P (append_assoc before (e ∷ []) events)
    (along_legal plan P more (before ++ e ∷ []) events (more before e start parts.0) parts.1)

none_issued : (plan : Plan) → IssuedWithin plan []
none_issued plan c p job at some = absurd (omega (arith, some))

-- each pass of which a legal history issued a draw is one of its clone's
pub issued_within : (plan : Plan) (history : List Event) → IsNumbered plan → is_legal plan history ≡ true → IssuedWithin plan history
issued_within plan history numbered legal =
    along_legal plan (IssuedWithin plan)
    (λ (before : List Event) (e : Event) (within : IssuedWithin plan before) (may : may_happen plan before e ≡ true). issued_within-more plan before e numbered within may)
    [] history (none_issued plan) legal

-- what is left of a plan: the draws that were not issued, and those that were neither checked nor skipped

abbrev pub left : Plan → List Event → ℕ
left plan history = all_unissued plan history + all_untaken plan history

-- a pass has at most a draw a cell
pub draws_within : (plan : Plan) (c p : ℕ) (job : SubJob) → IsPlanned plan → clone_of plan c ≡ Some job → length (draws_of_job job p) ≤ job.cells
draws_within plan c p job planned at =
    (pass_law job (drawable_of job (planned.drafted.limited c job at))).count (pass_words job p (4 * job.cells))

-- at first no more than the work is left, of either
pub untaken_first : (plan : Plan) → IsPlanned plan → all_untaken plan [] ≤ work_of plan
untaken_first plan planned =
    sum_of_plan_within (untaken []) plan
    (λ (c : ℕ) (job : SubJob) (p : ℕ) (at : clone_of plan c ≡ Some job). omega (arith, draws_within plan c p job planned at, count_by-le-length (is_untaken [] (pass_of job p)) (draws_of_job job p)))

pub unissued_first : (plan : Plan) → IsPlanned plan → all_unissued plan [] ≤ work_of plan
unissued_first plan planned =
    sum_of_plan_within (unissued []) plan
    (λ (c : ℕ) (job : SubJob) (p : ℕ) (at : clone_of plan c ≡ Some job). omega (arith, draws_within plan c p job planned at))

-- what is started next is no longer left
pub started_and_left : (plan : Plan) (history : List Event) (e : Event) → IssuedWithin plan history → may_happen plan history e ≡ true → length (started (history ++ e ∷ [])) + left plan (history ++ e ∷ []) ≤ length (started history) + left plan history
started_and_left plan history (Issue worker dir write piece) within may =
    let e = Issue worker dir write piece in
    omega (arith, started_count-more history e, issue_falls plan history worker dir write piece may, all_untaken_most plan history (e ∷ []))
started_and_left plan history (Probe worker write piece) within may =
    let e = Probe worker write piece in
    omega (arith, started_count-more history e, probe_falls plan history worker write piece within may, all_unissued_most plan history (e ∷ []))
started_and_left plan history (Skip worker write) within may =
    let e = Skip worker write in
    omega (arith, started_count-more history e, all_untaken_most plan history (e ∷ []), all_unissued_most plan history (e ∷ []))
started_and_left plan history (End worker io outcome) within may =
    let e = End worker io outcome in
    omega (arith, started_count-more history e, all_untaken_most plan history (e ∷ []), all_unissued_most plan history (e ∷ []))
started_and_left plan history (Verdict worker io verdict) within may =
    let e = Verdict worker io verdict in
    omega (arith, started_count-more history e, all_untaken_most plan history (e ∷ []), all_unissued_most plan history (e ∷ []))

-- what was started and what is left are no more than two for each draw
record IsFew (plan : Plan) (history : List Event) : Type 0 where
  pub within : IssuedWithin plan history
  pub few : length (started history) + left plan history ≤ 2 * work_of plan

-- a legal history starts at most two I/Os for each draw
pub started_few : (plan : Plan) (history : List Event) → IsPlanned plan → is_legal plan history ≡ true → length (started history) ≤ 2 * work_of plan
started_few plan history planned legal =
    let start : IsFew plan [] = record {
      within = none_issued plan;
      few = omega (arith, untaken_first plan planned, unissued_first plan planned);
    } in
    let all = along_legal plan (IsFew plan) more [] history start legal in
    omega (arith, all.few)
  where
    more : (before : List Event) (e : Event) → IsFew plan before → may_happen plan before e ≡ true → IsFew plan (before ++ e ∷ [])
    more before e few may = record {
      within = issued_within-more plan before e (numbered_of plan planned) few.within may;
      few = omega (arith, few.few, started_and_left plan before e few.within may);
    }

none_or_some : (o : Option Event) (e : Event) → o ≡ None → o ≡ Some e → ⊥
none_or_some o e none some = cc

-- a take appends one list of events alone
pub appends_same : (plan : Plan) (worker : ℕ) (history one other : List Event) → Appends plan worker history one → Appends plan worker history other → one ≡ other
appends_same plan worker history [] [] a b = refl
appends_same plan worker history [] (f ∷ other) a b = absurd (none_or_some (choice plan history worker) f a b.0)
appends_same plan worker history (e ∷ one) [] a b = absurd (none_or_some (choice plan history worker) e b a.0)
appends_same plan worker history (e ∷ one) (f ∷ other) a b =
    let same : f ≡ e = same_Some f e (sym b.0 ∙ a.0) in
    let then : MatchBool (is_skip e) (Appends plan worker (history ++ e ∷ []) other) (other ≡ []) =
    subst (λ (x : Event). MatchBool (is_skip x) (Appends plan worker (history ++ x ∷ []) other) (other ≡ [])) same b.1 in
    let rest : one ≡ other =
    both (is_skip e) (Appends plan worker (history ++ e ∷ []) one) (Appends plan worker (history ++ e ∷ []) other)
    (λ x y. appends_same plan worker (history ++ e ∷ []) one other x y) a.1 then in
    ap (λ xs. e ∷ xs) rest ∙ ap (λ x. x ∷ other) (sym same)
  where
    both : (t : Bool) (A B : Type 0) → (A → B → one ≡ other) → MatchBool t A (one ≡ []) → MatchBool t B (other ≡ []) → one ≡ other
    both true A B f x y = f x y
    both false A B f x y = x ∙ sym y

-- a skip leaves fewer writes to be skipped
skip_leaves : (plan : Plan) (history : List Event) (e : Event) → IssuedWithin plan history → may_happen plan history e ≡ true → is_skip e ≡ true → all_untaken plan (history ++ e ∷ []) < all_untaken plan history
skip_leaves plan history (Skip worker write) within may skips = skip_falls plan history worker write within may
skip_leaves plan history (Issue worker dir write piece) within may skips = cc
skip_leaves plan history (Probe worker write piece) within may skips = cc
skip_leaves plan history (End worker io outcome) within may skips = cc
skip_leaves plan history (Verdict worker io verdict) within may skips = cc

-- so what is taken is all that there is to take, where no more writes than the limit are left to be skipped
pub choices_append : (limit : ℕ) (plan : Plan) (worker : ℕ) (history : List Event) (o : Option Event) → IsNumbered plan → is_legal plan history ≡ true → all_untaken plan history ≤ limit → choice plan history worker ≡ o → Appends plan worker history (choices_after limit plan worker history o)
choices_append limit plan worker history None numbered legal few chosen = chosen
choices_append zero plan worker history (Some e) numbered legal few chosen =
    let Then : Bool → Type 0 = λ (b : Bool). MatchBool b (Appends plan worker (history ++ e ∷ []) []) (◌≡◌ {A = List Event} [] []) in
    let may = choice_may_happen plan history worker e numbered chosen in
    let within = issued_within plan history numbered legal in
    let last : Then (is_skip e) = elim (cases_Bool (is_skip e)) [
      | inl skips ↦ absurd (omega (arith, few, skip_leaves plan history e within may skips))
      | inr other ↦ subst Then (sym other) refl
    ] in (chosen, last)
choices_append (suc limit) plan worker history (Some e) numbered legal few chosen =
    let may = choice_may_happen plan history worker e numbered chosen in
    let within = issued_within plan history numbered legal in
    let next = history ++ e ∷ [] in
    let rest = choices_after limit plan worker next (choice plan next worker) in
    cond_both (is_skip e) (e ∷ rest) (e ∷ []) (λ (events : List Event). Appends plan worker history events)
    (λ (skips : is_skip e ≡ true).
    let fewer : all_untaken plan next ≤ limit = omega (arith, few, skip_leaves plan history e within may skips) in
    let more = choices_append limit plan worker next (choice plan next worker) numbered (is_legal-more plan history e legal may) fewer refl in
    (chosen, subst (λ (b : Bool). MatchBool b (Appends plan worker next rest) (rest ≡ [])) (sym skips) more))
    (λ (other : is_skip e ≡ false).
    (chosen, subst (λ (b : Bool). MatchBool b (Appends plan worker next []) (◌≡◌ {A = List Event} [] [])) (sym other) refl))

pub taken_all : (plan : Plan) (worker : ℕ) (history : List Event) → IsPlanned plan → is_legal plan history ≡ true → Appends plan worker history (taken plan worker history)
taken_all plan worker history planned legal =
    choices_append (work_of plan) plan worker history (choice plan history worker) (numbered_of plan planned) legal
    (omega (arith, untaken_first plan planned, all_untaken_most plan [] history)) refl

-- one worker over a right memory

left_most : (plan : Plan) (history more : List Event) → left plan (history ++ more) ≤ left plan history
left_most plan history more =
    omega (arith, all_unissued_most plan history more, all_untaken_most plan history more)

-- an issue, a check or a skip
is_step : Event → Bool
is_step (Issue worker dir write piece) = true
is_step (Probe worker write piece) = true
is_step (Skip worker write) = true
is_step (End worker io outcome) = false
is_step (Verdict worker io verdict) = false

choice_steps : (plan : Plan) (history : List Event) (worker : ℕ) (e : Event) → IsNumbered plan → choice plan history worker ≡ Some e → is_step e ≡ true
unfolding is_step
choice_steps plan history worker e numbered chosen =
    let step = choice_is_step plan history worker e numbered chosen in
    elim (cases_step_of plan history worker (pass_of step.0 step.1) step.2 e step.3) [
      | inl probe ↦ ap is_step probe
      | inr other ↦ elim other [ inl skip ↦ ap is_step skip | inr issue ↦ ap is_step issue ]
    ]

-- it leaves less
step_leaves : (plan : Plan) (history : List Event) (e : Event) → IssuedWithin plan history → may_happen plan history e ≡ true → is_step e ≡ true → left plan (history ++ e ∷ []) < left plan history
unfolding is_step
step_leaves plan history (Issue worker dir write piece) within may steps =
    let e = Issue worker dir write piece in
    omega (arith, issue_falls plan history worker dir write piece may, all_untaken_most plan history (e ∷ []))
step_leaves plan history (Probe worker write piece) within may steps =
    let e = Probe worker write piece in
    omega (arith, probe_falls plan history worker write piece within may, all_unissued_most plan history (e ∷ []))
step_leaves plan history (Skip worker write) within may steps =
    let e = Skip worker write in
    omega (arith, skip_falls plan history worker write within may, all_unissued_most plan history (e ∷ []))
step_leaves plan history (End worker io outcome) within may steps = cc
step_leaves plan history (Verdict worker io verdict) within may steps = cc

choice_leaves : (plan : Plan) (history : List Event) (worker : ℕ) (e : Event) → IsNumbered plan → is_legal plan history ≡ true → choice plan history worker ≡ Some e → left plan (history ++ e ∷ []) < left plan history
choice_leaves plan history worker e numbered legal chosen =
    step_leaves plan history e (issued_within plan history numbered legal)
    (choice_may_happen plan history worker e numbered chosen) (choice_steps plan history worker e numbered chosen)

-- and no more is left once it is carried out
carried_leaves : (plan : Plan) (history : List Event) (e : Event) → left plan (history ++ carried_out plan history e) ≤ left plan (history ++ e ∷ [])
carried_leaves plan history e =
    let more = followed_by plan (memory_after plan history) (length (started history)) (started_by e) in
    subst (λ (all : List Event). left plan all ≤ left plan (history ++ e ∷ [])) (append_assoc history (e ∷ []) more)
    (left_most plan (history ++ e ∷ []) more)

serial_goes_on : (limit : ℕ) (plan : Plan) (rest : List Event → List Event) (history : List Event) (o : Option Event) → ((longer : List Event) → IsRested plan longer → left plan longer ≤ limit → choice plan (rest longer) 0 ≡ None) → IsNumbered plan → IsRested plan history → left plan history ≤ suc limit → choice plan history 0 ≡ o → choice plan (goes_on plan rest history o) 0 ≡ None
serial_goes_on limit plan rest history None ends numbered well few chosen = chosen
serial_goes_on limit plan rest history (Some e) ends numbered well few chosen =
    ends (history ++ carried_out plan history e) (well_choice plan history e numbered well chosen)
    (omega (arith, few, carried_leaves plan history e, choice_leaves plan history 0 e numbered well.well.legal chosen))

serial_stops : (limit : ℕ) (plan : Plan) (history : List Event) → IsNumbered plan → IsRested plan history → left plan history ≤ limit → choice plan (serial_after limit plan history) 0 ≡ None
serial_stops zero plan history numbered well few = nothing (choice plan history 0) refl
  where
    nothing : (o : Option Event) → choice plan history 0 ≡ o → o ≡ None
    nothing None chosen = refl
    nothing (Some e) chosen = absurd (omega (arith, few, choice_leaves plan history 0 e numbered well.well.legal chosen))
serial_stops (suc limit) plan history numbered well few =
    serial_goes_on limit plan (serial_after limit plan) history (choice plan history 0)
    (λ (longer : List Event) (still : IsRested plan longer) (fewer : left plan longer ≤ limit). serial_stops limit plan longer numbered still fewer)
    numbered well few refl

-- one worker goes on until nothing may be started
pub serial_stops_all : (plan : Plan) → IsPlanned plan → choice plan (serial_history plan) 0 ≡ None
serial_stops_all plan planned =
    serial_stops (2 * work_of plan) plan [] (numbered_of plan planned)
    (record {
      well = record { legal = refl; ends = λ io o h. none_some io o h; judged = λ io h. none_true io h };
      rested = λ io below. absurd (omega (arith, below));
      unraced = λ io. refl;
    })
    (omega (arith, untaken_first plan planned, unissued_first plan planned))
  where
    none_some : (io : ℕ) (o : Outcome) → None ≡ Some o → io < 0
    none_some io o h = cc

    none_true : (io : ℕ) → false ≡ true → io < 0
    none_true io h = cc
