-- What one event more settles and halts, and that only writes that were issued are checked or skipped.
use Rattle.std.proofs.Common.{◌≡◌, ℕ, ◌<◌, ◌≤◌, List, [], ◌∷◌, ◌++◌, length, Bool, true, false, ◌&&◌, ◌||◌, refl, sym, ◌∙◌, ap, subst, arith, inl, inr, length-append}
use Rattle.std.specs.Prelude.{Option, Some, None, slice_get, nat_lt, is_none}
use Rattle.std.specs.List.{list_any, list_all}
use Rattle.std.proofs.lemmas.Bool.{and_parts, and_from, lt-ltb, ltb-true, or_left, or_right, or_cases, false_from_ne_true, false≢true}
use Rattle.std.proofs.lemmas.List.Folds.{list_any-append, list_all-append}
use Rattle.std.proofs.lemmas.Option.{same_Some}
use Rattle.std.proofs.Math.Bool.{or-false}
use Rattle.jr_model.specs.declared.events.Event.{Event}
use Rattle.jr_model.specs.declared.events.Event.TheVariants.{Issue, Probe, Skip, End, Verdict}
use Rattle.jr_model.specs.declared.events.Started.{Started}
use Rattle.jr_model.specs.declared.events.WriteId.{WriteId}
use Rattle.jr_model.specs.Draws.{draws_of_job}
use Rattle.jr_model.specs.History.{started, outcome_of, flies}
use Rattle.jr_model.specs.Legal.{is_legal, may_happen, end_fits, is_io_of, is_fault, is_bad, halts, is_halted, takes_up}
use Rattle.jr_model.specs.Plan.{Plan, SubJob, IsNumbered, clone_of}
use Rattle.jr_model.specs.Rounds.{pass_of, issued_count, is_probe_of, settles, is_settled, group_index}
use Rattle.jr_model.proofs.MachineLaws.{got_front}
use Rattle.jr_model.proofs.Equality.{eq_write}
use Rattle.jr_model.proofs.ListLemmas.{all_weaker}
use Rattle.jr_model.proofs.PlaceLemmas.{got_longer}
use Rattle.jr_model.proofs.HistoryLemmas.{by_events}
use Rattle.jr_laws_steps.proofs.StartedLemmas.{started-append}
use Rattle.jr_laws_steps.proofs.DrawnLaws.{takeable}
use Rattle.jr_laws_quiet.proofs.Steps.{IsTakeUp, probe_of, skip_of}
use Rattle.jr_laws_quiet.proofs.Members.{in_own_group, full_issued}
use Rattle.jr_laws_quiet.proofs.Phases.{open_parts}
use Rattle.jr_laws_quiet.proofs.Checks.{settled_taken}
use Rattle.jr_laws_rounds.proofs.CurrentPhases.{count_longer}

-- an end speaks of one of the first n that were started
abbrev ends_within : ℕ → Event → Bool
ends_within n (End worker io outcome) = nat_lt io n
ends_within n (Issue worker kind write piece) = true
ends_within n (Probe worker write piece) = true
ends_within n (Skip worker write) = true
ends_within n (Verdict worker io verdict) = true

ends_weaker : (n m : ℕ) (e : Event) → n ≤ m → ends_within n e ≡ true → ends_within m e ≡ true
ends_weaker n m (End worker io outcome) le h =
    let below : io < n = ltb-true io n h in
    lt-ltb io m (omega (arith, below, le))
ends_weaker n m (Issue worker kind write piece) le h = refl
ends_weaker n m (Probe worker write piece) le h = refl
ends_weaker n m (Skip worker write) le h = refl
ends_weaker n m (Verdict worker io verdict) le h = refl

ends_now : (plan : Plan) (h : List Event) (e : Event) → may_happen plan h e ≡ true → ends_within (length (started h)) e ≡ true
ends_now plan h (End worker io outcome) happens =
    (and_parts (nat_lt io (length (started h))) (is_none (outcome_of h io)) (and_parts (flies h io) (end_fits worker outcome (slice_get (started h) io)) happens).0).0
ends_now plan h (Issue worker kind write piece) happens = refl
ends_now plan h (Probe worker write piece) happens = refl
ends_now plan h (Skip worker write) happens = refl
ends_now plan h (Verdict worker io verdict) happens = refl

all_end_within : (plan : Plan) (history : List Event) → is_legal plan history ≡ true → list_all (ends_within (length (started history))) history ≡ true
all_end_within plan history legal =
    by_events plan (λ (h : List Event). list_all (ends_within (length (started h))) h ≡ true) refl grows history legal
  where
    grows : (h : List Event) (e : Event) → is_legal plan h ≡ true → list_all (ends_within (length (started h))) h ≡ true → may_happen plan h e ≡ true → list_all (ends_within (length (started (h ++ e ∷ [])))) (h ++ e ∷ []) ≡ true
    grows h e so_far all happens =
        let n = length (started h) in
        let m = length (started (h ++ e ∷ [])) in
        let le : n ≤ m = omega (arith, ap length (started-append h (e ∷ [])), length-append (started h) (started (e ∷ []))) in
        list_all-append (ends_within m) h (e ∷ [])
        ∙ and_from (list_all (ends_within m) h) (ends_within m e && true) (all_weaker (ends_within n) (ends_within m) h (λ x. ends_weaker n m x le) all)
        (and_from (ends_within m e) true (ends_weaker n m e le (ends_now plan h e happens)) refl)

settles_same : (w : WriteId) (ios more : List Started) (e : Event) → ends_within (length ios) e ≡ true → settles (ios ++ more) w e ≡ settles ios w e
settles_same w ios more (End worker io outcome) h = ap (is_probe_of w) (got_longer ios more io (ltb-true io (length ios) h))
settles_same w ios more (Issue worker kind write piece) h = refl
settles_same w ios more (Probe worker write piece) h = refl
settles_same w ios more (Skip worker write) h = refl
settles_same w ios more (Verdict worker io verdict) h = refl

any_same : (w : WriteId) (ios more : List Started) (events : List Event) → list_all (ends_within (length ios)) events ≡ true → list_any (settles (ios ++ more) w) events ≡ list_any (settles ios w) events
any_same w ios more [] h = refl
any_same w ios more (e ∷ events) h =
    let parts = and_parts (ends_within (length ios) e) (list_all (ends_within (length ios)) events) h in
    ap (λ (b : Bool). b || list_any (settles (ios ++ more) w) events) (settles_same w ios more e parts.0)
    ∙ ap (λ (b : Bool). settles ios w e || b) (any_same w ios more events parts.1)

-- what is settled after one event more
pub settled_after : (plan : Plan) (h : List Event) (e : Event) (w : WriteId) → is_legal plan h ≡ true → may_happen plan h e ≡ true → is_settled (h ++ e ∷ []) w ≡ (is_settled h w || settles (started h) w e)
settled_after plan h e w legal happens =
    let more = started (e ∷ []) in
    list_any-append (settles (started (h ++ e ∷ [])) w) h (e ∷ [])
    ∙ ap (λ (ios : List Started). list_any (settles ios w) h || (settles ios w e || false)) (started-append h (e ∷ []))
    ∙ ap (λ (b : Bool). b || (settles (started h ++ more) w e || false)) (any_same w (started h) more h (all_end_within plan h legal))
    ∙ ap (λ (b : Bool). is_settled h w || (b || false)) (settles_same w (started h) more e (ends_now plan h e happens))
    ∙ ap (λ (b : Bool). is_settled h w || b) (or-false (settles (started h) w e))

-- what is halted stays so
halts_longer : (job : SubJob) (ios more : List Started) (e : Event) → halts ios job e ≡ true → halts (ios ++ more) job e ≡ true
halts_longer job ios more (Issue worker kind write piece) h = h
halts_longer job ios more (Probe worker write piece) h = h
halts_longer job ios more (Skip worker write) h = h
halts_longer job ios more (End worker io outcome) h = by_io (slice_get ios io) refl h
  where
    by_io : (o : Option Started) → slice_get ios io ≡ o → (is_io_of job.clone o && is_fault outcome) ≡ true → (is_io_of job.clone (slice_get (ios ++ more) io) && is_fault outcome) ≡ true
    by_io None at g = absurd (false≢true g)
    by_io (Some x) at g = ap (λ (o : Option Started). is_io_of job.clone o && is_fault outcome) (got_front ios more io x at) ∙ g
halts_longer job ios more (Verdict worker io verdict) h = by_io (slice_get ios io) refl h
  where
    by_io : (o : Option Started) → slice_get ios io ≡ o → (is_io_of job.clone o && job.is_fatal && is_bad verdict) ≡ true → (is_io_of job.clone (slice_get (ios ++ more) io) && job.is_fatal && is_bad verdict) ≡ true
    by_io None at g = absurd (false≢true g)
    by_io (Some x) at g = ap (λ (o : Option Started). is_io_of job.clone o && job.is_fatal && is_bad verdict) (got_front ios more io x at) ∙ g

any_longer : (job : SubJob) (ios more : List Started) (events : List Event) → list_any (halts ios job) events ≡ true → list_any (halts (ios ++ more) job) events ≡ true
any_longer job ios more [] h = h
any_longer job ios more (e ∷ events) h =
    elim (or_cases (halts ios job e) (list_any (halts ios job) events) h) [
      | inl here ↦ or_left (halts (ios ++ more) job e) (list_any (halts (ios ++ more) job) events) (halts_longer job ios more e here)
      | inr later ↦ or_right (halts (ios ++ more) job e) (list_any (halts (ios ++ more) job) events) (any_longer job ios more events later)
    ]

-- so a clone that runs on ran before
pub ran_before : (job : SubJob) (h : List Event) (e : Event) → is_halted (h ++ e ∷ []) job ≡ false → is_halted h job ≡ false
ran_before job h e runs =
    false_from_ne_true (is_halted h job)
    (λ halted.
    let now : is_halted (h ++ e ∷ []) job ≡ true =
    list_any-append (halts (started (h ++ e ∷ [])) job) h (e ∷ [])
    ∙ or_left (list_any (halts (started (h ++ e ∷ [])) job) h) (list_any (halts (started (h ++ e ∷ [])) job) (e ∷ []))
    (ap (λ (ios : List Started). list_any (halts ios job) h) (started-append h (e ∷ []))
    ∙ any_longer job (started h) (started (e ∷ [])) h halted) in
    false≢true (sym runs ∙ now))

-- and its last event halts it not
pub last_runs : (job : SubJob) (h : List Event) (e : Event) → is_halted (h ++ e ∷ []) job ≡ false → halts (started h) job e ≡ true → ⊥
last_runs job h e runs halts_it =
    let now : is_halted (h ++ e ∷ []) job ≡ true =
    list_any-append (halts (started (h ++ e ∷ [])) job) h (e ∷ [])
    ∙ or_right (list_any (halts (started (h ++ e ∷ [])) job) h) (list_any (halts (started (h ++ e ∷ [])) job) (e ∷ []))
    (or_left (halts (started (h ++ e ∷ [])) job e) false
    (ap (λ (ios : List Started). halts ios job e) (started-append h (e ∷ []))
    ∙ halts_longer job (started h) (started (e ∷ [])) e halts_it)) in
    false≢true (sym runs ∙ now)

module _ (plan : Plan) (numbered : IsNumbered plan) (job : SubJob) (planned : clone_of plan job.clone ≡ Some job) where
  -- what may be checked or skipped was issued
  takes_issued : (h : List Event) (intact : Bool) (write : WriteId) → IsTakeUp plan h intact write → write.clone ≡ job.clone → write.number < issued_count h (pass_of job write.pass)
  takes_issued h intact write step clone =
      let one : step.job ≡ job = same_Some step.job job (sym step.names.planned ∙ ap (clone_of plan) clone ∙ planned) in
      let pass = pass_of step.job write.pass in
      let takes = takeable plan h pass step.draw step.may in
      let full = (open_parts h pass (group_index pass step.draw.number) takes.opened).full in
      let drawn : slice_get (draws_of_job step.job write.pass) step.draw.number ≡ Some step.draw =
      ap (slice_get (draws_of_job step.job write.pass)) step.names.number ∙ step.names.drawn in
      let inside = in_own_group step.job write.pass step.draw.number step.draw drawn takes.writes in
      let issued = full_issued h step.job write.pass (group_index pass step.draw.number) step.draw full inside.0 inside.1 in
      let number = step.names.number in
      subst (λ (j : SubJob). write.number < issued_count h (pass_of j write.pass)) one (omega (arith, issued, number))

  taken_now : (h : List Event) (e : Event) (w : WriteId) → may_happen plan h e ≡ true → w.clone ≡ job.clone → takes_up w e ≡ true → w.number < issued_count h (pass_of job w.pass)
  taken_now h (Probe worker probed piece) w happens clone takes =
      let same : probed ≡ w = eq_write probed w takes in
      subst (λ (x : WriteId). x.number < issued_count h (pass_of job x.pass)) same
      (takes_issued h true probed (probe_of plan h worker probed piece numbered happens) (ap (λ (x : WriteId). x.clone) same ∙ clone))
  taken_now h (Skip worker skipped) w happens clone takes =
      let same : skipped ≡ w = eq_write skipped w takes in
      subst (λ (x : WriteId). x.number < issued_count h (pass_of job x.pass)) same
      (takes_issued h false skipped (skip_of plan h worker skipped numbered happens) (ap (λ (x : WriteId). x.clone) same ∙ clone))
  taken_now h (Issue worker kind write piece) w happens clone takes = absurd (false≢true takes)
  taken_now h (End worker io outcome) w happens clone takes = absurd (false≢true takes)
  taken_now h (Verdict worker io verdict) w happens clone takes = absurd (false≢true takes)

  -- what was checked or skipped was issued
  pub taken_issued : (history : List Event) → is_legal plan history ≡ true → (w : WriteId) → w.clone ≡ job.clone → list_any (takes_up w) history ≡ true → w.number < issued_count history (pass_of job w.pass)
  taken_issued history legal =
      by_events plan (λ (h : List Event). (w : WriteId) → w.clone ≡ job.clone → list_any (takes_up w) h ≡ true → w.number < issued_count h (pass_of job w.pass))
      (λ w clone none. absurd (false≢true none))
      (λ h e so_far below happens w clone taken.
      let longer = count_longer h e (pass_of job w.pass) in
      elim (or_cases (list_any (takes_up w) h) (takes_up w e || false) (sym (list_any-append (takes_up w) h (e ∷ [])) ∙ taken)) [
        | inl before ↦ let was = below w clone before in omega (arith, was, longer)
        | inr now ↦ let is = taken_now h e w happens clone (sym (or-false (takes_up w e)) ∙ now) in omega (arith, is, longer)
      ])
      history legal

  -- so the next draw isn't settled
  pub next_unsettled : (h : List Event) (write : WriteId) → is_legal plan h ≡ true → write.clone ≡ job.clone → issued_count h (pass_of job write.pass) ≡ write.number → is_settled h write ≡ false
  next_unsettled h write legal clone count =
      false_from_ne_true (is_settled h write)
      (λ settled.
      let issued = taken_issued h legal write clone (settled_taken h write settled) in
      absurd (omega (arith, issued, count)))
