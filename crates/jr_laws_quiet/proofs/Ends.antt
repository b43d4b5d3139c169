-- Each I/O ends once, and each check and checked read is judged once, so a sum over ends, or over verdicts, is one over what was started.
use Rattle.std.proofs.Common.{◌≡◌, ℕ, zero, suc, ◌+◌, ◌<◌, ◌≤◌, List, [], ◌∷◌, ◌++◌, length, Bool, true, false, cond, ◌&&◌, ◌||◌, not, refl, sym, ◌∙◌, ap, subst, arith, inl, inr, append-nil, zero-add}
use Rattle.std.specs.Prelude.{◌⊎◌, Option, Some, None, slice_get, nat_lt, ◌==◌, is_none, is_some, filter_map}
use Rattle.std.specs.Option.{option_or}
use Rattle.std.specs.List.{list_all, cons_option, enumerate_from}
use Rattle.std.proofs.lemmas.Bool.{and_parts, eqb-true, eq-eqb, ne_eqb, ltb-true, not-true, false_from_ne_true}
use Rattle.std.proofs.Math.Bool.{or-false}
use Rattle.jr_model.specs.declared.events.Event.{Event}
use Rattle.jr_model.specs.declared.events.Event.TheVariants.{Issue, Probe, Skip, End, Verdict}
use Rattle.jr_model.specs.declared.events.Outcome.{Outcome}
use Rattle.jr_model.specs.declared.events.Outcome.TheVariants.{Whole, Failed, Short}
use Rattle.jr_model.specs.declared.events.Started.{Started}
use Rattle.jr_model.specs.declared.events.Verdict.{Verdict as GivenVerdict}
use Rattle.jr_model.specs.History.{started, started_by, end_of, outcome_of, flies, is_verdict_on, is_judged, ended_whole, is_judged_kind, in_flight, if_flying, awaiting, if_awaiting}
use Rattle.jr_model.specs.Legal.{is_legal, end_fits, verdict_fits, is_complete, is_over, is_fault}
use Rattle.jr_model.specs.Plan.{Plan}
use Rattle.jr_model.proofs.SerialLaws.{first_given-append}
use Rattle.jr_model.specs.Races.{has_raced}
use Rattle.jr_model.proofs.OptionLemmas.{none_from}
use Rattle.jr_model.proofs.PlaceLemmas.{item_at, got_longer}
use Rattle.jr_model.proofs.HistoryLemmas.{is_judged-more, started-more}
use Rattle.jr_laws_quiet.proofs.Steps.{is_fine, are_fine}
use Rattle.jr_laws_quiet.proofs.Tallies.{total, got, marked, total_push, marked_same, marked_push, marked_grows, marked_all}
use Rattle.jr_laws_quiet.proofs.Steps.{IsStep, along, well_of, refers, refers_now, all_refer, Agrees}

-- what f gives of the I/O that the event ends
abbrev pub end_worth : (Started → ℕ) → List Started → Event → ℕ
end_worth f ios (End worker io outcome) = got f (slice_get ios io)
end_worth f ios (Issue worker kind write piece) = 0
end_worth f ios (Probe worker write piece) = 0
end_worth f ios (Skip worker write) = 0
end_worth f ios (Verdict worker io verdict) = 0

-- what f gives of the check or checked read that the event is the verdict on
abbrev pub verdict_worth : (Started → ℕ) → List Started → Event → ℕ
verdict_worth f ios (Verdict worker io verdict) = got f (slice_get ios io)
verdict_worth f ios (End worker io outcome) = 0
verdict_worth f ios (Issue worker kind write piece) = 0
verdict_worth f ios (Probe worker write piece) = 0
verdict_worth f ios (Skip worker write) = 0

pub end_worth_agrees : (f : Started → ℕ) → Agrees (end_worth f)
end_worth_agrees f ios more (End worker io outcome) h = ap (got f) (got_longer ios more io (ltb-true io (length ios) h))
end_worth_agrees f ios more (Issue worker kind write piece) h = refl
end_worth_agrees f ios more (Probe worker write piece) h = refl
end_worth_agrees f ios more (Skip worker write) h = refl
end_worth_agrees f ios more (Verdict worker io verdict) h = refl

pub verdict_worth_agrees : (f : Started → ℕ) → Agrees (verdict_worth f)
verdict_worth_agrees f ios more (Verdict worker io verdict) h = ap (got f) (got_longer ios more io (ltb-true io (length ios) h))
verdict_worth_agrees f ios more (Issue worker kind write piece) h = refl
verdict_worth_agrees f ios more (Probe worker write piece) h = refl
verdict_worth_agrees f ios more (Skip worker write) h = refl
verdict_worth_agrees f ios more (End worker io outcome) h = refl

pub total_agrees : (F : List Started → Event → ℕ) → Agrees F → (ios more : List Started) (events : List Event) → list_all (refers (length ios)) events ≡ true → total (F (ios ++ more)) events ≡ total (F ios) events
total_agrees F agrees ios more [] h = refl
total_agrees F agrees ios more (e ∷ events) h =
    let parts = and_parts (refers (length ios) e) (list_all (refers (length ios)) events) h in
    omega (arith, agrees ios more e parts.0, total_agrees F agrees ios more events parts.1)

-- the I/O ended
abbrev pub has_ended : List Event → ℕ → Bool
has_ended history io = is_some (outcome_of history io)

pub is_some_or : {Y : Type 0} (a b : Option Y) → is_some (option_or a b) ≡ (is_some a || is_some b)
is_some_or None b = refl
is_some_or (Some y) b = refl

pub has_ended_push : (h : List Event) (e : Event) (io : ℕ) → has_ended (h ++ e ∷ []) io ≡ (has_ended h io || is_some (end_of io e))
has_ended_push h e io =
    ap is_some (first_given-append (end_of io) h (e ∷ []))
    ∙ is_some_or (outcome_of h io) (option_or (end_of io e) None)
    ∙ ap (λ (b : Bool). has_ended h io || b) (is_some_or (end_of io e) None ∙ or-false (is_some (end_of io e)))

pub none_is_none : {Y : Type 0} (o : Option Y) → is_none o ≡ true → is_some o ≡ false
none_is_none None h = refl
none_is_none (Some y) h = cc

pub some_if : {Y : Type 0} (b : Bool) (y : Y) → is_some (cond b (Some y) None) ≡ b
some_if true y = refl
some_if false y = refl

-- what was not started has not ended and was not judged
pub not_ended_yet : (plan : Plan) (h : List Event) → is_legal plan h ≡ true → are_fine h ≡ true → (io : ℕ) → length (started h) ≤ io → has_ended h io ≡ false
not_ended_yet plan h legal quiet io le =
    ap is_some (none_from (outcome_of h io) (λ (o : Outcome) (at : outcome_of h io ≡ Some o). let below : io < length (started h) = (well_of plan h legal quiet).ends io o at in omega (arith, below, le)))

pub not_judged_yet : (plan : Plan) (h : List Event) → is_legal plan h ≡ true → are_fine h ≡ true → (io : ℕ) → length (started h) ≤ io → is_judged h io ≡ false
not_judged_yet plan h legal quiet io le =
    false_from_ne_true (is_judged h io) (λ (at : is_judged h io ≡ true). let below : io < length (started h) = (well_of plan h legal quiet).judged io at in omega (arith, below, le))

-- the sums agree so far
abbrev pub EndsTally : (Started → ℕ) → List Event → Type 0
EndsTally f h = total (end_worth f (started h)) h ≡ marked (has_ended h) f 0 (started h)

abbrev pub VerdictsTally : (Started → ℕ) → List Event → Type 0
VerdictsTally f h = total (verdict_worth f (started h)) h ≡ marked (is_judged h) f 0 (started h)

module _ (plan : Plan) (f : Started → ℕ) (h : List Event) (e : Event) (step : IsStep plan h e) where
  all_known : list_all (refers (length (started h))) h ≡ true
  all_known = all_refer plan h step.legal step.quiet

  -- a sum over the events, after one that ends nothing and judges nothing
  same_marks : (T : List Event → ℕ → Bool) (o : Option Started) → started_by e ≡ o → ((io : ℕ) → T (h ++ e ∷ []) io ≡ T h io) → T h (length (started h)) ≡ false → marked (T (h ++ e ∷ [])) f 0 (started (h ++ e ∷ [])) ≡ marked (T h) f 0 (started h)
  same_marks T None starts same off =
      ap (marked (T (h ++ e ∷ [])) f 0) (started-more h e ∙ ap (λ (s : Option Started). started h ++ cons_option s []) starts ∙ append-nil (started h))
      ∙ marked_same (T (h ++ e ∷ [])) (T h) f 0 (started h) (λ io low high. same io)
  same_marks T (Some s) starts same off =
      let n = length (started h) in
      let last : T h (0 + n) ≡ false = subst (λ (i : ℕ). T h i ≡ false) (sym (zero-add n)) off in
      ap (marked (T (h ++ e ∷ [])) f 0) (started-more h e ∙ ap (λ (x : Option Started). started h ++ cons_option x []) starts)
      ∙ marked_same (T (h ++ e ∷ [])) (T h) f 0 (started h ++ s ∷ []) (λ io low high. same io)
      ∙ marked_push (T h) f 0 (started h) s
      ∙ omega (arith, ap (λ (b : Bool). cond b (f s) 0) last)

  -- a sum over the events, one further
  pub one_more : (F : List Started → Event → ℕ) → Agrees F → total (F (started (h ++ e ∷ []))) (h ++ e ∷ []) ≡ total (F (started h)) h + F (started (h ++ e ∷ [])) e
  one_more F agrees =
      total_push (F (started (h ++ e ∷ []))) h e
      ∙ ap (λ (n : ℕ). n + F (started (h ++ e ∷ [])) e)
      (ap (λ (ios : List Started). total (F ios) h) (started-more h e) ∙ total_agrees F agrees (started h) (cons_option (started_by e) []) h all_known)

  ends_keep : end_worth f (started (h ++ e ∷ [])) e ≡ 0 → ((io : ℕ) → is_some (end_of io e) ≡ false) → EndsTally f h → EndsTally f (h ++ e ∷ [])
  ends_keep nothing none so_far =
      let marks = same_marks has_ended (started_by e) refl (λ io. has_ended_push h e io ∙ ap (λ (b : Bool). has_ended h io || b) (none io) ∙ or-false (has_ended h io)) (not_ended_yet plan h step.legal step.quiet (length (started h)) (omega arith)) in
      omega (arith, one_more (end_worth f) (end_worth_agrees f), nothing, marks, so_far)

  verdicts_keep : verdict_worth f (started (h ++ e ∷ [])) e ≡ 0 → ((io : ℕ) → is_verdict_on io e ≡ false) → VerdictsTally f h → VerdictsTally f (h ++ e ∷ [])
  verdicts_keep nothing none so_far =
      let marks = same_marks is_judged (started_by e) refl (λ io. is_judged-more h e io ∙ ap (λ (b : Bool). is_judged h io || b) (none io) ∙ or-false (is_judged h io)) (not_judged_yet plan h step.legal step.quiet (length (started h)) (omega arith)) in
      omega (arith, one_more (verdict_worth f) (verdict_worth_agrees f), nothing, marks, so_far)

module _ (plan : Plan) (f : Started → ℕ) where
  end_tallies : (h : List Event) (worker io : ℕ) (outcome : Outcome) → IsStep plan h (End worker io outcome) → EndsTally f h → EndsTally f (h ++ End worker io outcome ∷ [])
  end_tallies h worker io outcome step so_far =
      let e = End worker io outcome in
      let flying = and_parts (nat_lt io (length (started h))) (is_none (outcome_of h io)) (and_parts (flies h io) (end_fits worker outcome (slice_get (started h) io)) step.may).0 in
      let found = item_at (started h) io (ltb-true io (length (started h)) flying.0) in
      let same : started (h ++ e ∷ []) ≡ started h = started-more h e ∙ append-nil (started h) in
      let there : slice_get (started (h ++ e ∷ [])) io ≡ Some found.0 = ap (λ (ios : List Started). slice_get ios io) same ∙ found.1 in
      let off : has_ended h (0 + io) ≡ false = subst (λ (i : ℕ). has_ended h i ≡ false) (sym (zero-add io)) (none_is_none (outcome_of h io) flying.1) in
      let on : has_ended (h ++ e ∷ []) (0 + io) ≡ true =
      subst (λ (i : ℕ). has_ended (h ++ e ∷ []) i ≡ true) (sym (zero-add io))
      (has_ended_push h e io ∙ ap (λ (b : Bool). has_ended h io || b) (some_if (io == io) outcome ∙ eq-eqb io io refl) ∙ or_is_true (has_ended h io)) in
      let others : (i : ℕ) → (i ≡ 0 + io → ⊥) → has_ended (h ++ e ∷ []) i ≡ has_ended h i =
      λ (i : ℕ) (apart : i ≡ 0 + io → ⊥). has_ended_push h e i ∙ ap (λ (b : Bool). has_ended h i || b) (some_if (io == i) outcome ∙ ne_eqb io i (λ equal. apart (omega (arith, equal)))) ∙ or-false (has_ended h i) in
      let grows = marked_grows (has_ended h) (has_ended (h ++ e ∷ [])) f 0 io (started h) found.0 found.1 off on others in
      omega (
        arith,
        one_more plan f h e step (end_worth f) (end_worth_agrees f),
        ap (got f) there,
        ap (marked (has_ended (h ++ e ∷ [])) f 0) same,
        grows,
        so_far,
      )
    where
      or_is_true : (b : Bool) → (b || true) ≡ true
      or_is_true true = refl
      or_is_true false = refl

  ends_step : (h : List Event) (e : Event) → IsStep plan h e → EndsTally f h → EndsTally f (h ++ e ∷ [])
  ends_step h (End worker io outcome) step so_far = end_tallies h worker io outcome step so_far
  ends_step h (Issue worker kind write piece) step so_far = ends_keep plan f h (Issue worker kind write piece) step refl (λ io. refl) so_far
  ends_step h (Probe worker write piece) step so_far = ends_keep plan f h (Probe worker write piece) step refl (λ io. refl) so_far
  ends_step h (Skip worker write) step so_far = ends_keep plan f h (Skip worker write) step refl (λ io. refl) so_far
  ends_step h (Verdict worker io verdict) step so_far = ends_keep plan f h (Verdict worker io verdict) step refl (λ i. refl) so_far

  verdict_tallies : (h : List Event) (worker io : ℕ) (verdict : GivenVerdict) → IsStep plan h (Verdict worker io verdict) → VerdictsTally f h → VerdictsTally f (h ++ Verdict worker io verdict ∷ [])
  verdict_tallies h worker io verdict step so_far =
      let e = Verdict worker io verdict in
      let fits = and_parts (ended_whole (outcome_of h io) && not (is_judged h io)) (verdict_fits plan (has_raced h io) verdict (slice_get (started h) io)) step.may in
      let unjudged = not-true (is_judged h io) (and_parts (ended_whole (outcome_of h io)) (not (is_judged h io)) fits.0).1 in
      let found = item_at (started h) io (ltb-true io (length (started h)) (refers_now plan h e step)) in
      let same : started (h ++ e ∷ []) ≡ started h = started-more h e ∙ append-nil (started h) in
      let there : slice_get (started (h ++ e ∷ [])) io ≡ Some found.0 = ap (λ (ios : List Started). slice_get ios io) same ∙ found.1 in
      let off : is_judged h (0 + io) ≡ false = subst (λ (i : ℕ). is_judged h i ≡ false) (sym (zero-add io)) unjudged in
      let on : is_judged (h ++ e ∷ []) (0 + io) ≡ true =
      subst (λ (i : ℕ). is_judged (h ++ e ∷ []) i ≡ true) (sym (zero-add io))
      (is_judged-more h e io ∙ ap (λ (b : Bool). is_judged h io || b) (eq-eqb io io refl) ∙ or_is_true (is_judged h io)) in
      let others : (i : ℕ) → (i ≡ 0 + io → ⊥) → is_judged (h ++ e ∷ []) i ≡ is_judged h i =
      λ (i : ℕ) (apart : i ≡ 0 + io → ⊥). is_judged-more h e i ∙ ap (λ (b : Bool). is_judged h i || b) (ne_eqb io i (λ equal. apart (omega (arith, equal)))) ∙ or-false (is_judged h i) in
      let grows = marked_grows (is_judged h) (is_judged (h ++ e ∷ [])) f 0 io (started h) found.0 found.1 off on others in
      omega (
        arith,
        one_more plan f h e step (verdict_worth f) (verdict_worth_agrees f),
        ap (got f) there,
        ap (marked (is_judged (h ++ e ∷ [])) f 0) same,
        grows,
        so_far,
      )
    where
      or_is_true : (b : Bool) → (b || true) ≡ true
      or_is_true true = refl
      or_is_true false = refl

  verdicts_step : (h : List Event) (e : Event) → IsStep plan h e → VerdictsTally f h → VerdictsTally f (h ++ e ∷ [])
  verdicts_step h (Verdict worker io verdict) step so_far = verdict_tallies h worker io verdict step so_far
  verdicts_step h (Issue worker kind write piece) step so_far = verdicts_keep plan f h (Issue worker kind write piece) step refl (λ io. refl) so_far
  verdicts_step h (Probe worker write piece) step so_far = verdicts_keep plan f h (Probe worker write piece) step refl (λ io. refl) so_far
  verdicts_step h (Skip worker write) step so_far = verdicts_keep plan f h (Skip worker write) step refl (λ io. refl) so_far
  verdicts_step h (End worker io outcome) step so_far = verdicts_keep plan f h (End worker io outcome) step refl (λ i. refl) so_far

  pub ends_tally : (history : List Event) → is_legal plan history ≡ true → are_fine history ≡ true → EndsTally f history
  ends_tally history legal quiet = along plan (EndsTally f) refl ends_step history legal quiet

  pub verdicts_tally : (history : List Event) → is_legal plan history ≡ true → are_fine history ≡ true → VerdictsTally f history
  verdicts_tally history legal quiet = along plan (VerdictsTally f) refl verdicts_step history legal quiet

-- where the list of those that pass is empty, none passes
pub none_given : {X Y : Type 0} (f : ℕ × X → Option Y) (n k : ℕ) (xs : List X) (x : X) → length (filter_map f (enumerate_from n xs)) ≡ 0 → slice_get xs k ≡ Some x → f (n + k, x) ≡ None
none_given f n k [] x none at = cc
none_given {X = X} {Y = Y} f n zero (y ∷ xs) x none at =
    let same : y ≡ x = cc in
    let first : f (n, y) ≡ None = nothing (f (n, y)) none in
    subst (λ (i : ℕ). f (i, x) ≡ None) (omega arith) (subst (λ (z : X). f (n, z) ≡ None) same first)
  where
    nothing : (o : Option Y) → length (cons_option o (filter_map f (enumerate_from (n + 1) xs))) ≡ 0 → o ≡ None
    nothing None h = refl
    nothing (Some z) h = absurd (omega (arith, h))
none_given {X = X} {Y = Y} f n (suc k) (y ∷ xs) x none at =
    subst (λ (i : ℕ). f (i, x) ≡ None) (omega arith) (none_given f (n + 1) k xs x (rest (f (n, y)) none) at)
  where
    rest : (o : Option Y) → length (cons_option o (filter_map f (enumerate_from (n + 1) xs))) ≡ 0 → length (filter_map f (enumerate_from (n + 1) xs)) ≡ 0
    rest None h = h
    rest (Some z) h = absurd (omega (arith, h))

-- where the history is complete, each I/O that was started has ended
pub completes : (plan : Plan) (history : List Event) → is_complete plan history ≡ true → (length (in_flight history) ≡ 0) × (length (awaiting history) ≡ 0) × (list_all (is_over history) plan.clones ≡ true)
completes plan history complete =
    let parts = and_parts ((length (in_flight history) == 0) && (length (awaiting history) == 0)) (list_all (is_over history) plan.clones) complete in
    let front = and_parts (length (in_flight history) == 0) (length (awaiting history) == 0) parts.0 in
    (eqb-true (length (in_flight history)) 0 front.0, eqb-true (length (awaiting history)) 0 front.1, parts.1)

pub all_ended : (history : List Event) → length (in_flight history) ≡ 0 → (k : ℕ) (s : Started) → slice_get (started history) k ≡ Some s → has_ended history k ≡ true
all_ended history none k s at =
    subst (λ (i : ℕ). has_ended history i ≡ true) (zero-add k) (by_case (outcome_of history (0 + k)) (none_given (if_flying history) 0 k (started history) s none at))
  where
    by_case : (o : Option Outcome) → cond (is_none o) (Some s) None ≡ None → is_some o ≡ true
    by_case None h = cc
    by_case (Some o) h = refl

-- all ends of a history in which nothing goes wrong are whole
pub whole_ends : (history : List Event) (io : ℕ) → are_fine history ≡ true → has_ended history io ≡ true → ended_whole (outcome_of history io) ≡ true
whole_ends [] io quiet ended = cc
whole_ends (End worker id outcome ∷ events) io quiet ended =
    let calms = and_parts (not (is_fault outcome)) (are_fine events) quiet in
    by_case (id == io) outcome calms.0 (whole_ends events io calms.1) ended
  where
    by_case : (b : Bool) (o : Outcome) → not (is_fault o) ≡ true → (has_ended events io ≡ true → ended_whole (outcome_of events io) ≡ true) → is_some (option_or (cond b (Some o) None) (outcome_of events io)) ≡ true → ended_whole (option_or (cond b (Some o) None) (outcome_of events io)) ≡ true
    by_case true Whole calm rest g = refl
    by_case true Failed calm rest g = cc
    by_case true (Short n) calm rest g = cc
    by_case false o calm rest g = rest g
whole_ends (Issue worker kind write piece ∷ events) io quiet ended = whole_ends events io quiet ended
whole_ends (Probe worker write piece ∷ events) io quiet ended = whole_ends events io quiet ended
whole_ends (Skip worker write ∷ events) io quiet ended = whole_ends events io quiet ended
whole_ends (Verdict worker id verdict ∷ events) io quiet ended =
    whole_ends events io (and_parts (is_fine (Verdict worker id verdict)) (are_fine events) quiet).1 ended

pub all_judged : (history : List Event) → are_fine history ≡ true → length (in_flight history) ≡ 0 → length (awaiting history) ≡ 0 → (k : ℕ) (s : Started) → slice_get (started history) k ≡ Some s → is_judged_kind s.kind ≡ true → is_judged history k ≡ true
all_judged history quiet landed none k s at probe =
    let whole = whole_ends history k quiet (all_ended history landed k s at) in
    let not_awaiting = none_given (if_awaiting history) 0 k (started history) s none at in
    by_case (is_judged_kind s.kind) (ended_whole (outcome_of history k)) (is_judged history k) probe whole (subst (λ (i : ℕ). if_awaiting history (i, s) ≡ None) (zero-add k) not_awaiting)
  where
    by_case : (a b d : Bool) → a ≡ true → b ≡ true → cond (a && b && not d) (Some s) None ≡ None → d ≡ true
    by_case true true true p q h = refl
    by_case true true false p q h = cc
    by_case true false d p q h = cc
    by_case false b d p q h = cc

-- at the end of a complete history: sums over ends are sums over what was started
pub ends_in_all : (plan : Plan) (history : List Event) (f : Started → ℕ) → is_legal plan history ≡ true → are_fine history ≡ true → is_complete plan history ≡ true → total (end_worth f (started history)) history ≡ total f (started history)
ends_in_all plan history f legal quiet complete =
    let landed = (completes plan history complete).0 in
    ends_tally plan f history legal quiet
    ∙ marked_all (has_ended history) f 0 (started history)
    (λ (k : ℕ) (s : Started) (at : slice_get (started history) k ≡ Some s). inl (subst (λ (i : ℕ). has_ended history i ≡ true) (sym (zero-add k)) (all_ended history landed k s at)))

-- and sums over verdicts those over checks and checked reads
pub verdicts_in_all : (plan : Plan) (history : List Event) (f : Started → ℕ) → ((s : Started) → (is_judged_kind s.kind ≡ true) ⊎ (f s ≡ 0)) → is_legal plan history ≡ true → are_fine history ≡ true → is_complete plan history ≡ true → total (verdict_worth f (started history)) history ≡ total f (started history)
verdicts_in_all plan history f checks legal quiet complete =
    let done = completes plan history complete in
    verdicts_tally plan f history legal quiet
    ∙ marked_all (is_judged history) f 0 (started history)
    (λ (k : ℕ) (s : Started) (at : slice_get (started history) k ≡ Some s). either k s at (checks s))
  where
    either : (k : ℕ) (s : Started) → slice_get (started history) k ≡ Some s → (is_judged_kind s.kind ≡ true) ⊎ (f s ≡ 0) → (is_judged history (0 + k) ≡ true) ⊎ (f s ≡ 0)
    either k s at (inl probe) = inl (subst (λ (i : ℕ). is_judged history i ≡ true) (sym (zero-add k)) (all_judged history quiet (completes plan history complete).0 (completes plan history complete).1 k s at probe))
    either k s at (inr nothing) = inr nothing
