-- Where the status is 0 nothing went wrong, and there are no faults.
use Rattle.std.proofs.Common.{◌≡◌, ℕ, zero, suc, List, [], ◌∷◌, ◌++◌, Bool, true, false, not, cond, ◌&&◌, refl, sym, ap, ◌∙◌, subst, arith, append_assoc}
use Rattle.std.specs.Prelude.{map, filter_map, count_by, slice_get, nat_lt, Option, Some, None}
use Rattle.std.specs.List.{list_any, list_all, cons_option}
use Rattle.std.proofs.lemmas.Bool.{and_parts, or_parts, or_from, eq-eqb, ltb-false}
use Rattle.std.proofs.lemmas.List.Sums.{sum_by-cons}
use Rattle.jr_model.specs.declared.events.Event.{Event}
use Rattle.jr_model.specs.declared.events.Event.TheVariants.{Issue, Probe, Skip, End, Verdict}
use Rattle.jr_model.specs.declared.events.Outcome.{Outcome}
use Rattle.jr_model.specs.declared.events.Outcome.TheVariants.{Whole, Failed, Short}
use Rattle.jr_model.specs.declared.events.Started.{Started}
use Rattle.jr_model.specs.declared.totals.Totals.{Totals}
use Rattle.jr_model.specs.History.{started, flies, outcome_of, is_judged, ended_whole, is_of_clone}
use Rattle.jr_model.specs.Legal.{is_legal, is_io_of, is_fault, is_bad, end_fits, verdict_fits}
use Rattle.jr_model.specs.Plan.{Plan, SubJob}
use Rattle.jr_model.specs.Races.{has_raced}
use Rattle.jr_model.specs.Report.{all_totals}
use Rattle.jr_model.specs.Totals.{is_verdict_of, is_fault_of, totals_of}
use Rattle.jr_model.proofs.LegalLaws.{started_planned}
use Rattle.jr_model.specs.PlanFacts.{IsPlanned}
use Rattle.jr_model.proofs.HistoryLemmas.{judged_there}
use Rattle.jr_laws_quiet.specs.Quiet.{is_calm, is_quiet}
use Rattle.jr_laws_steps.proofs.StartedLemmas.{started_stays, middle_may_happen}
use Rattle.jr_report_faults.specs.declared.faults.Fault.{Fault}
use Rattle.jr_report_faults.specs.declared.faults.Faults.{Faults}
use Rattle.jr_report_faults.specs.Faults.{AreFaultsOf, AreFirst, fault_by, fault_with, named}
use Rattle.jr_cli_ends.specs.Status.{is_unclean, status_of}

-- what may end was started, and so was what may be judged
ended_there : (worker : ℕ) (outcome : Outcome) (io : Option Started) → end_fits worker outcome io ≡ true → (s : Started) × (io ≡ Some s)
ended_there worker outcome None h = cc
ended_there worker outcome (Some s) h = (s, refl)

no_one : (b : Bool) → ◌≡◌ {A = ℕ} (cond b 1 0) 0 → b ≡ false
no_one true h = cc
no_one false h = refl

not_above : (n : ℕ) → nat_lt 0 n ≡ false → n ≡ 0
not_above n h = omega (arith, ltb-false 0 n h)

-- where none is counted, none passes
none_counted : (test : Event → Bool) (history : List Event) → count_by test history ≡ 0 → list_any test history ≡ false
none_counted test [] h = refl
none_counted test (e ∷ history) h =
    let split = sum_by-cons (λ (x : Event). cond (test x) 1 0) e history in
    let first : ◌≡◌ {A = ℕ} (cond (test e) 1 0) 0 = omega (arith, split, h) in
    let rest : count_by test history ≡ 0 = omega (arith, split, h) in
    or_from (test e) (list_any test history) (no_one (test e) first) (none_counted test history rest)

-- so this one doesn't
none_at : (test : Event → Bool) (before after : List Event) (e : Event) → list_any test (before ++ e ∷ after) ≡ false → test e ≡ false
none_at test [] after e h = (or_parts (test e) (list_any test after) h).0
none_at test (x ∷ before) after e h = none_at test before after e (or_parts (test x) (list_any test (before ++ e ∷ after)) h).1

none_of_clones : (clean : SubJob → Totals) (jobs : List SubJob) (c : ℕ) (job : SubJob) → list_any is_unclean (map clean jobs) ≡ false → slice_get jobs c ≡ Some job → is_unclean (clean job) ≡ false
none_of_clones clean [] c job h at = cc
none_of_clones clean (first ∷ jobs) zero job h at =
    let same : Some first ≡ Some job = at in
    let is : first ≡ job = cc in
    subst (λ (j : SubJob). is_unclean (clean j) ≡ false) is (or_parts (is_unclean (clean first)) (list_any is_unclean (map clean jobs)) h).0
none_of_clones clean (first ∷ jobs) (suc c) job h at =
    none_of_clones clean jobs c job (or_parts (is_unclean (clean first)) (list_any is_unclean (map clean jobs)) h).1 at

-- of an I/O of this clone
not_faulty : (c : ℕ) (io : Started) (bad : Bool) → io.write.clone ≡ c → (is_io_of c (Some io) && bad) ≡ false → not bad ≡ true
not_faulty c io bad own h =
    let is : is_of_clone c io ≡ true = eq-eqb io.write.clone c own in
    go (is_of_clone c io) bad is h
  where
    go : (a b : Bool) → a ≡ true → (a && b) ≡ false → not b ≡ true
    go true true e h = cc
    go true false e h = refl
    go false b e h = cc

module _ (plan : Plan) (history : List Event) (planned : IsPlanned plan) (legal : is_legal plan history ≡ true)
    (clean : list_any is_unclean (all_totals plan history) ≡ false) where
  clean_clone : (io : ℕ) (s : Started) → slice_get (started history) io ≡ Some s → is_unclean (totals_of history s.write.clone) ≡ false
  clean_clone io s at =
      let job = started_planned plan [] history io s legal at in
      let number : job.0.clone ≡ s.write.clone = (planned.drafted.placed s.write.clone job.0 job.1).number in
      subst (λ (c : ℕ). is_unclean (totals_of history c) ≡ false) number
      (none_of_clones (λ (j : SubJob). totals_of history j.clone) plan.clones s.write.clone job.0 clean job.1)

  module _ (before after : List Event) where
    in_all : (e : Event) (io : ℕ) (s : Started) → history ≡ before ++ e ∷ after → slice_get (started before) io ≡ Some s → slice_get (started history) io ≡ Some s
    in_all e io s split at =
        subst (λ (all : List Event). slice_get (started all) io ≡ Some s) (sym split) (started_stays before (e ∷ after) io s at)

    calm_at : (e : Event) → history ≡ before ++ e ∷ after → is_calm e ≡ true
    calm_at (End worker io outcome) split =
        let e = End worker io outcome in
        let may = middle_may_happen plan [] before after e (subst (λ (all : List Event). is_legal plan all ≡ true) split legal) in
        let s = ended_there worker outcome (slice_get (started before) io) (and_parts (flies before io) (end_fits worker outcome (slice_get (started before) io)) may).1 in
        let c = s.0.write.clone in
        let there = in_all e io s.0 split s.1 in
        let parts = or_parts (nat_lt 0 (totals_of history c).bad) (nat_lt 0 (totals_of history c).faults) (clean_clone io s.0 there) in
        let none = none_counted (is_fault_of (started history) c) history (not_above (totals_of history c).faults parts.1) in
        let here = none_at (is_fault_of (started history) c) before after e (subst (λ (all : List Event). list_any (is_fault_of (started history) c) all ≡ false) split none) in
        not_faulty c s.0 (is_fault outcome) refl (subst (λ (o : Option Started). (is_io_of c o && is_fault outcome) ≡ false) there here)
    calm_at (Verdict worker io verdict) split =
        let e = Verdict worker io verdict in
        let may = middle_may_happen plan [] before after e (subst (λ (all : List Event). is_legal plan all ≡ true) split legal) in
        let fits = and_parts (ended_whole (outcome_of before io) && not (is_judged before io)) (verdict_fits plan (has_raced before io) verdict (slice_get (started before) io)) may in
        let s = judged_there plan (has_raced before io) verdict (slice_get (started before) io) fits.1 in
        let c = s.0.write.clone in
        let there = in_all e io s.0 split s.1 in
        let parts = or_parts (nat_lt 0 (totals_of history c).bad) (nat_lt 0 (totals_of history c).faults) (clean_clone io s.0 there) in
        let none = none_counted (is_verdict_of (started history) is_bad c) history (not_above (totals_of history c).bad parts.0) in
        let here = none_at (is_verdict_of (started history) is_bad c) before after e (subst (λ (all : List Event). list_any (is_verdict_of (started history) is_bad c) all ≡ false) split none) in
        not_faulty c s.0 (is_bad verdict) refl (subst (λ (o : Option Started). (is_io_of c o && is_bad verdict) ≡ false) there here)
    calm_at (Issue worker dir write piece) split = refl
    calm_at (Probe worker write piece) split = refl
    calm_at (Skip worker write) split = refl

  all_calm : (before events : List Event) → history ≡ before ++ events → list_all is_calm events ≡ true
  all_calm before [] split = refl
  all_calm before (e ∷ events) split =
      both (is_calm e) (list_all is_calm events) (calm_at before events e split)
      (all_calm (before ++ e ∷ []) events (split ∙ sym (append_assoc before (e ∷ []) events)))
    where
      both : (a b : Bool) → a ≡ true → b ≡ true → (a && b) ≡ true
      both true b h k = k
      both false b h k = cc

-- where the status is 0 nothing went wrong
pub quiet_status : (plan : Plan) (history : List Event) → IsPlanned plan → is_legal plan history ≡ true → status_of (all_totals plan history) ≡ 0 → is_quiet history ≡ true
quiet_status plan history planned legal ends =
    all_calm plan history planned legal (no_one (list_any is_unclean (all_totals plan history)) ends) [] history refl

-- so no event is a fault
not_fault : (ios : List Started) (e : Event) → is_calm e ≡ true → fault_by ios e ≡ None
not_fault ios (End worker io Whole) calm = none (slice_get ios io)
  where
    none : (s : Option Started) → fault_with Whole s ≡ None
    none None = refl
    none (Some s) = refl
not_fault ios (End worker io Failed) calm = cc
not_fault ios (End worker io (Short n)) calm = cc
not_fault ios (Issue worker kind write piece) calm = refl
not_fault ios (Probe worker write piece) calm = refl
not_fault ios (Skip worker write) calm = refl
not_fault ios (Verdict worker io verdict) calm = refl

none_faulty : (ios : List Started) (events : List Event) → list_all is_calm events ≡ true → filter_map (fault_by ios) events ≡ []
none_faulty ios [] calm = refl
none_faulty ios (e ∷ events) calm =
    let parts = and_parts (is_calm e) (list_all is_calm events) calm in
    ap (λ (o : Option Fault). cons_option o (filter_map (fault_by ios) events)) (not_fault ios e parts.0)
    ∙ none_faulty ios events parts.1

pub no_faults : (plan : Plan) (history : List Event) (kept : Faults) → IsPlanned plan → is_legal plan history ≡ true → status_of (all_totals plan history) ≡ 0 → kept.first.items ≡ [] → kept.more ≡ 0 → AreFaultsOf plan history kept
no_faults plan history kept planned legal clean first more =
    subst (λ (faults : List Fault). AreFirst plan faults kept) (sym (none_faulty (started history) history (quiet_status plan history planned legal clean)))
    (record { first = ap (map named) first; more = more })
