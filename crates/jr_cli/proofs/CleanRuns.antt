-- Where no I/O failed and no verdict is bad, the status is 0.
use Rattle.std.proofs.Common.{◌≡◌, ℕ, List, [], ◌∷◌, Bool, false, cond, refl, ap, arith}
use Rattle.std.specs.Prelude.{map, count_by, slice_get, nat_lt}
use Rattle.std.specs.List.{list_any}
use Rattle.std.proofs.lemmas.Bool.{or_parts, or_from, and_right}
use Rattle.std.proofs.lemmas.List.Sums.{sum_by-cons}
use Rattle.jr_model.specs.declared.events.Event.{Event}
use Rattle.jr_model.specs.declared.events.Event.TheVariants.{Issue, Probe, Skip, End, Verdict}
use Rattle.jr_model.specs.declared.events.Started.{Started}
use Rattle.jr_model.specs.History.{started}
use Rattle.jr_model.specs.Legal.{is_io_of, is_fault, is_bad}
use Rattle.jr_model.specs.Plan.{Plan, SubJob}
use Rattle.jr_model.specs.Report.{all_totals}
use Rattle.jr_model.specs.Totals.{is_verdict_of, is_fault_of, totals_of}
use Rattle.jr_laws_bytes.specs.Clean.{is_faulty_end, has_fault}
use Rattle.jr_laws_bytes.specs.BadVerdicts.{is_bad_verdict, has_bad}
use Rattle.jr_cli_ends.specs.Status.{is_unclean, status_of}

-- none is counted where a test that each counted one meets is met by none
count_none : (counted test : Event → Bool) (history : List Event) → ((e : Event) → test e ≡ false → counted e ≡ false) → list_any test history ≡ false → count_by counted history ≡ 0
count_none counted test [] misses none = refl
count_none counted test (e ∷ history) misses none =
    let parts = or_parts (test e) (list_any test history) none in
    let rest = count_none counted test history misses parts.1 in
    let first : ◌≡◌ {A = ℕ} (cond (counted e) 1 0) 0 = ap {B = ℕ} (λ (b : Bool). cond b 1 0) (misses e parts.0) in
    omega (arith, sum_by-cons (λ (x : Event). cond (counted x) 1 0) e history, first, rest)

not_bad : (ios : List Started) (c : ℕ) (e : Event) → is_bad_verdict e ≡ false → is_verdict_of ios is_bad c e ≡ false
not_bad ios c (Issue worker dir write piece) none = refl
not_bad ios c (Probe worker write piece) none = refl
not_bad ios c (Skip worker write) none = refl
not_bad ios c (End worker io outcome) none = refl
not_bad ios c (Verdict worker io verdict) none = and_right (is_io_of c (slice_get ios io)) (is_bad verdict) none

no_fault : (ios : List Started) (c : ℕ) (e : Event) → is_faulty_end e ≡ false → is_fault_of ios c e ≡ false
no_fault ios c (Issue worker dir write piece) none = refl
no_fault ios c (Probe worker write piece) none = refl
no_fault ios c (Skip worker write) none = refl
no_fault ios c (End worker io outcome) none = and_right (is_io_of c (slice_get ios io)) (is_fault outcome) none
no_fault ios c (Verdict worker io verdict) none = refl

-- the history of a run in which nothing went wrong
module _ (history : List Event) (whole : has_fault history ≡ false) (good : has_bad history ≡ false) where
  clean_totals : (c : ℕ) → is_unclean (totals_of history c) ≡ false
  clean_totals c =
      let ios = started history in
      let bad = count_none (is_verdict_of ios is_bad c) is_bad_verdict history (not_bad ios c) good in
      let faults = count_none (is_fault_of ios c) is_faulty_end history (no_fault ios c) whole in
      or_from (nat_lt 0 (totals_of history c).bad) (nat_lt 0 (totals_of history c).faults)
      (ap (λ (n : ℕ). nat_lt 0 n) bad) (ap (λ (n : ℕ). nat_lt 0 n) faults)

  none_unclean : (jobs : List SubJob) → list_any is_unclean (map (λ (job : SubJob). totals_of history job.clone) jobs) ≡ false
  none_unclean [] = refl
  none_unclean (job ∷ jobs) =
      or_from (is_unclean (totals_of history job.clone)) (list_any is_unclean (map (λ (other : SubJob). totals_of history other.clone) jobs))
      (clean_totals job.clone) (none_unclean jobs)

  pub clean_status : (plan : Plan) → status_of (all_totals plan history) ≡ 0
  clean_status plan = ap {B = ℕ} (λ (b : Bool). cond b 1 0) (none_unclean plan.clones)
