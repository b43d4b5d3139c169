-- What is found first by going along clones.
use Rattle.std.proofs.Common.{◌≡◌, ℕ, ◌+◌, List, drop, slice_get, true, false, ap, ◌∙◌}
use Rattle.std.specs.Prelude.{Bool, Option, Some, None}
use Rattle.std.specs.Option.{option_map, option_or}
use Rattle.std.proofs.lemmas.Bool.{cond-true, cond-false}
use Rattle.jr_model.specs.Plan.{SubJob}
use Rattle.jr_plan.proofs.ListLemmas.{drop_at}
use Rattle.jr_after.specs.Findings.{first_such}
use Rattle.jr_after_plans.specs.declared.faults.AfterFault.{AfterFault}
use Rattle.jr_after_plans.specs.declared.faults.Refusal.{Refusal}
use Rattle.jr_after_plans.specs.Taken.{refusal_of, fault_at, fault_among}

pub found_here : {X : Type 0} (test : X → Bool) (xs : List X) (i : ℕ) (x : X) → slice_get xs i ≡ Some x → test x ≡ true → first_such test (drop i xs) ≡ Some x
found_here test xs i x at holds = ap (first_such test) (drop_at xs i x at) ∙ cond-true (test x) (Some x) (first_such test (drop (i + 1) xs)) holds

pub found_later : {X : Type 0} (test : X → Bool) (xs : List X) (i : ℕ) (x : X) → slice_get xs i ≡ Some x → test x ≡ false → first_such test (drop i xs) ≡ first_such test (drop (i + 1) xs)
found_later test xs i x at fails = ap (first_such test) (drop_at xs i x at) ∙ cond-false (test x) (Some x) (first_such test (drop (i + 1) xs)) fails

-- the fault of the next clone, or of one behind it
abbrev fault_next : SubJob → Option AfterFault → Option Refusal → Option AfterFault
fault_next job rest why = option_or (option_map (fault_at job) why) rest

pub fault_here : (clones jobs : List SubJob) (i : ℕ) (job : SubJob) (why : Refusal) → slice_get jobs i ≡ Some job → refusal_of clones job ≡ Some why → fault_among clones (drop i jobs) ≡ Some (fault_at job why)
fault_here clones jobs i job why at is =
    ap (fault_among clones) (drop_at jobs i job at) ∙ ap (fault_next job (fault_among clones (drop (i + 1) jobs))) is

pub fault_later : (clones jobs : List SubJob) (i : ℕ) (job : SubJob) → slice_get jobs i ≡ Some job → refusal_of clones job ≡ None → fault_among clones (drop i jobs) ≡ fault_among clones (drop (i + 1) jobs)
fault_later clones jobs i job at none =
    ap (fault_among clones) (drop_at jobs i job at) ∙ ap (fault_next job (fault_among clones (drop (i + 1) jobs))) none
