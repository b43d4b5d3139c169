-- A plan whose jobs are written as the faults say is taken.
use Rattle.std.proofs.Common.{◌≡◌, ℕ, zero, suc, ◌%◌, List, [], ◌∷◌, slice_get, Bool, true, refl, ap, sym, ◌∙◌, subst, inl, inr}
use Rattle.std.specs.Prelude.{Option, Some, None, cond, not, ◌==◌}
use Rattle.std.specs.Option.{option_map, option_or}
use Rattle.std.proofs.lemmas.Bool.{and_from, and_parts, cases_Bool, cond-true, cond-false, eq-eqb}
use Rattle.std.proofs.lemmas.List.Elements.{All-get_or}
use Rattle.std.proofs.lemmas.Option.{get_or_from_slice_get, slice_get_within}
use Rattle.jr_model.specs.Directions.{has_writes}
use Rattle.jr_model.specs.Plan.{SubJob}
use Rattle.jr_model.specs.PlanFacts.{KeepsLimits}
use Rattle.jr_after.specs.Findings.{first_such}
use Rattle.jr_after_plans.specs.Advice.{AdviceHelps, IsAdvised}
use Rattle.jr_after_plans.specs.declared.faults.Refusal.{Refusal}
use Rattle.jr_after_plans.specs.declared.faults.Refusal.TheVariants as refusal
use Rattle.jr_after_plans.specs.Taken.{chunk_len, fault_among, fault_at, first_writer, has_digest, is_on_grid, has_one_size, refusal_of, writes_to}

-- each of these clones is written so
abbrev AreAdvised : List SubJob → Type 0
AreAdvised clones = (k : ℕ) (job : SubJob) → slice_get clones k ≡ Some job → IsAdvised job × KeepsLimits job

-- the first one that passes is one of them
first_at : {X : Type 0} (test : X → Bool) (xs : List X) (first : X) → first_such test xs ≡ Some first → (k : ℕ) × (slice_get xs k ≡ Some first) × (test first ≡ true)
first_at test [] first is = absurd (cc)
first_at {X = X} test (x ∷ xs) first is =
    elim (cases_Bool (test x)) [
      | inl own ↦
          let found : Some x ≡ Some first = sym (cond-true (test x) (Some x) (first_such test xs) own) ∙ is in
          let same : x ≡ first = cc in
          (zero, found, ap test (sym same) ∙ own)
      | inr other ↦
          let rest = first_at test xs first (sym (cond-false (test x) (Some x) (first_such test xs) other) ∙ is) in
          (suc rest.0, rest.1, rest.2)
    ]

short_chunks : (job : SubJob) → job.method.interval ≡ 512 → chunk_len job ≡ 512
short_chunks job is = ap (λ (n : ℕ). cond (n == 0) (cond (has_one_size job.cell job.write_split) job.cell 0) n) is

on_grid : (clones : List SubJob) (job : SubJob) → AreAdvised clones → chunk_len job ≡ 512 → KeepsLimits job → (found : Option SubJob) → first_writer clones job.file ≡ found → is_on_grid found job ≡ true
on_grid clones job advised len limits None is = refl
on_grid clones job advised len limits (Some first) is =
    let at = first_at (writes_to job.file) clones first is in
    let facts = advised at.0 first at.1 in
    let own = and_parts (first.file == job.file) (has_writes first.io_type) at.2 in
    let same : chunk_len first ≡ chunk_len job = short_chunks first (facts.0.1 own.1).1 ∙ sym len in
    let start : first.start % chunk_len job ≡ job.start % chunk_len job =
    ap (λ (n : ℕ). first.start % n) len ∙ facts.1.start_sectors ∙ sym limits.start_sectors ∙ ap (λ (n : ℕ). job.start % n) (sym len) in
    and_from (chunk_len first == chunk_len job) (first.start % chunk_len job == job.start % chunk_len job)
    (eq-eqb (chunk_len first) (chunk_len job) same)
    (eq-eqb (first.start % chunk_len job) (job.start % chunk_len job) start)

not_refused : (clones : List SubJob) (job : SubJob) → AreAdvised clones → IsAdvised job → KeepsLimits job → refusal_of clones job ≡ None
not_refused clones job advised own limits =
    let writes = has_writes job.io_type in
    let grid = is_on_grid (first_writer clones job.file) job in
    let last : Option Refusal = cond grid None (Some refusal.OtherGrid) in
    let sized : Option Refusal = cond (chunk_len job == 0) (Some refusal.SeveralSizes) last in
    let digested : Option Refusal = cond (not (has_digest job.method.kind)) (Some refusal.NoDigest) sized in
    let written : Option Refusal = cond (not writes) None digested in
    cond-false job.declines (Some refusal.Unordered) written own.0
    ∙ elim (cases_Bool writes) [
      | inl does ↦
          let facts = own.1 does in
          let len : chunk_len job ≡ 512 = short_chunks job facts.1 in
          cond-false (not writes) None digested (ap not does)
          ∙ cond-false (not (has_digest job.method.kind)) (Some refusal.NoDigest) sized (ap not facts.0)
          ∙ cond-false (chunk_len job == 0) (Some refusal.SeveralSizes) last (ap (λ (n : ℕ). n == 0) len)
          ∙ cond-true grid None (Some refusal.OtherGrid) (on_grid clones job advised len limits (first_writer clones job.file) refl)
      | inr never ↦ cond-true (not writes) None digested (ap not never)
    ]

no_fault : (clones jobs : List SubJob) → ((k : ℕ) (job : SubJob) → slice_get jobs k ≡ Some job → refusal_of clones job ≡ None) → fault_among clones jobs ≡ None
no_fault clones [] each = refl
no_fault clones (job ∷ jobs) each =
    ap (λ (why : Option Refusal). option_or (option_map (fault_at job) why) (fault_among clones jobs)) (each 0 job refl)
    ∙ no_fault clones jobs (λ k other at. each (suc k) other at)

pub advice_helps : AdviceHelps
advice_helps plan facts all =
    let clones = plan.clones in
    let advised : AreAdvised clones = λ k job at.
    (subst IsAdvised (get_or_from_slice_get clones k job job at) (All-get_or IsAdvised clones k job (slice_get_within clones k job at) all), facts.drafted.limited k job at) in
    no_fault clones clones (λ k job at. not_refused clones job advised (advised k job at).0 (advised k job at).1)
