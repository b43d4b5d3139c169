-- What holds of the clones of a plan that is taken.
use Rattle.std.proofs.Common.{◌≡◌, ℕ, zero, suc, ◌%◌, ◌<◌, List, [], ◌∷◌, slice_get, Bool, true, false, refl, ap, sym, ◌∙◌, inl, inr, arith}
use Rattle.std.specs.Prelude.{Option, Some, None, cond, not, ◌==◌}
use Rattle.std.specs.Option.{option_map}
use Rattle.std.proofs.lemmas.Bool.{and_parts, cases_Bool, cond-true, cond-false, eqb-true, eqb-false, false≢true, not-false}
use Rattle.jr_model.specs.Directions.{has_writes}
use Rattle.jr_model.specs.Plan.{SubJob}
use Rattle.jr_model.proofs.OptionLemmas.{none_chosen, neither}
use Rattle.jr_after.specs.Findings.{first_such}
use Rattle.jr_after_plans.specs.declared.faults.Refusal.{Refusal}
use Rattle.jr_after_plans.specs.declared.faults.Refusal.TheVariants as refusal
use Rattle.jr_after_plans.specs.Taken.{chunk_len, fault_among, fault_at, first_writer, has_digest, has_same_grid, is_on_grid, refusal_of, writes_to}

-- a clone that writes, and is taken
pub record IsTaken (clones : List SubJob) (job : SubJob) : Type 0 where
  pub digest : has_digest job.method.kind ≡ true
  pub some : 0 < chunk_len job
  pub grid : is_on_grid (first_writer clones job.file) job ≡ true

-- two clones that cut a file alike
pub record AreAlike (a b : SubJob) : Type 0 where
  pub len : chunk_len a ≡ chunk_len b
  pub start : a.start % chunk_len b ≡ b.start % chunk_len b

nothing_mapped : (job : SubJob) (why : Option Refusal) → option_map (fault_at job) why ≡ None → why ≡ None
nothing_mapped job None e = refl
nothing_mapped job (Some why) e = absurd (cc)

-- no fault among clones: each is taken
pub taken_at : (clones jobs : List SubJob) (k : ℕ) (job : SubJob) → fault_among clones jobs ≡ None → slice_get jobs k ≡ Some job → refusal_of clones job ≡ None
taken_at clones [] k job none at = absurd (cc)
taken_at clones (other ∷ jobs) zero job none at =
    let same : other ≡ job = cc in
    let both = neither (option_map (fault_at other) (refusal_of clones other)) (fault_among clones jobs) none in
    ap (refusal_of clones) (sym same) ∙ nothing_mapped other (refusal_of clones other) both.0
taken_at clones (other ∷ jobs) (suc k) job none at =
    let both = neither (option_map (fault_at other) (refusal_of clones other)) (fault_among clones jobs) none in
    taken_at clones jobs k job both.1 at

passed : {X : Type 0} (b : Bool) (rest : Option X) → b ≡ true → cond (not b) None rest ≡ None → rest ≡ None
passed true rest h e = e
passed false rest h e = absurd (false≢true h)

not_last : {X : Type 0} (b : Bool) (x : X) → cond b None (Some x) ≡ None → b ≡ true
not_last true x e = refl
not_last false x e = absurd (cc)

pub taken_of : (clones : List SubJob) (job : SubJob) → has_writes job.io_type ≡ true → refusal_of clones job ≡ None → IsTaken clones job
taken_of clones job writes none =
    let grid = is_on_grid (first_writer clones job.file) job in
    let last : Option Refusal = cond grid None (Some refusal.OtherGrid) in
    let sized : Option Refusal = cond (chunk_len job == 0) (Some refusal.SeveralSizes) last in
    let digested : Option Refusal = cond (not (has_digest job.method.kind)) (Some refusal.NoDigest) sized in
    let written : Option Refusal = cond (not (has_writes job.io_type)) None digested in
    let ordered = none_chosen job.declines refusal.Unordered written none in
    let d = none_chosen (not (has_digest job.method.kind)) refusal.NoDigest sized (passed (has_writes job.io_type) digested writes ordered.1) in
    let s = none_chosen (chunk_len job == 0) refusal.SeveralSizes last d.1 in
    let different = eqb-false (chunk_len job) 0 s.0 in
    record {
      digest = not-false (has_digest job.method.kind) d.0;
      some = omega arith;
      grid = not_last grid refusal.OtherGrid s.1;
    }

-- where one passes there is a first one
found_first : {X : Type 0} (test : X → Bool) (xs : List X) (k : ℕ) (x : X) → slice_get xs k ≡ Some x → test x ≡ true → (first : X) × (first_such test xs ≡ Some first)
found_first test [] k x at holds = absurd (cc)
found_first test (y ∷ xs) zero x at holds =
    let same : y ≡ x = cc in
    (y, cond-true (test y) (Some y) (first_such test xs) (ap test same ∙ holds))
found_first test (y ∷ xs) (suc k) x at holds =
    let rest = found_first test xs k x at holds in
    elim (cases_Bool (test y)) [
      | inl own ↦ (y, cond-true (test y) (Some y) (first_such test xs) own)
      | inr not_own ↦ (rest.0, cond-false (test y) (Some y) (first_such test xs) not_own ∙ rest.1)
    ]

-- those of one file are cut alike
pub alike : (clones : List SubJob) (file : ℕ) (place : ℕ) (a b : SubJob) → slice_get clones place ≡ Some a → writes_to file a ≡ true → a.file ≡ file → b.file ≡ file → IsTaken clones a → IsTaken clones b → AreAlike a b
alike clones file place a b at writes afile bfile ta tb =
    let first = found_first (writes_to file) clones place a at writes in
    let f = first.0 in
    let on : (job : SubJob) → job.file ≡ file → IsTaken clones job → has_same_grid f job ≡ true = λ job same taken.
    ap (λ found. is_on_grid found job) (sym first.1) ∙ ap (λ (n : ℕ). is_on_grid (first_writer clones n) job) (sym same) ∙ taken.grid in
    let ga = and_parts (chunk_len f == chunk_len a) (f.start % chunk_len a == a.start % chunk_len a) (on a afile ta) in
    let gb = and_parts (chunk_len f == chunk_len b) (f.start % chunk_len b == b.start % chunk_len b) (on b bfile tb) in
    let la : chunk_len f ≡ chunk_len a = eqb-true (chunk_len f) (chunk_len a) ga.0 in
    let lb : chunk_len f ≡ chunk_len b = eqb-true (chunk_len f) (chunk_len b) gb.0 in
    let len : chunk_len a ≡ chunk_len b = sym la ∙ lb in
    let sa : f.start % chunk_len a ≡ a.start % chunk_len a = eqb-true (f.start % chunk_len a) (a.start % chunk_len a) ga.1 in
    let sb : f.start % chunk_len b ≡ b.start % chunk_len b = eqb-true (f.start % chunk_len b) (b.start % chunk_len b) gb.1 in
    record {
      len = len;
      start = ap (λ (n : ℕ). a.start % n) (sym len) ∙ sym sa ∙ ap (λ (n : ℕ). f.start % n) len ∙ sb;
    }
