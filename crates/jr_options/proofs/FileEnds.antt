-- Each file reaches from the least start to the greatest end of its clones, whichever clones come.
use Rattle.std.proofs.Common.{◌≡◌, ℕ, zero, suc, ◌+◌, ◌*◌, ◌<◌, ◌≤◌, min, max, Bool, true, false, cond, List, [], ◌∷◌, ◌++◌, length, map, slice_get, Some, ap, ◌∙◌, sym, subst, arith, refl, ◌⊎◌, inl, inr, append-nil, eqb}
use Rattle.std.specs.Prelude.{fold, flat_map, Contains}
use Rattle.std.proofs.lemmas.Bool.{cases_lt, eq-eqb, ne_eqb}
use Rattle.std.proofs.lemmas.List.{map-append}
use Rattle.std.proofs.lemmas.List.Elements.{All-nil, All-push, All-weaker, Contains-append_left, Contains-push, filter-append}
use Rattle.jr_model.specs.Plan.{SubJob, FileSpec}
use Rattle.jr_options.specs.declared.planned.PlannedJob.{PlannedJob}
use Rattle.jr_plan.specs.Files.{same_text}
use Rattle.jr_options.specs.Planned.{workload_of}
use Rattle.jr_plan.specs.Clones.{planned_clone}
use Rattle.jr_plan.specs.Drafts.{Clones, with_clone}
use Rattle.jr_options.specs.FileLaws.{users_of, start_in, end_in, IsLeast, IsGreatest, LowIsLeast, HighIsGreatest}
use Rattle.jr_plan.specs.Files.{file_place, with_file, widened}
use Rattle.jr_options.specs.PlanOf.{PhasedJob, jobs_below, phased, clones_asked, planned_as, with_asked, no_clones, file_of, plan_of}
use Rattle.jr_options.specs.Surveys.{start_of}
use Rattle.jr_plan.proofs.DraftLemmas.{slice_get-push, lengths}

-- the least of some numbers and of one more
least-push : (ns : List ℕ) (n m : ℕ) → IsLeast n ns → IsLeast (min n m) (ns ++ m ∷ [])
least-push ns n m h = (
  elim (cases_lt m n) [
    | inl below ↦ subst (Contains (ns ++ m ∷ [])) (let e : m ≡ min n m = omega (arith, below) in e) (Contains-push ns m)
    | inr above ↦ subst (Contains (ns ++ m ∷ [])) (let e : n ≡ min n m = omega (arith, above) in e) (Contains-append_left ns (m ∷ []) n h.0)
  ],
  All-push (λ k. min n m ≤ k) ns m (All-weaker (λ k. n ≤ k) (λ k. min n m ≤ k) (λ k le. omega (arith, le)) ns h.1) (omega arith),
)

greatest-push : (ns : List ℕ) (n m : ℕ) → IsGreatest n ns → IsGreatest (max n m) (ns ++ m ∷ [])
greatest-push ns n m h = (
  elim (cases_lt n m) [
    | inl above ↦ subst (Contains (ns ++ m ∷ [])) (let e : m ≡ max n m = omega (arith, above) in e) (Contains-push ns m)
    | inr below ↦ subst (Contains (ns ++ m ∷ [])) (let e : n ≡ max n m = omega (arith, below) in e) (Contains-append_left ns (m ∷ []) n h.0)
  ],
  All-push (λ k. k ≤ max n m) ns m (All-weaker (λ k. k ≤ n) (λ k. k ≤ max n m) (λ k le. omega (arith, le)) ns h.1) (omega arith),
)

least-one : (m : ℕ) → IsLeast m (m ∷ [])
least-one m = (Contains-push [] m, All-push (λ k. m ≤ k) [] m (All-nil (λ k. m ≤ k)) (omega arith))

greatest-one : (m : ℕ) → IsGreatest m (m ∷ [])
greatest-one m = (Contains-push [] m, All-push (λ k. k ≤ m) [] m (All-nil (λ k. k ≤ m)) (omega arith))

-- what the users of a file have, once one more clone comes
abbrev of_users : (SubJob → ℕ) → ℕ → List SubJob → List ℕ
of_users what f clones = map what (users_of f clones)

users-more : (what : SubJob → ℕ) (f : ℕ) (clones : List SubJob) (job : SubJob) → of_users what f (clones ++ job ∷ []) ≡ of_users what f clones ++ map what (cond (eqb job.file f) (job ∷ []) [])
users-more what f clones job =
    ap (map what) (filter-append (λ (other : SubJob). eqb other.file f) clones (job ∷ []))
    ∙ map-append what (users_of f clones) (cond (eqb job.file f) (job ∷ []) [])

users-same : (what : SubJob → ℕ) (f : ℕ) (clones : List SubJob) (job : SubJob) → job.file ≡ f → of_users what f clones ++ what job ∷ [] ≡ of_users what f (clones ++ job ∷ [])
users-same what f clones job is =
    sym (users-more what f clones job ∙ ap (λ b. of_users what f clones ++ map what (cond b (job ∷ []) [])) (eq-eqb job.file f is))

users-other : (what : SubJob → ℕ) (f : ℕ) (clones : List SubJob) (job : SubJob) → (job.file ≡ f → ⊥) → of_users what f clones ≡ of_users what f (clones ++ job ∷ [])
users-other what f clones job other =
    sym (users-more what f clones job ∙ ap (λ b. of_users what f clones ++ map what (cond b (job ∷ []) [])) (ne_eqb job.file f other) ∙ append-nil (of_users what f clones))

-- a file behind those of all clones has no user
users-none : (f : ℕ) (clones : List SubJob) → ((i : ℕ) (job : SubJob) → slice_get clones i ≡ Some job → job.file < f) → users_of f clones ≡ []
users-none f [] before = refl
users-none f (job ∷ clones) before =
    let less = before 0 job refl in
    ap (λ b. cond b (job ∷ users_of f clones) (users_of f clones)) (ne_eqb job.file f (λ e. omega (arith, less, e)))
    ∙ users-none f clones (λ i other at. before (suc i) other at)

-- a file of the new list is another's, the clone's own made wider, or a new one behind all
abbrev IsFound : (place f : ℕ) (files : List FileSpec) (name : List ℕ) (low high : ℕ) (new : FileSpec) → Type 0
IsFound place f files name low high new =
    ((place ≡ f → ⊥) × (slice_get files f ≡ Some new))
    ⊎ (((place ≡ f) × (old : FileSpec) × (slice_get files f ≡ Some old) × (new ≡ widened old low high))
    ⊎ ((place ≡ f) × (f ≡ length files) × (new ≡ (record { name = name; low = low; high = high }))))

found-step : (b : Bool) (file : FileSpec) (files rest : List FileSpec) (place f : ℕ) (name : List ℕ) (low high : ℕ) (new : FileSpec) → slice_get (cond b (widened file low high ∷ files) (file ∷ rest)) f ≡ Some new → ((k : ℕ) → slice_get rest k ≡ Some new → IsFound place k files name low high new) → IsFound (cond b 0 (suc place)) f (file ∷ files) name low high new
found-step true file files rest place zero name low high new at more = inr (inl (refl, file, refl, cc))
found-step true file files rest place (suc k) name low high new at more = inl (λ e. omega (arith, e), at)
found-step false file files rest place zero name low high new at more = inl (λ e. omega (arith, e), at)
found-step false file files rest place (suc k) name low high new at more =
    elim (more k at) [
      | inl other ↦ inl (λ e. other.0 (omega (arith, e)), other.1)
      | inr (inl own) ↦ inr (inl (ap suc own.0, own.1, own.2, own.3))
      | inr (inr last) ↦ inr (inr (ap suc last.0, ap suc last.1, last.2))
    ]

found : (files : List FileSpec) (name : List ℕ) (low high f : ℕ) (new : FileSpec) → slice_get (with_file files name low high) f ≡ Some new → IsFound (file_place files name) f files name low high new
found [] name low high zero new at = inr (inr (refl, refl, cc))
found [] name low high (suc f) new at = absurd (cc)
found (file ∷ files) name low high f new at =
    found-step (same_text file.name name) file files (with_file files name low high) (file_place files name) f name low high new at (λ k h. found files name low high k new h)

-- each file reaches as far as its clones, and each clone has one of the files
record AreSpanned (d : Clones) : Type 0 where
  files : (i : ℕ) (job : SubJob) → slice_get d.clones i ≡ Some job → job.file < length d.files
  low : (f : ℕ) (spec : FileSpec) → slice_get d.files f ≡ Some spec → IsLeast spec.low (of_users start_in f d.clones)
  high : (f : ℕ) (spec : FileSpec) → slice_get d.files f ≡ Some spec → IsGreatest spec.high (of_users end_in f d.clones)

spanned-more : (d : Clones) (job : PlannedJob) (name file : List ℕ) (start : ℕ) → AreSpanned d → AreSpanned (with_clone d (workload_of job) name file start)
spanned-more d job name file start h =
    let clone = planned_clone (workload_of job) name (length d.clones) (file_place d.files file) start in
    let high = start + job.shape.cells * job.shape.cell in
    let sizes = lengths d.files file start high in
    record {
      files = λ i other at. elim (slice_get-push d.clones clone i other at) [
        | inl before ↦ omega (arith, sizes.1, h.files i other before)
        | inr last ↦ let e = ap (λ (j : SubJob). j.file) last.1 in omega (arith, e, sizes.0)
      ];
      low = λ f spec at. elim (found d.files file start high f spec at) [
        | inl other ↦ subst (IsLeast spec.low) (users-other start_in f d.clones clone other.0) (h.low f spec other.1)
        | inr (inl own) ↦
            let P : ℕ → Type 0 = λ n. IsLeast n (of_users start_in f (d.clones ++ clone ∷ [])) in
            let least = least-push (of_users start_in f d.clones) own.1.low start (h.low f own.1 own.2) in
            subst P (sym (ap (λ (x : FileSpec). x.low) own.3)) (subst (IsLeast (min own.1.low start)) (users-same start_in f d.clones clone own.0) least)
        | inr (inr last) ↦
            let P : ℕ → Type 0 = λ n. IsLeast n (of_users start_in f (d.clones ++ clone ∷ [])) in
            let none = users-none f d.clones (λ i other at. omega (arith, last.1, h.files i other at)) in
            let alone : start ∷ [] ≡ of_users start_in f (d.clones ++ clone ∷ []) = sym (ap (λ (js : List SubJob). map start_in js ++ start ∷ []) none) ∙ users-same start_in f d.clones clone last.0 in
            subst P (sym (ap (λ (x : FileSpec). x.low) last.2)) (subst (IsLeast start) alone (least-one start))
      ];
      high = λ f spec at. elim (found d.files file start high f spec at) [
        | inl other ↦ subst (IsGreatest spec.high) (users-other end_in f d.clones clone other.0) (h.high f spec other.1)
        | inr (inl own) ↦
            let P : ℕ → Type 0 = λ n. IsGreatest n (of_users end_in f (d.clones ++ clone ∷ [])) in
            let greatest = greatest-push (of_users end_in f d.clones) own.1.high high (h.high f own.1 own.2) in
            subst P (sym (ap (λ (x : FileSpec). x.high) own.3)) (subst (IsGreatest (max own.1.high high)) (users-same end_in f d.clones clone own.0) greatest)
        | inr (inr last) ↦
            let P : ℕ → Type 0 = λ n. IsGreatest n (of_users end_in f (d.clones ++ clone ∷ [])) in
            let none = users-none f d.clones (λ i other at. omega (arith, last.1, h.files i other at)) in
            let alone : high ∷ [] ≡ of_users end_in f (d.clones ++ clone ∷ []) = sym (ap (λ (js : List SubJob). map end_in js ++ high ∷ []) none) ∙ users-same end_in f d.clones clone last.0 in
            subst P (sym (ap (λ (x : FileSpec). x.high) last.2)) (subst (IsGreatest high) alone (greatest-one high))
      ];
    }

spanned-all : (cs : List (ℕ × PhasedJob)) (d : Clones) → AreSpanned d → AreSpanned (fold with_asked d cs)
spanned-all [] d h = h
spanned-all (c ∷ cs) d h =
    spanned-all cs (with_asked d c) (spanned-more d (planned_as c.1) c.1.job.name (file_of c.1.job c.0) (start_of c.1.job.options c.0) h)

spanned-none : AreSpanned no_clones
spanned-none = record { files = λ i job at. absurd (cc); low = λ f spec at. absurd (cc); high = λ f spec at. absurd (cc) }

pub least_low : LowIsLeast
unfolding plan_of
least_low = λ sections only f file at. (spanned-all (flat_map clones_asked (phased (jobs_below only [] sections))) no_clones spanned-none).low f file at

pub greatest_high : HighIsGreatest
unfolding plan_of
greatest_high = λ sections only f file at. (spanned-all (flat_map clones_asked (phased (jobs_below only [] sections))) no_clones spanned-none).high f file at
