-- One more clone keeps what holds of the clones so far.
use Rattle.std.proofs.Common.{◌≡◌, ℕ, zero, suc, ◌+◌, ◌*◌, ◌<◌, ◌≤◌, Bool, true, false, cond, min, max, List, [], ◌∷◌, ◌++◌, length, slice_get, Some, ap, sym, subst, arith, refl, ◌⊎◌, inl, inr}
use Rattle.std.proofs.lemmas.List.{length_push}
use Rattle.std.proofs.lemmas.List.Sums.{sum_by-append}
use Rattle.jr_model.specs.Plan.{SubJob, FileSpec}
use Rattle.jr_plan.specs.Files.{same_text}
use Rattle.jr_plan.specs.Files.{file_place, with_file, widened}
use Rattle.jr_model.specs.PlanFacts.{IsPlaced, KeepsLimits, AreDrafted, work_of}

-- an element of a list with one more is one of the list, or the last
pub slice_get-push : {X : Type 0} (xs : List X) (y : X) (i : ℕ) (x : X) → slice_get (xs ++ y ∷ []) i ≡ Some x → (slice_get xs i ≡ Some x) ⊎ ((i ≡ length xs) × (y ≡ x))
slice_get-push [] y zero x at = inr (refl, cc)
slice_get-push [] y (suc i) x at = absurd (cc)
slice_get-push (z ∷ xs) y zero x at = inl at
slice_get-push (z ∷ xs) y (suc i) x at =
    elim (slice_get-push xs y i x at) [ inl h ↦ inl h | inr h ↦ inr (omega (arith, h.0), h.1) ]

-- a file of the new list is one of the old, and reaches as far at least
record IsWider (files : List FileSpec) (f : ℕ) (new : FileSpec) : Type 0 where
  old : FileSpec
  at : slice_get files f ≡ Some old
  low : new.low ≤ old.low
  high : old.high ≤ new.high

wider-step : (b : Bool) (file new : FileSpec) (files rest : List FileSpec) (low high f : ℕ) → slice_get (cond b (widened file low high ∷ files) (file ∷ rest)) f ≡ Some new → f < suc (length files) → ((k : ℕ) → slice_get rest k ≡ Some new → k < length files → IsWider files k new) → IsWider (file ∷ files) f new
wider-step true file new files rest low high zero at within more =
    let e : widened file low high ≡ new = cc in
    let lows : min file.low low ≡ new.low = ap (λ (x : FileSpec). x.low) e in
    let highs : max file.high high ≡ new.high = ap (λ (x : FileSpec). x.high) e in
    record { old = file; at = refl; low = omega arith; high = omega arith }
wider-step true file new files rest low high (suc k) at within more = record { old = new; at = at; low = omega arith; high = omega arith }
wider-step false file new files rest low high zero at within more =
    let e : file ≡ new = cc in
    let lows : file.low ≡ new.low = ap (λ (x : FileSpec). x.low) e in
    let highs : file.high ≡ new.high = ap (λ (x : FileSpec). x.high) e in
    record { old = file; at = refl; low = omega arith; high = omega arith }
wider-step false file new files rest low high (suc k) at within more =
    let w = more k at (omega arith) in
    record { old = w.old; at = w.at; low = w.low; high = w.high }

wider : (files : List FileSpec) (name : List ℕ) (low high f : ℕ) (new : FileSpec) → slice_get (with_file files name low high) f ≡ Some new → f < length files → IsWider files f new
wider [] name low high f new at within = absurd (omega arith)
wider (file ∷ files) name low high f new at within =
    wider-step (same_text file.name name) file new files (with_file files name low high) low high f at within (λ k h w. wider files name low high k new h w)

own-step : (b : Bool) (file new : FileSpec) (files rest : List FileSpec) (low high place : ℕ) → slice_get (cond b (widened file low high ∷ files) (file ∷ rest)) (cond b 0 (suc place)) ≡ Some new → (slice_get rest place ≡ Some new → (new.low ≤ low) × (high ≤ new.high)) → (new.low ≤ low) × (high ≤ new.high)
own-step true file new files rest low high place at more =
    let e : widened file low high ≡ new = cc in
    let lows : min file.low low ≡ new.low = ap (λ (x : FileSpec). x.low) e in
    let highs : max file.high high ≡ new.high = ap (λ (x : FileSpec). x.high) e in
    (omega arith, omega arith)
own-step false file new files rest low high place at more = more at

-- the clone's own file holds it
own : (files : List FileSpec) (name : List ℕ) (low high : ℕ) (new : FileSpec) → slice_get (with_file files name low high) (file_place files name) ≡ Some new → (new.low ≤ low) × (high ≤ new.high)
own [] name low high new at =
    let e : (record { name = name; low = low; high = high }) ≡ new = cc in
    let lows : low ≡ new.low = ap (λ (x : FileSpec). x.low) e in
    let highs : high ≡ new.high = ap (λ (x : FileSpec). x.high) e in
    (omega arith, omega arith)
own (file ∷ files) name low high new at =
    own-step (same_text file.name name) file new files (with_file files name low high) low high (file_place files name) at (λ h. own files name low high new h)

-- a file's ends are in order, within the furthest
abbrev HasEnds : FileSpec → Type 0
HasEnds spec = (spec.low ≤ spec.high) × (spec.high ≤ 1125899906842624)

ends-step : (b : Bool) (file new : FileSpec) (files rest : List FileSpec) (low high f : ℕ) → HasEnds file → low ≤ high → high ≤ 1125899906842624 → slice_get (cond b (widened file low high ∷ files) (file ∷ rest)) f ≡ Some new → ((k : ℕ) → slice_get files k ≡ Some new → HasEnds new) → ((k : ℕ) → slice_get rest k ≡ Some new → HasEnds new) → HasEnds new
ends-step true file new files rest low high zero had order most at old more =
    let e : widened file low high ≡ new = cc in
    let lows : min file.low low ≡ new.low = ap (λ (x : FileSpec). x.low) e in
    let highs : max file.high high ≡ new.high = ap (λ (x : FileSpec). x.high) e in
    (omega arith, omega arith)
ends-step true file new files rest low high (suc k) had order most at old more = old k at
ends-step false file new files rest low high zero had order most at old more =
    let e : file ≡ new = cc in
    subst HasEnds e had
ends-step false file new files rest low high (suc k) had order most at old more = more k at

ends : (files : List FileSpec) (name : List ℕ) (low high f : ℕ) (new : FileSpec) → ((k : ℕ) (spec : FileSpec) → slice_get files k ≡ Some spec → HasEnds spec) → low ≤ high → high ≤ 1125899906842624 → slice_get (with_file files name low high) f ≡ Some new → HasEnds new
ends [] name low high zero new had order most at =
    let e : (record { name = name; low = low; high = high }) ≡ new = cc in
    subst HasEnds e (order, most)
ends [] name low high (suc f) new had order most at = absurd (cc)
ends (file ∷ files) name low high f new had order most at =
    ends-step (same_text file.name name) file new files (with_file files name low high) low high f (had 0 file refl) order most at (λ k h. had (suc k) new h) (λ k h. ends files name low high k new (λ j spec g. had (suc j) spec g) order most h)

lengths-step : (b : Bool) (file wide : FileSpec) (files rest : List FileSpec) (place : ℕ) → length files ≤ length rest → length rest ≤ suc (length files) → place < length rest → (cond b 0 (suc place) < length (cond b (wide ∷ files) (file ∷ rest))) × (suc (length files) ≤ length (cond b (wide ∷ files) (file ∷ rest))) × (length (cond b (wide ∷ files) (file ∷ rest)) ≤ suc (suc (length files)))
lengths-step true file wide files rest place least most within = (omega arith, omega arith, omega arith)
lengths-step false file wide files rest place least most within = (omega arith, omega arith, omega arith)

-- the files are as many, or one more, and the clone's own is among them
pub lengths : (files : List FileSpec) (name : List ℕ) (low high : ℕ) → (file_place files name < length (with_file files name low high)) × (length files ≤ length (with_file files name low high)) × (length (with_file files name low high) ≤ suc (length files))
lengths [] name low high = (omega arith, omega arith, omega arith)
lengths (file ∷ files) name low high =
    let h = lengths files name low high in
    lengths-step (same_text file.name name) file (widened file low high) files (with_file files name low high) (file_place files name) h.1 h.2 h.0

-- a clone stays in its place where another's file is used
placed-before : (files : List FileSpec) (name : List ℕ) (low high i : ℕ) (job : SubJob) → IsPlaced files i job → IsPlaced (with_file files name low high) i job
placed-before files name low high i job h =
    let sizes = lengths files name low high in
    record {
      number = h.number;
      file = omega (arith, sizes.1, h.file);
      within = λ spec at.
          let w = wider files name low high job.file spec at h.file in
          let had = h.within w.old w.at in
          (omega (arith, w.low, had.0), omega (arith, w.high, had.1));
    }

end_of : SubJob → ℕ
end_of job = job.start + job.cells * job.cell

pub drafted-push : (clones : List SubJob) (files : List FileSpec) (job : SubJob) (name : List ℕ) (high : ℕ) → AreDrafted clones files → length clones < 64 → job.clone ≡ length clones → job.file ≡ file_place files name → high ≡ job.start + job.cells * job.cell → KeepsLimits job → work_of clones + job.cells * job.passes ≤ 1073741824 → AreDrafted (clones ++ job ∷ []) (with_file files name job.start high)
drafted-push clones files job name high h room number file ends_at limits work =
    let sizes = lengths files name job.start high in
    let one_more = length_push clones job in
    let new_file : IsPlaced (with_file files name job.start high) (length clones) job = record {
      number = number;
      file = omega (arith, sizes.0, file);
      within = λ spec at.
          let P : ℕ → Type 0 = λ p. slice_get (with_file files name job.start high) p ≡ Some spec in
          let mine = own files name job.start high spec (subst P file at) in
          (mine.0, omega (arith, mine.1, ends_at));
    } in
    record {
      clones_most = omega (arith, one_more);
      files_most = omega (arith, one_more, sizes.2, h.files_most);
      placed = λ i other at. elim (slice_get-push clones job i other at) [
        | inl before ↦ placed-before files name job.start high i other (h.placed i other before)
        | inr last ↦
            let P : ℕ → Type 0 = λ k. IsPlaced (with_file files name job.start high) k other in
            let Q : SubJob → Type 0 = IsPlaced (with_file files name job.start high) (length clones) in
            subst P (sym last.0) (subst Q last.1 new_file)
      ];
      limited = λ i other at. elim (slice_get-push clones job i other at) [
        | inl before ↦ h.limited i other before
        | inr last ↦ subst KeepsLimits last.1 limits
      ];
      ends = λ f spec at. ends files name job.start high f spec h.ends (omega (arith, ends_at)) (omega (arith, ends_at, limits.region)) at;
      work =
          let all = sum_by-append (λ (j : SubJob). j.cells * j.passes) clones (job ∷ []) in
          let one : work_of (job ∷ []) ≡ 0 + job.cells * job.passes = refl in
          omega (arith, all, one, work);
    }
