-- How the list of files grows with its clones.
use Rattle.std.proofs.Common.{◌≡◌, ℕ, suc, ◌<◌, ◌≤◌, Bool, true, false, cond, List, [], ◌∷◌, ◌++◌, length, slice_index_or, slice_set, ap, ◌∙◌, sym, subst, arith, refl}
use Rattle.jr_model.specs.Plan.{FileSpec}
use Rattle.jr_plan.specs.Files.{same_text}
use Rattle.jr_plan.specs.Files.{file_place, with_file, widened}

found-step : (b : Bool) (f file new : FileSpec) (fs rest : List FileSpec) (place low high : ℕ) → cond b 0 (suc place) < suc (length fs) → file ≡ slice_index_or (f ∷ fs) (cond b 0 (suc place)) file → new ≡ widened file low high → (place < length fs → file ≡ slice_index_or fs place file → slice_set fs place new ≡ rest) → slice_set (f ∷ fs) (cond b 0 (suc place)) new ≡ cond b (widened f low high ∷ fs) (f ∷ rest)
found-step true f file new fs rest place low high within at is more =
    let e : new ≡ widened f low high = is ∙ ap (λ (x : FileSpec). widened x low high) at in
    ap (λ (x : FileSpec). x ∷ fs) e
found-step false f file new fs rest place low high within at is more = ap (λ (xs : List FileSpec). f ∷ xs) (more (omega arith) at)

-- a file that is there is widened in its place
pub with_file-found : (files : List FileSpec) (name : List ℕ) (low high : ℕ) (file new : FileSpec) → file_place files name < length files → file ≡ slice_index_or files (file_place files name) file → new ≡ widened file low high → slice_set files (file_place files name) new ≡ with_file files name low high
with_file-found [] name low high file new within at is = absurd (omega arith)
with_file-found (f ∷ fs) name low high file new within at is =
    found-step (same_text f.name name) f file new fs (with_file fs name low high) (file_place fs name) low high within at is (λ w a. with_file-found fs name low high file new w a is)

new-step : (b : Bool) (f : FileSpec) (fs rest new : List FileSpec) (place low high : ℕ) → suc (length fs) ≤ cond b 0 (suc place) → (length fs ≤ place → fs ++ new ≡ rest) → (f ∷ fs) ++ new ≡ cond b (widened f low high ∷ fs) (f ∷ rest)
new-step true f fs rest new place low high past more = absurd (omega arith)
new-step false f fs rest new place low high past more = ap (λ (xs : List FileSpec). f ∷ xs) (more (omega arith))

-- a new one comes behind all
pub with_file-new : (files : List FileSpec) (name : List ℕ) (low high : ℕ) → length files ≤ file_place files name → files ++ (record { name = name; low = low; high = high } ∷ []) ≡ with_file files name low high
with_file-new [] name low high past = refl
with_file-new (f ∷ fs) name low high past =
    new-step (same_text f.name name) f fs (with_file fs name low high) (record { name = name; low = low; high = high } ∷ []) (file_place fs name) low high past (λ p. with_file-new fs name low high p)

-- the same for a place that was looked up
pub with_file-at : (files : List FileSpec) (name : List ℕ) (low high : ℕ) (file new : FileSpec) (place : ℕ) → place ≡ file_place files name → place < length files → file ≡ slice_index_or files place file → new ≡ widened file low high → slice_set files place new ≡ with_file files name low high
with_file-at files name low high file new place looked within at is =
    let P : ℕ → Type 0 = λ p. p < length files → file ≡ slice_index_or files p file → slice_set files p new ≡ with_file files name low high in
    subst P (sym looked) (λ w a. with_file-found files name low high file new w a is) within at
