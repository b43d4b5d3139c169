-- What follows from the definitions of a set of cells.
use Rattle.std.proofs.Common.{◌≡◌, ℕ, zero, suc, ◌+◌, ◌-◌, ◌≤◌, Bool, true, false, not, cond, List, [], ◌∷◌, ◌++◌, Some, length, take, drop, replicate, get_or, refl, ap, sym, ◌∙◌, arith, length-append, length-drop}
use Rattle.std.specs.List.{prefix_len, slice_get}
use Rattle.std.proofs.lemmas.Bool.{not-true}
use Rattle.std.proofs.lemmas.List.{length-take, length-replicate, take-append-drop, drop-drop}
use Rattle.std.proofs.lemmas.List.Sums.{prefix_len-le-length, sum_by-append}
use Rattle.std.proofs.lemmas.List.Folds.{sum_by-replicate}
use Rattle.std.proofs.lemmas.List.Quantifiers.{position-Some}
use Rattle.std.proofs.lemmas.Option.{slice_get-get_or}
use Rattle.jr_model.specs.CellSet.{first_free, free_run, with_cells, free_count}

-- a cell of what is left of a list
pub slice_get-drop : (xs : List Bool) (n k : ℕ) → slice_get (drop n xs) k ≡ slice_get xs (n + k)
slice_get-drop xs zero k = ap (slice_get xs) (omega arith)
slice_get-drop [] (suc n) k = refl
slice_get-drop (x ∷ xs) (suc n) k =
    let e : suc n + k ≡ suc (n + k) = omega arith in
    slice_get-drop xs n k ∙ ap (slice_get (x ∷ xs)) (sym e)

-- the first free cell is free
pub free-first_free : (xs : List Bool) (k : ℕ) → first_free xs ≡ Some k → slice_get xs k ≡ Some false
free-first_free xs k h =
    let p = position-Some not xs k false h in
    slice_get-get_or xs k false p.0 ∙ ap Some (not-true (get_or xs k false) p.1)

-- so is the first one from r on
pub free-first_free-drop : (xs : List Bool) (r k : ℕ) → first_free (drop r xs) ≡ Some k → slice_get xs (r + k) ≡ Some false
free-first_free-drop xs r k h = sym (slice_get-drop xs r k) ∙ free-first_free (drop r xs) k h

-- cells that are free without a gap at the front are so many flags that are false
pub front-free : (xs : List Bool) (m : ℕ) → m ≤ prefix_len not xs → xs ≡ replicate m false ++ drop m xs
front-free xs zero h = refl
front-free [] (suc m) h = absurd (omega arith)
front-free (true ∷ xs) (suc m) h = absurd (omega arith)
front-free (false ∷ xs) (suc m) h = ap (λ (ys : List Bool). false ∷ ys) (front-free xs m (omega arith))

-- how many cells of two lists are free
pub free_count-append : (xs ys : List Bool) → free_count (xs ++ ys) ≡ free_count xs + free_count ys
free_count-append xs ys = sum_by-append _ xs ys

-- none of the taken ones is
pub free_count-taken : (m : ℕ) → free_count (replicate m true) ≡ 0
free_count-taken m = omega (arith, sum_by-replicate (λ (x : Bool). cond (not x) 1 0) m true)

-- so many of them are counted as free
pub free_count-front : (xs : List Bool) (m : ℕ) → m ≤ prefix_len not xs → free_count xs ≡ m + free_count (drop m xs)
free_count-front xs m h =
    let free : free_count (replicate m false) ≡ m = omega (arith, sum_by-replicate (λ (x : Bool). cond (not x) 1 0) m false) in
    ap free_count (front-free xs m h) ∙ free_count-append (replicate m false) (drop m xs) ∙ ap (λ (n : ℕ). n + free_count (drop m xs)) free

-- taking m free cells leaves m fewer free
pub free_count-with_cells : (xs : List Bool) (x m : ℕ) → free_run xs x m ≡ m → free_count (with_cells xs x m) + m ≡ free_count xs
free_count-with_cells xs x m h =
    let front : m ≤ prefix_len not (drop x xs) = omega arith in
    let before : free_count xs ≡ free_count (take x xs) + free_count (drop x xs) =
    ap free_count (sym (take-append-drop x xs)) ∙ free_count-append (take x xs) (drop x xs) in
    let here : free_count (drop x xs) ≡ m + free_count (drop (x + m) xs) =
    free_count-front (drop x xs) m front ∙ ap (λ (ys : List Bool). m + free_count ys) (drop-drop m x xs) in
    let after : free_count (with_cells xs x m) ≡ free_count (take x xs) + free_count (replicate m true) + free_count (drop (x + m) xs) =
    free_count-append (take x xs ++ replicate m true) (drop (x + m) xs) ∙ ap (λ (n : ℕ). n + free_count (drop (x + m) xs)) (free_count-append (take x xs) (replicate m true)) in
    omega (arith, before, here, after, free_count-taken m)

-- a free run lies within the cells
pub free_run-within : (xs : List Bool) (x m : ℕ) → free_run xs x m ≡ m → m ≤ length xs - x
free_run-within xs x m h = omega (arith, prefix_len-le-length not (drop x xs), length-drop x xs)

-- taking free cells keeps how many cells there are
pub length-with_cells : (xs : List Bool) (x m : ℕ) → free_run xs x m ≡ m → length (with_cells xs x m) ≡ length xs
length-with_cells xs x m h =
    let w = free_run-within xs x m h in
    omega (arith, length-append (take x xs ++ replicate m true) (drop (x + m) xs), length-append (take x xs) (replicate m true), length-take x xs, length-replicate m true, length-drop (x + m) xs)
