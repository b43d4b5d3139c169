-- What the bits of the lowest level say of the flags of the cells.
use Rattle.std.proofs.Common.{◌≡◌, ℕ, ◌+◌, ◌-◌, ◌<◌, ◌≤◌, min, Bool, true, false, not, cond, List, ◌++◌, Option, Some, None, length, get_or, take, drop, replicate, sym, ap, ◌∙◌, inl, inr, arith, length-append, length-drop, ltb}
use Rattle.std.specs.List.{slice_get, prefix_len, position_or_len}
use Rattle.std.specs.Option.{option_map, option_or}
use Rattle.std.proofs.lemmas.Bool.{cases_lt, false≢true, lt-ltb, le-ltb, cond-true, cond-false}
use Rattle.std.proofs.lemmas.List.{length-take, length-replicate, get_or-replicate, get_or-take, get_or-drop, get_or_append_left, get_or-append_right, get_or_past, same_lists}
use Rattle.std.proofs.lemmas.List.FromFn.{length-map-range_with_len, get_or-map-range_with_len}
use Rattle.std.proofs.lemmas.List.Folds.{sum_by-replicate}
use Rattle.std.proofs.lemmas.List.Sums.{position_or_len_is, prefix_len_is, prefix_len_stops}
use Rattle.std.proofs.lemmas.Option.{slice_get-get_or, slice_get_within, get_or_from_slice_get}
use Rattle.jr_model.specs.CellSet.{first_free, free_cell_from, free_run, with_cells, no_cells, free_count}
use Rattle.jr_map.specs.Words.{is_set, Adds, IsSetFrom, IsLeastClear, AllSet, IsClearRun}
use Rattle.jr_map.specs.Levels.{flags_of, MarksCells}
use Rattle.jr_model.proofs.CellFacts.{free_run-within, length-with_cells}

pub length-flags_of : (ws : List ℕ) (n : ℕ) → length (flags_of ws n) ≡ n
unfolding flags_of
length-flags_of ws n = length-map-range_with_len (is_set ws) 0 n

pub get_or-flags_of : (ws : List ℕ) (n k : ℕ) (d : Bool) → k < n → get_or (flags_of ws n) k d ≡ is_set ws k
unfolding flags_of
get_or-flags_of ws n k d h = get_or-map-range_with_len (is_set ws) 0 n k k d h (omega arith)

-- ---- bits beyond the cells

pub marked_beyond : (ws : List ℕ) (n : ℕ) → MarksCells ws (flags_of ws n) → (p : ℕ) → n ≤ p → is_set ws p ≡ true
marked_beyond ws n marked p past = marked.each p ∙ get_or_past (flags_of ws n) p true (omega (arith, length-flags_of ws n))

pub MarksCells-beyond : (ws : List ℕ) (n : ℕ) → ((p : ℕ) → n ≤ p → is_set ws p ≡ true) → MarksCells ws (flags_of ws n)
MarksCells-beyond ws n beyond =
    record {
      each = λ p.
          elim (cases_lt p n) [
            | inl lt ↦ sym (get_or-flags_of ws n p true lt)
            | inr past ↦ beyond p past ∙ sym (get_or_past (flags_of ws n) p true (omega (arith, length-flags_of ws n)))
          ];
    }

-- a clear bit is a cell
pub clear_is_cell : (ws : List ℕ) (n : ℕ) → MarksCells ws (flags_of ws n) → (p : ℕ) → is_set ws p ≡ false → p < n
clear_is_cell ws n marked p clear =
    elim (cases_lt p n) [
      | inl lt ↦ lt
      | inr past ↦ absurd (false≢true (sym clear ∙ marked_beyond ws n marked p past))
    ]

-- a cell is free where its bit is clear
pub free_from_clear : (ws : List ℕ) (n : ℕ) → MarksCells ws (flags_of ws n) → (p : ℕ) → is_set ws p ≡ false → slice_get (flags_of ws n) p ≡ Some false
free_from_clear ws n marked p clear =
    let within = clear_is_cell ws n marked p clear in
    slice_get-get_or (flags_of ws n) p true (omega (arith, length-flags_of ws n)) ∙ ap Some (get_or-flags_of ws n p true within ∙ clear)

pub clear_from_free : (ws : List ℕ) (n p : ℕ) → slice_get (flags_of ws n) p ≡ Some false → is_set ws p ≡ false
clear_from_free ws n p free =
    let within : p < n = omega (arith, slice_get_within (flags_of ws n) p false free, length-flags_of ws n) in
    sym (get_or-flags_of ws n p true within) ∙ get_or_from_slice_get (flags_of ws n) p false true free

-- ---- the first free cell

first_free_at : (xs : List Bool) (i : ℕ) → i < length xs → get_or xs i true ≡ false → ((k : ℕ) → k < i → get_or xs k true ≡ true) → first_free xs ≡ Some i
first_free_at xs i within free taken =
    let place : position_or_len not xs ≡ i = position_or_len_is not xs i true (omega arith) (λ k lt. ap not (taken k lt)) (λ _. ap not free) in
    ap (λ (n : ℕ). cond (ltb n (length xs)) (Some n) None) place ∙ cond-true _ _ _ (lt-ltb i (length xs) within)

first_free_none : (xs : List Bool) → ((k : ℕ) → k < length xs → get_or xs k true ≡ true) → first_free xs ≡ None
first_free_none xs taken =
    let place : position_or_len not xs ≡ length xs = position_or_len_is not xs (length xs) true (omega arith) (λ k lt. ap not (taken k lt)) (λ lt. absurd (omega arith)) in
    ap (λ (n : ℕ). cond (ltb n (length xs)) (Some n) None) place ∙ cond-false _ _ _ (le-ltb (length xs) (length xs) (omega arith))

-- a free cell from r on
pub picked_from : (ws : List ℕ) (n r x : ℕ) → MarksCells ws (flags_of ws n) → IsLeastClear ws r x → free_cell_from (flags_of ws n) r ≡ Some x
picked_from ws n r x marked least =
    let within = clear_is_cell ws n marked x least.clear in
    let start = least.start in
    let place : r + (x - r) ≡ x = omega arith in
    let first : first_free (drop r (flags_of ws n)) ≡ Some (x - r) =
    first_free_at (drop r (flags_of ws n)) (x - r) (omega (arith, length-drop r (flags_of ws n), length-flags_of ws n))
    (get_or-drop r (flags_of ws n) (x - r) true ∙ ap (λ (k : ℕ). get_or (flags_of ws n) k true) place ∙ get_or-flags_of ws n x true within ∙ least.clear)
    (λ k lt. get_or-drop r (flags_of ws n) k true ∙ get_or-flags_of ws n (r + k) true (omega arith) ∙ least.set (r + k) (omega arith) (omega arith)) in
    ap (λ (o : Option ℕ). option_or (option_map (λ (k : ℕ). r + k) o) (first_free (flags_of ws n))) first ∙ ap Some place

none_from : (ws : List ℕ) (n r : ℕ) → AllSet ws r → first_free (drop r (flags_of ws n)) ≡ None
none_from ws n r all =
    first_free_none (drop r (flags_of ws n))
    (λ k lt.
    let within : r + k < n = omega (arith, length-drop r (flags_of ws n), length-flags_of ws n) in
    get_or-drop r (flags_of ws n) k true ∙ get_or-flags_of ws n (r + k) true within ∙ all.each (r + k) (omega arith))

-- none from r on, and one before
pub picked_before : (ws : List ℕ) (n r x : ℕ) → MarksCells ws (flags_of ws n) → AllSet ws r → IsLeastClear ws 0 x → free_cell_from (flags_of ws n) r ≡ Some x
picked_before ws n r x marked all least =
    let within = clear_is_cell ws n marked x least.clear in
    let first : first_free (flags_of ws n) ≡ Some x =
    first_free_at (flags_of ws n) x (omega (arith, length-flags_of ws n)) (get_or-flags_of ws n x true within ∙ least.clear)
    (λ k lt. get_or-flags_of ws n k true (omega arith) ∙ least.set k (omega arith) lt) in
    ap (λ (o : Option ℕ). option_or (option_map (λ (k : ℕ). r + k) o) (first_free (flags_of ws n))) (none_from ws n r all) ∙ first

-- none at all
pub picked_none : (ws : List ℕ) (n r : ℕ) → AllSet ws 0 → free_cell_from (flags_of ws n) r ≡ None
picked_none ws n r all =
    ap (λ (o : Option ℕ). option_or (option_map (λ (k : ℕ). r + k) o) (first_free (flags_of ws n))) (none_from ws n r (record { each = λ p le. all.each p (omega arith) })) ∙ none_from ws n 0 all

-- ---- free runs

at_least : (xs : List Bool) (n : ℕ) → n ≤ length xs → ((k : ℕ) → k < n → get_or xs k true ≡ false) → n ≤ prefix_len not xs
at_least xs n within free =
    elim (cases_lt (prefix_len not xs) n) [
      | inl fewer ↦ absurd (false≢true (sym (prefix_len_stops not xs true (omega arith)) ∙ ap not (free (prefix_len not xs) fewer)))
      | inr enough ↦ enough
    ]

run_flag : (ws : List ℕ) (n x k : ℕ) → x + k < n → get_or (drop x (flags_of ws n)) k true ≡ is_set ws (x + k)
run_flag ws n x k within = get_or-drop x (flags_of ws n) k true ∙ get_or-flags_of ws n (x + k) true within

pub run_is_free : (ws : List ℕ) (n x want m : ℕ) → MarksCells ws (flags_of ws n) → x < n → IsClearRun ws x want m → m ≡ free_run (flags_of ws n) x want
run_is_free ws n x want m marked start run =
    let most = run.most in
    let long : length (drop x (flags_of ws n)) ≡ n - x = omega (arith, length-drop x (flags_of ws n), length-flags_of ws n) in
    let within : m ≤ n - x =
    elim (cases_lt 0 m) [
      | inl some ↦ omega (arith, clear_is_cell ws n marked (x + (m - 1)) (run.clear (x + (m - 1)) (omega arith) (omega arith)))
      | inr none ↦ omega arith
    ] in
    let free = λ (k : ℕ) (lt : k < m). run_flag ws n x k (omega arith) ∙ run.clear (x + k) (omega arith) (omega arith) in
    elim (cases_lt m want) [
      | inl fewer ↦
          let end : prefix_len not (drop x (flags_of ws n)) ≡ m =
          prefix_len_is not (drop x (flags_of ws n)) m true (omega arith) (λ k lt. ap not (free k lt))
          (λ lt. ap not (run_flag ws n x m (omega arith) ∙ run.end fewer)) in
          omega (arith, end)
      | inr all ↦ omega (arith, at_least (drop x (flags_of ws n)) m (omega arith) free)
    ]

-- ---- cells that are taken

with_cells_past : (old : List ℕ) (n x m k : ℕ) (d : Bool) → k < n → x + m ≤ k → m ≤ n - x → get_or (drop (x + m) (flags_of old n)) (k - (min x n + m)) d ≡ is_set old k
with_cells_past old n x m k d inside past room =
    let place : x + m + (k - (min x n + m)) ≡ k = omega arith in
    get_or-drop (x + m) (flags_of old n) (k - (min x n + m)) d ∙ ap (λ (j : ℕ). get_or (flags_of old n) j d) place ∙ get_or-flags_of old n k d inside

with_cells_at : (old new : List ℕ) (n x m k : ℕ) (d : Bool) → Adds is_set old new x (x + m) → k < n → m ≤ n - x → get_or (with_cells (flags_of old n) x m) k d ≡ is_set new k
with_cells_at old new n x m k d adds inside room =
    let long = length-flags_of old n in
    let before : length (take x (flags_of old n)) ≡ min x n = length-take x (flags_of old n) ∙ ap (min x) long in
    let front : length (take x (flags_of old n) ++ replicate m true) ≡ min x n + m =
    omega (arith, length-append (take x (flags_of old n)) (replicate m true), before, length-replicate m true) in
    elim (cases_lt k x) [
      | inl lt ↦
          get_or_append_left (take x (flags_of old n) ++ replicate m true) (drop (x + m) (flags_of old n)) d k (omega arith)
          ∙ get_or_append_left (take x (flags_of old n)) (replicate m true) d k (omega arith)
          ∙ get_or-take x (flags_of old n) k d lt ∙ get_or-flags_of old n k d inside ∙ sym (adds.below k lt)
      | inr ge ↦
          elim (cases_lt k (x + m)) [
            | inl lt ↦
                get_or_append_left (take x (flags_of old n) ++ replicate m true) (drop (x + m) (flags_of old n)) d k (omega arith)
                ∙ get_or-append_right (take x (flags_of old n)) (replicate m true) x k d (omega arith) ge
                ∙ get_or-replicate m (k - x) true d (omega arith) ∙ sym (adds.inside k ge lt)
            | inr past ↦
                get_or-append_right (take x (flags_of old n) ++ replicate m true) (drop (x + m) (flags_of old n)) (min x n + m) k d front (omega arith)
                ∙ with_cells_past old n x m k d inside past room ∙ sym (adds.above k past)
          ]
    ]

pub taken_flags : (old new : List ℕ) (n x m : ℕ) → Adds is_set old new x (x + m) → free_run (flags_of old n) x m ≡ m → flags_of new n ≡ with_cells (flags_of old n) x m
taken_flags old new n x m adds free =
    let long = length-flags_of old n in
    let room : m ≤ n - x = omega (arith, free_run-within (flags_of old n) x m free, long) in
    same_lists (flags_of new n) (with_cells (flags_of old n) x m)
    (length-flags_of new n ∙ sym (length-with_cells (flags_of old n) x m free ∙ long))
    (λ k d lt.
    let inside : k < n = omega (arith, length-flags_of new n) in
    get_or-flags_of new n k d inside ∙ sym (with_cells_at old new n x m k d adds inside room))

-- ---- maps with all cells free

pub clear_flags : (ws : List ℕ) (n : ℕ) → IsSetFrom n ws → flags_of ws n ≡ no_cells n
clear_flags ws n clear =
    same_lists (flags_of ws n) (replicate n false) (length-flags_of ws n ∙ sym (length-replicate n false))
    (λ k d lt.
    let inside : k < n = omega (arith, length-flags_of ws n) in
    get_or-flags_of ws n k d inside ∙ clear.below k inside ∙ sym (get_or-replicate n k false d inside))

pub free_count-no_cells : (n : ℕ) → free_count (no_cells n) ≡ n
free_count-no_cells n = omega (arith, sum_by-replicate (λ (x : Bool). cond (not x) 1 0) n false)
