-- With a map, the draws of a pass share no byte and have each cell.
use Rattle.std.proofs.Common.{◌≡◌, ℕ, suc, ◌+◌, ◌-◌, ◌*◌, ◌<◌, ◌≤◌, ◌==◌, ◌⊎◌, min, max, nat_lt, Bool, true, false, not, cond, List, [], ◌∷◌, ◌++◌, Some, None, is_none, length, get_or, take, drop, replicate, refl, ap, sym, subst, ◌∙◌, inl, inr, arith}
use Rattle.std.specs.List.{All, AllPairs, Any, position_or_len}
use Rattle.std.proofs.lemmas.Bool.{cases_Bool, cases_lt, and_right, le-ltb, lt-ltb, not-true, not-false}
use Rattle.std.proofs.lemmas.List.{length-take, length-replicate, length-append, get_or-drop, get_or_past, get_or-replicate, get_or_append_left, get_or-append_right, get_or-take}
use Rattle.std.proofs.lemmas.List.Sums.{prefix_len_passes, fails_before_first}
use Rattle.std.proofs.lemmas.List.Elements.{All-cons}
use Rattle.std.proofs.lemmas.List.Kept.{AllPairs-cons}
use Rattle.std.proofs.lemmas.Nat.{mul-le}
use Rattle.jr_model.specs.declared.blocks.Piece.{Piece}
use Rattle.jr_model.specs.declared.workloads.Draw.{Draw}
use Rattle.jr_model.specs.CellSet.{first_free, free_run, with_cells}
use Rattle.jr_model.specs.Draws.{mapped, PassProgress, cells_left, pass_over, progress_after, chosen_cells, cell_piece, draw_at, draws_from, by_direction}
use Rattle.jr_model.specs.Pieces.{pieces_overlap, piece_end}
use Rattle.jr_model.specs.Plan.{SubJob}
use Rattle.jr_laws_draws.specs.DrawFacts.{IsSound}
use Rattle.jr_laws_draws.specs.PassLaw.{HasCell}
use Rattle.jr_laws_draws.proofs.DrawnCellsLaws.{drawn_cells_fit, sound_after}
use Rattle.jr_laws_draws.proofs.DrawLaws.{draws_from-over, draws_from-next}
use Rattle.jr_laws_draws.proofs.PassLaws.{left-after, over-none_left}

-- a cell of the set with m cells more is one of them, or as it was
with_cells-inside : (taken : List Bool) (x m j : ℕ) → x + m ≤ length taken → x ≤ j → j < x + m → get_or (with_cells taken x m) j true ≡ true
with_cells-inside taken x m j within low high =
    let front : length (take x taken) ≡ x = omega (arith, length-take x taken) in
    let len : length (take x taken ++ replicate m true) ≡ x + m = omega (arith, length-append (take x taken) (replicate m true), front, length-replicate m true) in
    get_or_append_left (take x taken ++ replicate m true) (drop (x + m) taken) true j (omega (arith, len))
    ∙ get_or-append_right (take x taken) (replicate m true) x j true front low
    ∙ get_or-replicate m (j - x) true true (omega arith)

with_cells-before : (taken : List Bool) (x m j : ℕ) → x + m ≤ length taken → j < x → get_or (with_cells taken x m) j true ≡ get_or taken j true
with_cells-before taken x m j within low =
    let front : length (take x taken) ≡ x = omega (arith, length-take x taken) in
    let len : length (take x taken ++ replicate m true) ≡ x + m = omega (arith, length-append (take x taken) (replicate m true), front, length-replicate m true) in
    get_or_append_left (take x taken ++ replicate m true) (drop (x + m) taken) true j (omega (arith, len))
    ∙ get_or_append_left (take x taken) (replicate m true) true j (omega (arith, front))
    ∙ get_or-take x taken j true low

with_cells-past : (taken : List Bool) (x m j : ℕ) → x + m ≤ length taken → x + m ≤ j → get_or (with_cells taken x m) j true ≡ get_or taken j true
with_cells-past taken x m j within high =
    let front : length (take x taken) ≡ x = omega (arith, length-take x taken) in
    let len : length (take x taken ++ replicate m true) ≡ x + m = omega (arith, length-append (take x taken) (replicate m true), front, length-replicate m true) in
    let e : x + m + (j - (x + m)) ≡ j = omega arith in
    get_or-append_right (take x taken ++ replicate m true) (drop (x + m) taken) (x + m) j true len high
    ∙ get_or-drop (x + m) taken (j - (x + m)) true
    ∙ ap (λ (k : ℕ). get_or taken k true) e

-- a cell lies before the m cells from x on, past them, or among them
place_of : (x m j : ℕ) → ((j < x) ⊎ (x + m ≤ j)) ⊎ ((x ≤ j) × (j < x + m))
place_of x m j =
    elim (cases_lt j x) [
      | inl before ↦ inl (inl before)
      | inr from ↦ elim (cases_lt j (x + m)) [ inl inside ↦ inr (from, inside) | inr past ↦ inl (inr past) ]
    ]

-- what is free once they are taken was free, and lies apart from them
still_free : (taken : List Bool) (x m j : ℕ) → x + m ≤ length taken → get_or (with_cells taken x m) j true ≡ false → (get_or taken j true ≡ false) × ((j < x) ⊎ (x + m ≤ j))
still_free taken x m j within free =
    elim (place_of x m j) [
      | inl apart ↦ elim apart [
        | inl before ↦ (sym (with_cells-before taken x m j within before) ∙ free, inl before)
        | inr past ↦ (sym (with_cells-past taken x m j within past) ∙ free, inr past)
      ]
      | inr among ↦ let t = with_cells-inside taken x m j within among.0 among.1 in cc
    ]

-- what was free and lies apart from them stays free
stays_free : (taken : List Bool) (x m j : ℕ) → x + m ≤ length taken → get_or taken j true ≡ false → (j < x) ⊎ (x + m ≤ j) → get_or (with_cells taken x m) j true ≡ false
stays_free taken x m j within free (inl before) = with_cells-before taken x m j within before ∙ free
stays_free taken x m j within free (inr past) = with_cells-past taken x m j within past ∙ free

-- the cells of a free run are free
run_free : (taken : List Bool) (x m j : ℕ) → free_run taken x m ≡ m → x ≤ j → j < x + m → get_or taken j true ≡ false
run_free taken x m j h low high =
    let e : x + (j - x) ≡ j = omega arith in
    ap (λ (k : ℕ). get_or taken k true) (sym e)
    ∙ sym (get_or-drop x taken (j - x) true)
    ∙ not-true (get_or (drop x taken) (j - x) true) (prefix_len_passes not (drop x taken) (j - x) true (omega arith))

-- where no cell is free, each flag is true
none_free : (taken : List Bool) (j : ℕ) → is_none (first_free taken) ≡ true → get_or taken j true ≡ true
none_free taken j h =
    let place = position_or_len not taken in
    let tested = λ (b : Bool). is_none (cond b (Some place) None) in
    elim (cases_lt place (length taken)) [
      | inl below ↦ let some : is_none (first_free taken) ≡ false = ap tested (lt-ltb place (length taken) below) in cc
      | inr past ↦ elim (cases_lt j (length taken)) [
        | inl here ↦ not-false (get_or taken j true) (fails_before_first not taken j true (omega arith))
        | inr beyond ↦ get_or_past taken j true beyond
      ]
    ]

-- ranges of cells that share none are one before the other
one_side : (x m : ℕ) → 1 ≤ m → (x < x) ⊎ (x + m ≤ x) → ⊥
one_side x m some (inl h) = omega arith
one_side x m some (inr h) = omega arith

past_it : (x m y : ℕ) → x ≤ y → (y < x) ⊎ (x + m ≤ y) → x + m ≤ y
past_it x m y h (inl before) = absurd (omega arith)
past_it x m y h (inr past) = past

apart_ranges : (x m y n : ℕ) → 1 ≤ m → 1 ≤ n → ((j : ℕ) → y ≤ j → j < y + n → (j < x) ⊎ (x + m ≤ j)) → (x + m ≤ y) ⊎ (y + n ≤ x)
apart_ranges x m y n some some' h =
    elim (cases_lt y x) [
      | inl before ↦ elim (cases_lt x (y + n)) [
        | inl among ↦ absurd (one_side x m some (h x (omega arith) among))
        | inr past ↦ inr past
      ]
      | inr from ↦ inl (past_it x m y from (h y (omega arith) (omega arith)))
    ]

-- and their pieces share no byte
apart_pieces : (job : SubJob) (x m y n : ℕ) → (x + m ≤ y) ⊎ (y + n ≤ x) → pieces_overlap (cell_piece job x m) (cell_piece job y n) ≡ false
apart_pieces job x m y n h =
    let a = cell_piece job x m in
    let b = cell_piece job y n in
    let start = max a.offset b.offset in
    let end = min (piece_end a) (piece_end b) in
    let apart : end ≤ start = elim h [
      | inl before ↦ omega (arith, mul-le (x + m) job.cell y job.cell before (omega arith))
      | inr past ↦ omega (arith, mul-le (y + n) job.cell x job.cell past (omega arith))
    ] in
    and_right (a.file == b.file) (nat_lt start end) (le-ltb start end apart)

-- a piece of cells that are free
record FreePiece (job : SubJob) (taken : List Bool) (p : Piece) : Type 0 where
  first : ℕ
  count : ℕ
  is : p ≡ cell_piece job first count
  some : 1 ≤ count
  free : (j : ℕ) → first ≤ j → j < first + count → get_or taken j true ≡ false

-- a pass with this map
abbrev on : ℕ → List Bool → ℕ → ℕ → PassProgress
on number taken reads writes = record { number = number; places = mapped taken; reads = reads; writes = writes }

-- all draws take free cells
draws_free : (job : SubJob) (words : List ℕ) (number : ℕ) (taken : List Bool) (reads writes : ℕ) → IsSound job (on number taken reads writes) → All (λ (d : Draw). FreePiece job taken d.piece) (draws_from job (on number taken reads writes) words)
draws_free job [] number taken reads writes sound = λ k d below. absurd (omega arith)
draws_free job (a ∷ []) number taken reads writes sound = λ k d below. absurd (omega arith)
draws_free job (a ∷ b ∷ []) number taken reads writes sound = λ k d below. absurd (omega arith)
draws_free job (a ∷ b ∷ c ∷ []) number taken reads writes sound = λ k d below. absurd (omega arith)
draws_free job (a ∷ b ∷ c ∷ seed ∷ words) number taken reads writes sound =
    let done = on number taken reads writes in
    let choice = chosen_cells job done a b c in
    let P : Draw → Type 0 = λ d. FreePiece job taken d.piece in
    elim (cases_Bool (pass_over job done)) [
      | inl over ↦ subst (All P) (sym (draws_from-over job done (a ∷ b ∷ c ∷ seed ∷ words) over)) (λ k d below. absurd (omega arith))
      | inr unfinished ↦
          let fits = drawn_cells_fit job done a b c sound unfinished in
          let within : choice.first + choice.count ≤ length taken = omega (arith, fits.within, sound.places.0) in
          let rest = draws_free job words (suc number) (with_cells taken choice.first choice.count) (reads + by_direction choice.dir choice.count 0) (writes + by_direction choice.dir 0 choice.count) (sound_after job done choice sound fits) in
          let here : P (draw_at job done choice seed) = record {
            first = choice.first;
            count = choice.count;
            is = refl;
            some = fits.some;
            free = λ j low high. run_free taken choice.first choice.count j fits.free low high;
          } in
          let later : All P (draws_from job (progress_after done choice) words) = λ k d below.
          let p = rest k d below in
          record {
            first = p.first;
            count = p.count;
            is = p.is;
            some = p.some;
            free = λ j low high. (still_free taken choice.first choice.count j within (p.free j low high)).0;
          } in
          subst (All P) (sym (draws_from-next job done a b c seed words unfinished)) (All-cons P (draw_at job done choice seed) (draws_from job (progress_after done choice) words) here later)
    ]

-- no two draws share a byte
apart_from : (job : SubJob) (x m : ℕ) (taken : List Bool) (p : Piece) → x + m ≤ length taken → 1 ≤ m → FreePiece job (with_cells taken x m) p → pieces_overlap (cell_piece job x m) p ≡ false
apart_from job x m taken p within some free =
    let sides = apart_ranges x m free.first free.count some free.some (λ j low high. (still_free taken x m j within (free.free j low high)).1) in
    ap (pieces_overlap (cell_piece job x m)) free.is ∙ apart_pieces job x m free.first free.count sides

pub disjoint_from : (job : SubJob) (words : List ℕ) (number : ℕ) (taken : List Bool) (reads writes : ℕ) → IsSound job (on number taken reads writes) → AllPairs (λ (a : Draw). λ (b : Draw). pieces_overlap a.piece b.piece ≡ false) (draws_from job (on number taken reads writes) words)
disjoint_from job [] number taken reads writes sound = λ i j d low below. absurd (omega arith)
disjoint_from job (a ∷ []) number taken reads writes sound = λ i j d low below. absurd (omega arith)
disjoint_from job (a ∷ b ∷ []) number taken reads writes sound = λ i j d low below. absurd (omega arith)
disjoint_from job (a ∷ b ∷ c ∷ []) number taken reads writes sound = λ i j d low below. absurd (omega arith)
disjoint_from job (a ∷ b ∷ c ∷ seed ∷ words) number taken reads writes sound =
    let done = on number taken reads writes in
    let choice = chosen_cells job done a b c in
    let R : Draw → Draw → Type 0 = λ e f. pieces_overlap e.piece f.piece ≡ false in
    elim (cases_Bool (pass_over job done)) [
      | inl over ↦ subst (AllPairs R) (sym (draws_from-over job done (a ∷ b ∷ c ∷ seed ∷ words) over)) (λ i j d low below. absurd (omega arith))
      | inr unfinished ↦
          let fits = drawn_cells_fit job done a b c sound unfinished in
          let within : choice.first + choice.count ≤ length taken = omega (arith, fits.within, sound.places.0) in
          let sound' = sound_after job done choice sound fits in
          let left = with_cells taken choice.first choice.count in
          let reads' = reads + by_direction choice.dir choice.count 0 in
          let writes' = writes + by_direction choice.dir 0 choice.count in
          let rest = disjoint_from job words (suc number) left reads' writes' sound' in
          let free = draws_free job words (suc number) left reads' writes' sound' in
          let here : All (R (draw_at job done choice seed)) (draws_from job (progress_after done choice) words) = λ k d below.
          apart_from job choice.first choice.count taken _ within fits.some (free k d below) in
          subst (AllPairs R) (sym (draws_from-next job done a b c seed words unfinished)) (AllPairs-cons R (draw_at job done choice seed) (draws_from job (progress_after done choice) words) here rest)
    ]

-- some draw has a cell: the first, or one after it
any_here : (P : Draw → Type 0) (d : Draw) (ds : List Draw) → P d → Any P (d ∷ ds)
any_here P d ds h = (0, d, omega arith, refl, h)

any_later : (P : Draw → Type 0) (d : Draw) (ds : List Draw) → Any P ds → Any P (d ∷ ds)
any_later P d ds h = (suc h.0, h.1, omega (arith, h.2), h.3, h.4)

-- each free cell is in some draw
has_it : (job : SubJob) (x m j : ℕ) → x ≤ j → j < x + m → HasCell job j (cell_piece job x m)
has_it job x m j low high = record {
  file = refl;
  low = omega (arith, mul-le x job.cell j job.cell low (omega arith));
  high = omega (arith, mul-le (suc j) job.cell (x + m) job.cell high (omega arith));
}

none_short : (job : SubJob) (words : List ℕ) (number : ℕ) (taken : List Bool) (reads writes j : ℕ) → IsSound job (on number taken reads writes) → cells_left job (on number taken reads writes) ≡ 0 → get_or taken j true ≡ false → Any (λ (d : Draw). HasCell job j d.piece) (draws_from job (on number taken reads writes) words)
none_short job words number taken reads writes j sound none free =
    let over = none_free taken j (over-none_left (mapped taken) job.cells (reads + writes) sound.places none) in
    cc

pub whole_from : (job : SubJob) (words : List ℕ) (number : ℕ) (taken : List Bool) (reads writes : ℕ) → IsSound job (on number taken reads writes) → 4 * cells_left job (on number taken reads writes) ≤ length words → (j : ℕ) → get_or taken j true ≡ false → Any (λ (d : Draw). HasCell job j d.piece) (draws_from job (on number taken reads writes) words)
whole_from job [] number taken reads writes sound enough j free = none_short job [] number taken reads writes j sound (omega arith) free
whole_from job (a ∷ []) number taken reads writes sound enough j free = none_short job (a ∷ []) number taken reads writes j sound (omega arith) free
whole_from job (a ∷ b ∷ []) number taken reads writes sound enough j free = none_short job (a ∷ b ∷ []) number taken reads writes j sound (omega arith) free
whole_from job (a ∷ b ∷ c ∷ []) number taken reads writes sound enough j free = none_short job (a ∷ b ∷ c ∷ []) number taken reads writes j sound (omega arith) free
whole_from job (a ∷ b ∷ c ∷ seed ∷ words) number taken reads writes sound enough j free =
    let done = on number taken reads writes in
    let choice = chosen_cells job done a b c in
    let P : Draw → Type 0 = λ d. HasCell job j d.piece in
    elim (cases_Bool (pass_over job done)) [
      | inl over ↦ let taken' = none_free taken j over in cc
      | inr unfinished ↦
          let fits = drawn_cells_fit job done a b c sound unfinished in
          let within : choice.first + choice.count ≤ length taken = omega (arith, fits.within, sound.places.0) in
          let sound' = sound_after job done choice sound fits in
          let first = draw_at job done choice seed in
          let rest = draws_from job (progress_after done choice) words in
          subst (Any P) (sym (draws_from-next job done a b c seed words unfinished))
          (elim (place_of choice.first choice.count j) [
            | inl apart ↦ any_later P first rest (whole_from job words (suc number) (with_cells taken choice.first choice.count) (reads + by_direction choice.dir choice.count 0) (writes + by_direction choice.dir 0 choice.count) sound' (omega (arith, enough, fits.some, left-after job done choice fits)) j (stays_free taken choice.first choice.count j within free apart))
            | inr among ↦ any_here P first rest (has_it job choice.first choice.count j among.0 among.1)
          ])
    ]
