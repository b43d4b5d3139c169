-- Each draw of a sound pass is a choice of cells that fits, and leaves the pass sound.
use Rattle.std.proofs.Common.{◌≡◌, ℕ, ◌+◌, ◌-◌, ◌*◌, ◌/◌, ◌%◌, ◌<◌, ◌≤◌, ◌==◌, Bool, true, false, not, cond, nat_lt, List, [], ◌∷◌, Option, Some, None, unwrap_or, is_none, length, drop, refl, ap, sym, subst, ◌∙◌, inl, inr, arith}
use Rattle.std.specs.List.{prefix_len, position_or_len, slice_get}
use Rattle.std.specs.Option.{option_map, option_or}
use Rattle.std.proofs.lemmas.Bool.{cases_lt, lt-ltb, le-ltb, ne_eqb, eq-eqb, eqb-false}
use Rattle.std.proofs.lemmas.List.Sums.{sum_by-cons}
use Rattle.std.proofs.lemmas.Nat.{div-add-mod', le-div, mul-le}
use Rattle.std.proofs.lemmas.Option.{slice_get_within}
use Rattle.jr_model.specs.declared.blocks.Dir.{Dir}
use Rattle.jr_model.specs.declared.blocks.Dir.TheVariants.{Read, Write}
use Rattle.jr_model.specs.declared.workloads.IoType.{IoType}
use Rattle.jr_model.specs.declared.workloads.IoType.TheVariants as io
use Rattle.jr_model.specs.CellSet.{first_free, free_cell_from, free_run, free_count}
use Rattle.jr_model.specs.Draws.{Places, sequential, mapped, unmapped, PassProgress, DrawnCells, all_drawn, pass_over, first_cell, cell_count, places_after, progress_after, chosen_cells, direction_of, by_direction, size_at}
use Rattle.jr_model.specs.Plan.{SubJob}
use Rattle.jr_model.specs.PlanFacts.{has_reads, has_writes, SizesFit}
use Rattle.jr_model.proofs.CellFacts.{free-first_free, free-first_free-drop, slice_get-drop, free_run-within, free_count-with_cells, length-with_cells}
use Rattle.jr_laws_draws.specs.DrawFacts.{IsDrawable, PlacesFit, IsSound, AreFree, DrawnCellsFit}

-- where no flag is false, no cell is counted
full : (taken : List Bool) → length taken ≤ position_or_len not taken → free_count taken ≡ 0
full [] h = refl
full (false ∷ taken) h = absurd (omega arith)
full (true ∷ taken) h = full taken (omega arith)

-- where one is, some cell is counted
opened : (taken : List Bool) → position_or_len not taken < length taken → 1 ≤ free_count taken
opened [] h = absurd (omega arith)
opened (false ∷ taken) h =
    let e : free_count (false ∷ taken) ≡ 1 + free_count taken = sum_by-cons (λ (x : Bool). cond (not x) 1 0) false taken in
    omega (arith, e)
opened (true ∷ taken) h = opened taken (omega arith)

-- no cell is free exactly where none is counted
pub over-free_count : (taken : List Bool) → is_none (first_free taken) ≡ (free_count taken == 0)
over-free_count taken =
    let place = position_or_len not taken in
    let tested = λ (b : Bool). is_none (cond b (Some place) None) in
    elim (cases_lt place (length taken)) [
      | inl below ↦ ap tested (lt-ltb place (length taken) below) ∙ sym (ne_eqb (free_count taken) 0 (λ none. absurd (omega (arith, opened taken below, none))))
      | inr past ↦ ap tested (le-ltb place (length taken) past) ∙ sym (eq-eqb (free_count taken) 0 (full taken past))
    ]

-- the cell that a map gives is free
picked : (taken : List Bool) (r : ℕ) (after all : Option ℕ) → first_free (drop r taken) ≡ after → first_free taken ≡ all → is_none all ≡ false → slice_get taken (unwrap_or (option_or (option_map (λ k. r + k) after) all) 0) ≡ Some false
picked taken r (Some k) all a b h = free-first_free-drop taken r k a
picked taken r None (Some k) a b h = free-first_free taken k b
picked taken r None None a b h = cc

pub free-first_cell : (taken : List Bool) (r : ℕ) → is_none (first_free taken) ≡ false → slice_get taken (unwrap_or (free_cell_from taken r) 0) ≡ Some false
free-first_cell taken r h = picked taken r (first_free (drop r taken)) (first_free taken) refl refl h

-- a run from a free cell has that cell
front-some : (taken : List Bool) → slice_get taken 0 ≡ Some false → 1 ≤ prefix_len not taken
front-some [] h = cc
front-some (true ∷ taken) h = cc
front-some (false ∷ taken) h = omega arith

run-some : (taken : List Bool) (x want : ℕ) → slice_get taken x ≡ Some false → 1 ≤ want → 1 ≤ free_run taken x want
run-some taken x want free h =
    let e : x + 0 ≡ x = omega arith in
    let front = front-some (drop x taken) (slice_get-drop taken x 0 ∙ ap (slice_get taken) e ∙ free) in
    omega (arith, front)

-- what holds of the cells that a draw takes: m of them from cell x on
pub record CellsFit (places : Places) (cells drawn want x m : ℕ) : Type 0 where
  pub some : 1 ≤ m
  pub wanted : m ≤ want
  pub within : x + m ≤ cells
  pub left : m ≤ cells - drawn
  pub free : AreFree places x m

pub cells_fit : (places : Places) (cells drawn at want place : ℕ) → 1 ≤ cells → 1 ≤ want → at ≤ drawn → PlacesFit places cells drawn → all_drawn places (cells - drawn) ≡ false → CellsFit places cells drawn want (first_cell places cells at place) (cell_count places cells (cells - drawn) (first_cell places cells at place) want)
cells_fit sequential cells drawn at want place some wanted before fits unfinished =
    let left = eqb-false (cells - drawn) 0 unfinished in
    record {
      some = omega arith;
      wanted = omega arith;
      within = omega arith;
      left = omega arith;
      free = tt;
    }
cells_fit unmapped cells drawn at want place some wanted before fits unfinished =
    let left = eqb-false (cells - drawn) 0 unfinished in
    record {
      some = omega arith;
      wanted = omega arith;
      within = omega arith;
      left = omega arith;
      free = tt;
    }
cells_fit (mapped taken) cells drawn at want place some wanted before fits unfinished =
    let x = unwrap_or (free_cell_from taken (place % cells)) 0 in
    let m = free_run taken x want in
    let free = free-first_cell taken (place % cells) unfinished in
    let again : free_run taken x m ≡ m = omega arith in
    let inside : x < length taken = slice_get_within taken x false free in
    record {
      some = run-some taken x want free wanted;
      wanted = omega arith;
      within = omega (arith, free_run-within taken x m again, inside);
      left = omega (arith, free_count-with_cells taken x m again);
      free = again;
    }

-- after such a draw the places fit again
pub places_fit : (places : Places) (cells drawn x m : ℕ) → PlacesFit places cells drawn → m ≤ cells - drawn → AreFree places x m → PlacesFit (places_after places x m) cells (drawn + m)
places_fit sequential cells drawn x m fits left free = omega arith
places_fit unmapped cells drawn x m fits left free = omega arith
places_fit (mapped taken) cells drawn x m fits left free =
    (length-with_cells taken x m free ∙ fits.0, omega (arith, fits.1, free_count-with_cells taken x m free))

-- the sizes of the direction of a draw
sizes-mixed : (b : Bool) (cell : ℕ) (reads writes : List (ℕ × ℕ)) → SizesFit cell reads → SizesFit cell writes → SizesFit cell (by_direction (cond b Read Write) reads writes)
sizes-mixed true cell reads writes r w = r
sizes-mixed false cell reads writes r w = w

sizes-of : (kind : IoType) (cell percent t : ℕ) (reads writes : List (ℕ × ℕ)) → (has_reads kind ≡ true → SizesFit cell reads) → (has_writes kind ≡ true → SizesFit cell writes) → SizesFit cell (by_direction (direction_of kind percent t) reads writes)
sizes-of io.Read cell percent t reads writes r w = r refl
sizes-of io.RandRead cell percent t reads writes r w = r refl
sizes-of io.Write cell percent t reads writes r w = w refl
sizes-of io.RandWrite cell percent t reads writes r w = w refl
sizes-of io.ReadWrite cell percent t reads writes r w = sizes-mixed (nat_lt t percent) cell reads writes (r refl) (w refl)
sizes-of io.RandRw cell percent t reads writes r w = sizes-mixed (nat_lt t percent) cell reads writes (r refl) (w refl)

pub sizes_fit : (job : SubJob) (t : ℕ) → IsDrawable job → SizesFit job.cell (by_direction (direction_of job.io_type job.read_percent t) job.read_split job.write_split)
sizes_fit job t h = sizes-of job.io_type job.cell job.read_percent t job.read_split job.write_split h.reads h.writes

-- a draw wants a cell at least, and so many cells are no longer than its size
pub wanted-some : (size cell : ℕ) → 1 ≤ cell → cell ≤ size → 1 ≤ size / cell
wanted-some size cell some fits = le-div 1 size cell some (omega arith)

pub wanted-short : (m size cell most : ℕ) → m ≤ size / cell → size ≤ most → m * cell ≤ most
wanted-short m size cell most h fits =
    omega (arith, mul-le m cell (size / cell) cell h (omega arith), div-add-mod' size cell)

-- one direction's cells are some of all
pub direction-le : (dir : Dir) (reads writes : ℕ) → by_direction dir reads writes ≤ reads + writes
direction-le Read reads writes = omega arith
direction-le Write reads writes = omega arith

pub drawn_cells_fit : (job : SubJob) (done : PassProgress) (direction size place : ℕ) → IsSound job done → pass_over job done ≡ false → DrawnCellsFit job done (chosen_cells job done direction size place)
drawn_cells_fit job done direction size place sound unfinished =
    let drawn = done.reads + done.writes in
    let dir = direction_of job.io_type job.read_percent (direction % 100) in
    let bytes = size_at (by_direction dir job.read_split job.write_split) (size % 100) in
    let sizes = sizes_fit job (direction % 100) sound.drawable in
    let t : size % 100 < 100 = omega arith in
    let wanted = wanted-some bytes job.cell sound.drawable.cell_least (sizes.least (size % 100) t) in
    let fit = cells_fit done.places job.cells drawn (by_direction dir done.reads done.writes) (bytes / job.cell) place sound.drawable.cells_least wanted (direction-le dir done.reads done.writes) sound.places unfinished in
    record {
      some = fit.some;
      within = fit.within;
      left = fit.left;
      short = wanted-short _ bytes job.cell 16777216 fit.wanted (sizes.most (size % 100) t);
      free = fit.free;
    }

-- so many cells more are drawn
pub drawn-more : (dir : Dir) (reads writes m : ℕ) → (reads + by_direction dir m 0) + (writes + by_direction dir 0 m) ≡ reads + writes + m
drawn-more Read reads writes m = omega arith
drawn-more Write reads writes m = omega arith

pub sound_after : (job : SubJob) (done : PassProgress) (choice : DrawnCells) → IsSound job done → DrawnCellsFit job done choice → IsSound job (progress_after done choice)
sound_after job done choice sound fits =
    let drawn = done.reads + done.writes in
    let more = drawn-more choice.dir done.reads done.writes choice.count in
    record {
      drawable = sound.drawable;
      places = subst (λ (n : ℕ). PlacesFit (places_after done.places choice.first choice.count) job.cells n) (sym more) (places_fit done.places job.cells drawn choice.first choice.count sound.places fits.left fits.free);
      number = omega (arith, more, sound.number, fits.some);
    }
