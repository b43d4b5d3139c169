-- The laws of a pass, by going along its draws.
use Rattle.std.proofs.Common.{◌≡◌, ℕ, zero, suc, ◌+◌, ◌-◌, ◌*◌, ◌%◌, ◌<◌, ◌≤◌, Bool, true, false, not, cond, List, [], ◌∷◌, ◌++◌, Some, None, length, refl, ap, sym, subst, ◌∙◌, inl, inr, arith}
use Rattle.std.specs.List.{All, slice_get}
use Rattle.std.proofs.lemmas.Bool.{cases_Bool, and_from, lt-ltb, le-leb, eq-eqb}
use Rattle.std.proofs.lemmas.List.Elements.{All-cons}
use Rattle.std.proofs.Math.Nat.{mul-mod_left}
use Rattle.std.proofs.lemmas.Nat.{mul-le, mul-mod_second}
use Rattle.std.proofs.lemmas.List.{length-replicate}
use Rattle.std.proofs.lemmas.List.Folds.{sum_by-replicate}
use Rattle.jr_model.specs.declared.workloads.IoType.{IoType}
use Rattle.jr_model.specs.declared.workloads.IoType.TheVariants as io
use Rattle.jr_model.specs.declared.workloads.Draw.{Draw}
use Rattle.jr_model.specs.CellSet.{free_count, no_cells}
use Rattle.jr_model.specs.Draws.{Places, sequential, mapped, unmapped, PassProgress, DrawnCells, all_drawn, cells_left, pass_over, progress_after, chosen_cells, cell_piece, draw_at, draws_from, fresh_progress, fresh_places}
use Rattle.jr_model.specs.Plan.{SubJob}
use Rattle.jr_model.specs.Tickets.{piece_fits}
use Rattle.jr_laws_draws.specs.DrawFacts.{IsDrawable, PlacesFit, IsSound, DrawnCellsFit}
use Rattle.jr_laws_draws.specs.PassLaw.{IsInRegion}
use Rattle.jr_laws_draws.proofs.DrawnCellsLaws.{drawn_cells_fit, sound_after, over-free_count, drawn-more}
use Rattle.jr_laws_draws.proofs.DrawLaws.{draws_from-over, draws_from-next}

-- a new map has so many cells, all free
fresh-map : (cells : ℕ) → PlacesFit (mapped (no_cells cells)) cells (0 + 0)
fresh-map cells =
    let counted : free_count (no_cells cells) ≡ cells = omega (arith, sum_by-replicate (λ (x : Bool). cond (not x) 1 0) cells false) in
    (length-replicate cells false, omega (arith, counted))

-- at the start of a pass no cell is drawn
pub fresh-fit : (kind : IoType) (has_map : Bool) (cells : ℕ) → PlacesFit (fresh_places kind has_map cells) cells (0 + 0)
fresh-fit io.Read has_map cells = omega arith
fresh-fit io.Write has_map cells = omega arith
fresh-fit io.ReadWrite has_map cells = omega arith
fresh-fit io.RandRead true cells = fresh-map cells
fresh-fit io.RandRead false cells = omega arith
fresh-fit io.RandWrite true cells = fresh-map cells
fresh-fit io.RandWrite false cells = omega arith
fresh-fit io.RandRw true cells = fresh-map cells
fresh-fit io.RandRw false cells = omega arith

-- what each draw of a sound pass has, all of them have
pub each_draw : (job : SubJob) (P : Draw → Type 0) → ((done : PassProgress) (choice : DrawnCells) (seed : ℕ) → IsSound job done → DrawnCellsFit job done choice → P (draw_at job done choice seed)) → (words : List ℕ) (done : PassProgress) → IsSound job done → All P (draws_from job done words)
each_draw job P h [] done sound = λ k d below. absurd (omega arith)
each_draw job P h (a ∷ []) done sound = λ k d below. absurd (omega arith)
each_draw job P h (a ∷ b ∷ []) done sound = λ k d below. absurd (omega arith)
each_draw job P h (a ∷ b ∷ c ∷ []) done sound = λ k d below. absurd (omega arith)
each_draw job P h (a ∷ b ∷ c ∷ seed ∷ words) done sound =
    let choice = chosen_cells job done a b c in
    elim (cases_Bool (pass_over job done)) [
      | inl over ↦ subst (All P) (sym (draws_from-over job done (a ∷ b ∷ c ∷ seed ∷ words) over)) (λ k d below. absurd (omega arith))
      | inr unfinished ↦
          let fits = drawn_cells_fit job done a b c sound unfinished in
          subst (All P) (sym (draws_from-next job done a b c seed words unfinished))
          (All-cons P (draw_at job done choice seed) (draws_from job (progress_after done choice) words) (h done choice seed sound fits) (each_draw job P h words (progress_after done choice) (sound_after job done choice sound fits)))
    ]

-- a draw leaves fewer cells
pub left-after : (job : SubJob) (done : PassProgress) (choice : DrawnCells) → DrawnCellsFit job done choice → cells_left job (progress_after done choice) + choice.count ≡ cells_left job done
left-after job done choice fits =
    let more = drawn-more choice.dir done.reads done.writes choice.count in
    omega (arith, more, fits.left)

-- a pass has at most as many draws as cells
pub count-from : (job : SubJob) (words : List ℕ) (done : PassProgress) → IsSound job done → length (draws_from job done words) ≤ cells_left job done
count-from job [] done sound = omega arith
count-from job (a ∷ []) done sound = omega arith
count-from job (a ∷ b ∷ []) done sound = omega arith
count-from job (a ∷ b ∷ c ∷ []) done sound = omega arith
count-from job (a ∷ b ∷ c ∷ seed ∷ words) done sound =
    let choice = chosen_cells job done a b c in
    elim (cases_Bool (pass_over job done)) [
      | inl over ↦ subst (λ (ds : List Draw). length ds ≤ cells_left job done) (sym (draws_from-over job done (a ∷ b ∷ c ∷ seed ∷ words) over)) (omega arith)
      | inr unfinished ↦
          let fits = drawn_cells_fit job done a b c sound unfinished in
          let rest = count-from job words (progress_after done choice) (sound_after job done choice sound fits) in
          subst (λ (ds : List Draw). length ds ≤ cells_left job done) (sym (draws_from-next job done a b c seed words unfinished))
          (omega (arith, rest, fits.some, left-after job done choice fits))
    ]

-- where no cell is left, the pass is over
pub over-none_left : (places : Places) (cells drawn : ℕ) → PlacesFit places cells drawn → cells - drawn ≡ 0 → all_drawn places (cells - drawn) ≡ true
over-none_left sequential cells drawn fits none = eq-eqb (cells - drawn) 0 none
over-none_left unmapped cells drawn fits none = eq-eqb (cells - drawn) 0 none
over-none_left (mapped taken) cells drawn fits none = over-free_count taken ∙ eq-eqb (free_count taken) 0 (omega (arith, fits.1))

-- words past those that a pass uses give no draw
ends-short : (job : SubJob) (done : PassProgress) (words more : List ℕ) → IsSound job done → cells_left job done ≡ 0 → draws_from job done (words ++ more) ≡ draws_from job done words
ends-short job done words more sound none =
    let over = over-none_left done.places job.cells (done.reads + done.writes) sound.places none in
    draws_from-over job done (words ++ more) over ∙ sym (draws_from-over job done words over)

pub ends-from : (job : SubJob) (words more : List ℕ) (done : PassProgress) → IsSound job done → 4 * cells_left job done ≤ length words → draws_from job done (words ++ more) ≡ draws_from job done words
ends-from job [] more done sound enough = ends-short job done [] more sound (omega arith)
ends-from job (a ∷ []) more done sound enough = ends-short job done (a ∷ []) more sound (omega arith)
ends-from job (a ∷ b ∷ []) more done sound enough = ends-short job done (a ∷ b ∷ []) more sound (omega arith)
ends-from job (a ∷ b ∷ c ∷ []) more done sound enough = ends-short job done (a ∷ b ∷ c ∷ []) more sound (omega arith)
ends-from job (a ∷ b ∷ c ∷ seed ∷ words) more done sound enough =
    let choice = chosen_cells job done a b c in
    elim (cases_Bool (pass_over job done)) [
      | inl over ↦ draws_from-over job done (a ∷ b ∷ c ∷ seed ∷ words ++ more) over ∙ sym (draws_from-over job done (a ∷ b ∷ c ∷ seed ∷ words) over)
      | inr unfinished ↦
          let fits = drawn_cells_fit job done a b c sound unfinished in
          let rest = ends-from job words more (progress_after done choice) (sound_after job done choice sound fits) (omega (arith, enough, fits.some, left-after job done choice fits)) in
          draws_from-next job done a b c seed (words ++ more) unfinished
          ∙ ap (λ (ds : List Draw). draw_at job done choice seed ∷ ds) rest
          ∙ sym (draws_from-next job done a b c seed words unfinished)
    ]

-- the draws are numbered on
numbered-cons : (first : Draw) (rest : List Draw) (n k : ℕ) (d : Draw) → first.number ≡ n → ((j : ℕ) (e : Draw) → slice_get rest j ≡ Some e → e.number ≡ suc n + j) → slice_get (first ∷ rest) k ≡ Some d → d.number ≡ n + k
numbered-cons first rest n zero d here later h =
    let same : first ≡ d = cc in
    sym (ap (λ (e : Draw). e.number) same) ∙ here ∙ omega arith
numbered-cons first rest n (suc k) d here later h = omega (arith, later k d h)

pub numbered-from : (job : SubJob) (words : List ℕ) (done : PassProgress) → IsSound job done → (k : ℕ) (d : Draw) → slice_get (draws_from job done words) k ≡ Some d → d.number ≡ done.number + k
numbered-from job [] done sound k d h = cc
numbered-from job (a ∷ []) done sound k d h = cc
numbered-from job (a ∷ b ∷ []) done sound k d h = cc
numbered-from job (a ∷ b ∷ c ∷ []) done sound k d h = cc
numbered-from job (a ∷ b ∷ c ∷ seed ∷ words) done sound k d h =
    let choice = chosen_cells job done a b c in
    elim (cases_Bool (pass_over job done)) [
      | inl over ↦
          let none : None ≡ Some d = sym (ap (λ (ds : List Draw). slice_get ds k) (draws_from-over job done (a ∷ b ∷ c ∷ seed ∷ words) over)) ∙ h in
          cc
      | inr unfinished ↦
          let sound' = sound_after job done choice sound (drawn_cells_fit job done a b c sound unfinished) in
          numbered-cons (draw_at job done choice seed) (draws_from job (progress_after done choice) words) done.number k d refl (numbered-from job words (progress_after done choice) sound')
          (sym (ap (λ (ds : List Draw). slice_get ds k) (draws_from-next job done a b c seed words unfinished)) ∙ h)
    ]

-- a piece of whole cells is whole blocks of 512 bytes
cells-whole : (m cell : ℕ) → cell % 512 ≡ 0 → (m * cell) % 512 ≡ 0
cells-whole m cell h = sym (mul-mod_second m cell 512) ∙ ap (λ (r : ℕ). (m * r) % 512) h ∙ omega arith

-- these cells end within all cells
cells-end : (x m cells cell start : ℕ) → x + m ≤ cells → start + x * cell + m * cell ≤ start + cells * cell
cells-end x m cells cell start h = omega (arith, mul-le (x + m) cell cells cell h (omega arith))

pub piece-fits : (job : SubJob) (x m : ℕ) → IsDrawable job → 1 ≤ m → x + m ≤ job.cells → m * job.cell ≤ 16777216 → piece_fits (cell_piece job x m) ≡ true
piece-fits job x m drawable some within short =
    let len = m * job.cell in
    let offset = job.start + x * job.cell in
    let least : 0 < len = omega (arith, mul-le 1 1 m job.cell some drawable.cell_least) in
    let end : offset + len ≤ 1125899906842624 = omega (arith, cells-end x m job.cells job.cell job.start within, drawable.region) in
    let whole : len % 512 ≡ 0 = cells-whole m job.cell drawable.cell_sectors in
    let begun : offset % 512 ≡ 0 = omega (arith, cells-whole x job.cell drawable.cell_sectors, drawable.start_sectors) in
    and_from _ _ (and_from _ _ (and_from _ _ (and_from _ _ (lt-ltb 0 len least) (le-leb len 16777216 short)) (eq-eqb (len % 512) 0 whole)) (eq-eqb (offset % 512) 0 begun)) (le-leb (offset + len) 1125899906842624 end)

pub piece-placed : (job : SubJob) (x m : ℕ) → x + m ≤ job.cells → IsInRegion job (cell_piece job x m)
piece-placed job x m within = record {
  cells = mul-mod_left m job.cell;
  file = refl;
  low = omega arith;
  high = cells-end x m job.cells job.cell job.start within;
}

-- the start of a pass is sound
pub sound_start : (job : SubJob) → IsDrawable job → IsSound job (fresh_progress job)
sound_start job drawable = record {
  drawable = drawable;
  places = fresh-fit job.io_type job.has_map job.cells;
  number = omega arith;
}
