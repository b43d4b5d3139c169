-- The laws of a planned clone's passes, together.
use Rattle.std.proofs.Common.{◌≡◌, ℕ, ◌*◌, ◌≤◌, ◌&&◌, Bool, true, false, List, length, refl, sym, subst, arith}
use Rattle.std.proofs.lemmas.List.{get_or-replicate}
use Rattle.jr_model.specs.declared.workloads.Draw.{Draw}
use Rattle.jr_model.specs.declared.workloads.IoType.{IoType}
use Rattle.jr_model.specs.declared.workloads.IoType.TheVariants as io
use Rattle.jr_model.specs.CellSet.{no_cells}
use Rattle.jr_model.specs.Draws.{Places, mapped, fresh_places, fresh_progress, draws_from, draws_over}
use Rattle.jr_model.specs.Plan.{SubJob}
use Rattle.jr_model.specs.Tickets.{piece_fits}
use Rattle.jr_model.specs.PlanFacts.{KeepsLimits}
use Rattle.jr_laws_draws.specs.DrawFacts.{IsDrawable, IsSound}
use Rattle.jr_laws_draws.specs.PassLaw.{is_random, is_mapped, IsInRegion, CoversOnce, PassLaw}
use Rattle.jr_laws_draws.proofs.CoverLaws.{disjoint_from, whole_from}
use Rattle.jr_laws_draws.proofs.PassLaws.{each_draw, count-from, ends-from, numbered-from, piece-fits, piece-placed, sound_start}

-- a planned clone keeps the limits that its draws rest on
pub drawable_of : (job : SubJob) → KeepsLimits job → IsDrawable job
drawable_of job limits = record {
  cell_sectors = limits.cell_sectors;
  cell_least = omega (arith, limits.cell_least);
  cells_least = limits.cells_least;
  cells_most = limits.cells_most;
  start_sectors = limits.start_sectors;
  region = limits.region;
  reads = limits.reads;
  writes = limits.writes;
}

-- a random pass with a map begins with no cell taken
mapped_places : (kind : IoType) (has_map : Bool) (cells : ℕ) → (is_random kind && has_map) ≡ true → fresh_places kind has_map cells ≡ mapped (no_cells cells)
mapped_places io.Read has_map cells h = cc
mapped_places io.Write has_map cells h = cc
mapped_places io.ReadWrite has_map cells h = cc
mapped_places io.RandRead true cells h = refl
mapped_places io.RandWrite true cells h = refl
mapped_places io.RandRw true cells h = refl
mapped_places io.RandRead false cells h = cc
mapped_places io.RandWrite false cells h = cc
mapped_places io.RandRw false cells h = cc

-- with a map a pass covers each cell once
covers : (job : SubJob) → IsDrawable job → is_mapped job ≡ true → (words : List ℕ) → 4 * job.cells ≤ length words → CoversOnce job (draws_over job words)
covers job drawable h words enough =
    let places = mapped_places job.io_type job.has_map job.cells h in
    let sound : IsSound job (record { number = 0; places = mapped (no_cells job.cells); reads = 0; writes = 0 }) =
    subst (λ (p : Places). IsSound job (record { number = 0; places = p; reads = 0; writes = 0 })) places (sound_start job drawable) in
    let Covered : Places → Type 0 = λ p. CoversOnce job (draws_from job (record { number = 0; places = p; reads = 0; writes = 0 }) words) in
    subst Covered (sym places) (record {
      disjoint = disjoint_from job words 0 (no_cells job.cells) 0 0 sound;
      whole = λ x below. whole_from job words 0 (no_cells job.cells) 0 0 sound (omega (arith, enough)) x (get_or-replicate job.cells x false true below);
    })

pub pass_law : (job : SubJob) → IsDrawable job → PassLaw job
pass_law job drawable =
    let sound = sound_start job drawable in
    let start = fresh_progress job in
    let Fits : Draw → Type 0 = λ d. piece_fits d.piece ≡ true in
    let Placed : Draw → Type 0 = λ d. IsInRegion job d.piece in
    record {
      ends = λ words more enough. ends-from job words more start sound (omega (arith, enough));
      count = λ words. omega (arith, count-from job words start sound);
      numbered = λ words k d h. omega (arith, numbered-from job words start sound k d h);
      fits = λ words. each_draw job Fits (λ done choice seed s c. piece-fits job choice.first choice.count drawable c.some c.within c.short) words start sound;
      placed = λ words. each_draw job Placed (λ done choice seed s c. piece-placed job choice.first choice.count c.within) words start sound;
      once = covers job drawable;
    }
