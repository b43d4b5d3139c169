-- Other seeds change nothing of what holds of a plan's clones.
use Rattle.std.proofs.Common.{◌≡◌, ℕ, zero, suc, ◌+◌, ◌*◌, List, [], ◌∷◌, fold, map, slice_get, Some, arith, subst, refl}
use Rattle.std.proofs.lemmas.List.{length-map}
use Rattle.jr_model.specs.Plan.{SubJob, FileSpec}
use Rattle.jr_model.specs.PlanFacts.{AreDrafted, IsPlaced, KeepsLimits, work_of}
use Rattle.jr_plan.specs.Seeds.{moved_seed}

-- a clone of the new list is one of the old with another seed
record IsMoved (by : ℕ) (clones : List SubJob) (i : ℕ) (job : SubJob) : Type 0 where
  old : SubJob
  at : slice_get clones i ≡ Some old
  is : moved_seed by old ≡ job

moved : (by : ℕ) (clones : List SubJob) (i : ℕ) (job : SubJob) → slice_get (map (moved_seed by) clones) i ≡ Some job → IsMoved by clones i job
moved by [] i job at = absurd (cc)
moved by (one ∷ clones) zero job at = record { old = one; at = cc; is = cc }
moved by (one ∷ clones) (suc i) job at =
    let m = moved by clones i job at in
    record { old = m.old; at = m.at; is = m.is }

limits : (by : ℕ) (job : SubJob) → KeepsLimits job → KeepsLimits (moved_seed by job)
limits by job h = record {
  cell_sectors = h.cell_sectors;
  cell_least = h.cell_least;
  cell_most = h.cell_most;
  cells_least = h.cells_least;
  cells_most = h.cells_most;
  start_sectors = h.start_sectors;
  region = h.region;
  percent = h.percent;
  depth_least = h.depth_least;
  depth_most = h.depth_most;
  passes_least = h.passes_least;
  passes_most = h.passes_most;
  reads = h.reads;
  writes = h.writes;
  pattern = h.pattern;
  interval = h.interval;
}

placed : (by : ℕ) (files : List FileSpec) (i : ℕ) (job : SubJob) → IsPlaced files i job → IsPlaced files i (moved_seed by job)
placed by files i job h = record { number = h.number; file = h.file; within = h.within }

works_from : (by : ℕ) (clones : List SubJob) (n : ℕ) → fold (λ a (x : SubJob). a + x.cells * x.passes) n (map (moved_seed by) clones) ≡ fold (λ a (x : SubJob). a + x.cells * x.passes) n clones
works_from by [] n = refl
works_from by (job ∷ clones) n = works_from by clones (n + job.cells * job.passes)

works : (by : ℕ) (clones : List SubJob) → work_of (map (moved_seed by) clones) ≡ work_of clones
works by clones = works_from by clones 0

pub drafted-reseeded : (by : ℕ) (clones : List SubJob) (files : List FileSpec) → AreDrafted clones files → AreDrafted (map (moved_seed by) clones) files
drafted-reseeded by clones files h =
    let count = length-map clones (moved_seed by) in
    record {
      clones_most = omega (arith, count, h.clones_most);
      files_most = omega (arith, count, h.files_most);
      placed = λ i job at.
          let m = moved by clones i job at in
          subst (IsPlaced files i) m.is (placed by files i m.old (h.placed i m.old m.at));
      limited = λ i job at.
          let m = moved by clones i job at in
          subst KeepsLimits m.is (limits by m.old (h.limited i m.old m.at));
      ends = h.ends;
      work = omega (arith, works by clones, h.work);
    }
