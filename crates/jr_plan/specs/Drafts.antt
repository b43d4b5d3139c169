-- Believed: how the clones of a run come one after another, and which are taken (of this project).
use Rattle.std.specs.Prelude.{ℕ, ◌+◌, ◌*◌, nat_lt, nat_le, List, [], ◌∷◌, ◌++◌, length, Option, Some, None, if◌then◌else◌}
use Rattle.std.specs.Option.{option_or}
use Rattle.jr_model.specs.declared.limits.TheConstants.{LARGEST_END, MOST_CELLS, MOST_CLONES, MOST_WORK}
use Rattle.jr_model.specs.Plan.{SubJob, FileSpec}
use Rattle.jr_plan.specs.declared.faults.Bound.TheVariants as bound
use Rattle.jr_plan.specs.declared.faults.PlanFault.{PlanFault}
use Rattle.jr_plan.specs.declared.faults.PlanFault.TheVariants as fault
use Rattle.jr_plan.specs.declared.workloads.Workload.{Workload}
use Rattle.jr_plan.specs.Files.{file_place, with_file}
use Rattle.jr_model.specs.PlanFacts.{work_of}
pub use Rattle.jr_plan.specs.Clones.{planned_clone}
use Rattle.jr_plan.specs.Workloads.{workload_fault}

-- the clones so far, and their files
pub record Clones : Type 0 where
  pub clones : List SubJob
  pub files : List FileSpec

abbrev pub no_clones : Clones
no_clones = record { clones = []; files = [] }

-- the clones once one more comes: of this workload, job, file name and start
abbrev pub with_clone : Clones → Workload → List ℕ → List ℕ → ℕ → Clones
with_clone d w job file start = record {
  clones = d.clones ++ planned_clone w job (length d.clones) (file_place d.files file) start ∷ [];
  files = with_file d.files file start (start + w.cells * w.cell);
}

-- the limit that such a clone would break
abbrev pub limit_fault : Clones → Workload → ℕ → Option PlanFault
limit_fault d w start =
    if nat_le MOST_CLONES (length d.clones) then Some (fault.Limit bound.Clones)
    else (if nat_lt LARGEST_END (start + w.cells * w.cell) then Some (fault.Limit bound.Region)
    else (if nat_lt MOST_CELLS w.cells then Some (fault.Limit bound.Cells)
    else (if nat_lt MOST_WORK (work_of d.clones + w.cells * w.passes) then Some (fault.Limit bound.Work) else None)))

-- why such a clone isn't taken
abbrev pub clone_fault : Clones → Workload → ℕ → Option PlanFault
clone_fault d w start = option_or (workload_fault w start) (limit_fault d w start)
