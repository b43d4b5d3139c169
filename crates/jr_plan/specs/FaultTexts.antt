-- Believed: what the faults print (of this project).
use Rattle.std.specs.Prelude.{ℕ, List, ◌++◌, codes}
use Rattle.jr_plan.specs.declared.faults.Bound.{Bound}
use Rattle.jr_plan.specs.declared.faults.Bound.TheVariants as bound
use Rattle.jr_plan.specs.declared.faults.PlanFault.{PlanFault}
use Rattle.jr_plan.specs.declared.faults.PlanFault.TheVariants as fault

abbrev pub bound_text : Bound → List ℕ
bound_text bound.Clones = codes "clones"
bound_text bound.Region = codes "region"
bound_text bound.Cells = codes "cells"
bound_text bound.Work = codes "work"

abbrev pub plan_fault_text : PlanFault → List ℕ
plan_fault_text fault.Block = codes "bad block size or place"
plan_fault_text fault.Number = codes "number out of range"
plan_fault_text fault.NoPattern = codes "no pattern"
plan_fault_text (fault.Limit b) = codes "limit of " ++ bound_text b
plan_fault_text fault.Memory = codes "out of memory"
