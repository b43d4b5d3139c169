use Rattle.std.proofs.Common.{[], take, drop}
use Rattle.std.specs.Option.{option_copied}
use Rattle.jr_job_options.specs.Options.{AreInRange}
use Rattle.jr_options.specs.PlanOf.{clones_of, jobs_below}
use Rattle.jr_options.proofs.BuildLemmas.{Stands}
use Rattle.jr_options.proofs.building.build.Given as goal

-- the clones so far and what counts so far, and the sections that are left
abbrev pub invariant-loop-section : goal.invariant-loop-section
invariant-loop-section l =
    Stands (option_copied l.only) (take l.section-index l.sections) (drop l.section-index l.sections) l.draft l.phase l.globals (option_copied l.names.file_name) (option_copied l.names.directory) (clones_of (jobs_below (option_copied l.only) [] l.sections))
    × AreInRange l.globals
