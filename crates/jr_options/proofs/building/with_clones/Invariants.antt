use Rattle.std.proofs.Common.{fold}
use Rattle.std.specs.Option.{option_copied}
use Rattle.jr_options.specs.PlanOf.{clones_asked, with_asked}
use Rattle.jr_options.specs.Sections.{asked_job}
use Rattle.jr_options.proofs.CloneLemmas.{AreAdding}
use Rattle.jr_options.proofs.building.with_clones.Given as goal

-- the clones so far, and those that are to come
abbrev pub invariant-loop-index : goal.invariant-loop-index
invariant-loop-index l =
    AreAdding (asked_job l.job l.section (option_copied l.names.file_name) (option_copied l.names.directory)) l.index l.draft
    (fold with_asked l.fn.draft (clones_asked (asked_job l.job l.section (option_copied l.names.file_name) (option_copied l.names.directory))))
