-- Internal: what is kept of a clone and of a plan beside themselves.
use Rattle.std.specs.Prelude.{◌≡◌, List}
use Rattle.jr_model.specs.Plan.{Plan, SubJob}
use Rattle.jr_model.specs.Rounds.{Pass, passes_of}

-- these are the clone's passes
abbrev pub ArePasses : SubJob → List Pass → Type 0
ArePasses job passes = passes ≡ passes_of job

-- these are the plan's clones
abbrev pub AreClones : Plan → List SubJob → Type 0
AreClones plan clones = clones ≡ plan.clones
