use Rattle.std.specs.Prelude.{Some}
use Rattle.jr_crew.proofs.crew.run_booked.Given as goal

-- the run's name for its plan and its hand-over
abbrev pub ghosts-run_as : goal.ghosts-run_as
ghosts-run_as g a = record { plan = a.plan; handoff = Some a.handoff.now }
