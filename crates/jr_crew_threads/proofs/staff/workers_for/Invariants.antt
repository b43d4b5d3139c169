use Rattle.std.proofs.Common.{◌≡◌, length, map}
use Rattle.jr_crew_channel.specs.Passes.{pass_state}
use Rattle.jr_crew_threads.specs.Parts.{IsCountedFrom, IsLess}
use Rattle.jr_crew_threads.proofs.staff.workers_for.Given as goal

-- the engines so far, numbers from 0, and what parts are left
abbrev pub invariant-loop-engine : goal.invariant-loop-engine
invariant-loop-engine g l =
    (map (λ worker. worker.0) l.workers.items ≡ l.yielded)
    × IsCountedFrom 0 (map (λ worker. worker.1.number) l.workers.items)
    × IsLess (length l.workers.items) (pass_state l.initial.channel.pass) (pass_state l.channel.pass)
