use Rattle.std.proofs.Common.{◌≡◌, map, length}
use Rattle.jr_crew_channel.specs.Passes.{pass_state}
use Rattle.jr_crew_threads.specs.Parts.{IsCountedFrom, IsLess}
use Rattle.jr_crew_threads.proofs.staff.verifiers_for.Given as goal

-- so many so far, numbered on from the workers, and what parts are left
abbrev pub invariant-loop-place : goal.invariant-loop-place
invariant-loop-place g l =
    (length l.all.items ≡ l.place)
    × IsCountedFrom l.fn.workers (map (λ one. one.number) l.all.items)
    × IsLess (length l.all.items) (pass_state l.initial.channel.pass) (pass_state l.channel.pass)
