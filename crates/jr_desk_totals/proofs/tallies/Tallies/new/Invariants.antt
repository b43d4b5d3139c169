use Rattle.std.proofs.Common.{◌≡◌, map, take, []}
use Rattle.jr_model.specs.Totals.{totals_of}
use Rattle.jr_model.specs.Plan.{SubJob}
use Rattle.jr_desk_totals.specs.Tallying.{counts_of}
use Rattle.jr_desk_totals.proofs.tallies.Tallies.new.Given as goal

abbrev pub invariant-loop : goal.invariant-loop
invariant-loop l =
    (l.counts.items ≡ map (counts_of []) (take l.counter l.fn.plan.clones))
    × (l.totals.items ≡ map (λ (job : SubJob). totals_of [] job.clone) (take l.counter l.fn.plan.clones))
