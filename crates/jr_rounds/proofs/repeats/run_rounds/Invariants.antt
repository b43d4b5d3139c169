use Rattle.std.proofs.Common.{◌<◌, List}
use Rattle.jr_rounds.specs.Rounds.{Round}
use Rattle.jr_rounds.proofs.RoundLemmas.{IsSoFar}
use Rattle.jr_rounds.proofs.repeats.run_rounds.Given as goal

-- there is room for this round, and the rounds before it are printed
abbrev pub invariant-loop-round : goal.invariant-loop-round
invariant-loop-round g l = record {
  within : l.round < l.limit;
  so_far : (rounds : List Round) × IsSoFar l.plan l.is_keeping_going l.round l.sums l.found (g.V.Write.contents l.fn.out)
      (g.V.Write.contents l.out) rounds;
}
