use Rattle.jr_map.proofs.RunFacts.{ClearSoFar}
use Rattle.jr_map.proofs.words.clear_run.Given as goal

abbrev pub invariant-loop-i : goal.invariant-loop-i
invariant-loop-i l = ClearSoFar l.words l.from l.want l.i
