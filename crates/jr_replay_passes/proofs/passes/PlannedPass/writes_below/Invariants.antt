use Rattle.std.proofs.Common.{◌-◌, ◌≤◌, length}
use Rattle.jr_model.specs.Rounds.{writes_of}
use Rattle.jr_replay_passes.proofs.RankLemmas.{below}
use Rattle.jr_replay_passes.proofs.passes.PlannedPass.writes_below.Given as goal

abbrev pub invariant-loop-low : goal.invariant-loop-low
invariant-loop-low l =
    (l.low ≤ below l.number (writes_of l.self)) × (below l.number (writes_of l.self) ≤ l.high) × (l.high ≤ length (writes_of l.self))

abbrev pub decreases-loop-low : goal.decreases-loop-low
decreases-loop-low l = l.high - l.low
