use Rattle.std.proofs.Common.{◌≡◌, ◌≤◌, ◌+◌, ◌*◌, drop}
use Rattle.jr_plan.specs.SplitEntries.{percents_total}
use Rattle.jr_plan.proofs.splits.percents_total.Given as goal

-- the sum so far and that of the others, and each so far was a byte
abbrev pub invariant-loop-percent : goal.invariant-loop-percent
invariant-loop-percent l =
    (l.total + percents_total (drop l.percent-index l.entries) ≡ percents_total l.entries)
    × (l.total ≤ 255 * l.percent-index)
