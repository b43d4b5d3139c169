use Rattle.std.proofs.Common.{◌≡◌, ◌≤◌, ◌+◌, ◌*◌, drop}
use Rattle.jr_sizes.specs.Splits.{given_total}
use Rattle.jr_sizes.proofs.reading.given_total.Given as goal

-- the sum so far and that of the others, and each so far was at most 100
abbrev pub invariant-loop-percent : goal.invariant-loop-percent
invariant-loop-percent l =
    (l.total + given_total (drop l.percent-index l.entries) ≡ given_total l.entries)
    × (l.total ≤ 100 * l.percent-index)
