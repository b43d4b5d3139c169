use Rattle.std.proofs.Common.{◌≡◌, ◌-◌, ◌++◌, length, take, drop, replicate}
use Rattle.jr_sizes.specs.Splits.{share}
use Rattle.jr_sizes.proofs.reading.shared.Given as goal

-- the entries so far and those still to be shared out; behind them the array is as it was
abbrev pub invariant-loop-i : goal.invariant-loop-i
invariant-loop-i l =
    (take l.i l.all ++ share l.each l.left (drop l.i l.entries) ≡ share l.each l.fn.extra l.entries)
    × (drop l.i l.all ≡ replicate (64 - l.i) (0, 0))
    × (length l.all ≡ 64)
