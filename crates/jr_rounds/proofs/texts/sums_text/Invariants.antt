use Rattle.std.proofs.Common.{◌≡◌, ◌++◌, drop}
use Rattle.jr_rounds.specs.Rounds.{sums_lines}
use Rattle.jr_rounds.proofs.texts.sums_text.Given as goal

-- what is written, and the lines of what is left, are the lines of all
abbrev pub invariant-loop-i : goal.invariant-loop-i
invariant-loop-i l =
    l.text.items ++ sums_lines l.sums.rounds (drop l.i l.plan.clones) (drop l.i l.totals) ≡ sums_lines l.sums.rounds l.plan.clones l.totals
