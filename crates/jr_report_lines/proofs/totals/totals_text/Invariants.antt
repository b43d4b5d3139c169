use Rattle.std.proofs.Common.{◌≡◌, ◌++◌, drop}
use Rattle.jr_model.specs.Report.{lines_of}
use Rattle.jr_report_lines.proofs.totals.totals_text.Given as goal

-- what is written, and the lines of what is left, are the lines of all
abbrev pub invariant-loop-i : goal.invariant-loop-i
invariant-loop-i l =
    l.text.items ++ lines_of (drop l.i l.plan.clones) (drop l.i l.totals) ≡ lines_of l.plan.clones l.totals
