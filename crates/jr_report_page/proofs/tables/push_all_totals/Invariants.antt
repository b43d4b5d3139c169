use Rattle.std.proofs.Common.{◌≡◌, ◌++◌, drop, string_bytes}
use Rattle.jr_report_page.specs.Rows.{totals_rows}
use Rattle.jr_report_page.proofs.tables.push_all_totals.Given as goal

-- what is written, and the rows of what is left, are the rows of all
abbrev pub invariant-loop-i : goal.invariant-loop-i
invariant-loop-i l =
    string_bytes l.page ++ totals_rows (drop l.i l.plan.clones) (drop l.i l.totals)
    ≡ string_bytes l.fn.page ++ totals_rows l.plan.clones l.totals
