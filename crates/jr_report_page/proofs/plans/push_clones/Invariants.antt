use Rattle.std.proofs.Common.{◌≡◌, ◌++◌, drop, string_bytes}
use Rattle.std.specs.Prelude.{flat_map}
use Rattle.jr_report_page.specs.Rows.{clone_row}
use Rattle.jr_report_page.proofs.plans.push_clones.Given as goal

-- the rows so far, and those of the other clones
abbrev pub invariant-loop-i : goal.invariant-loop-i
invariant-loop-i l =
    string_bytes l.page ++ flat_map (clone_row l.plan.files) (drop l.i l.plan.clones)
    ≡ string_bytes l.fn.page ++ flat_map (clone_row l.plan.files) l.plan.clones
