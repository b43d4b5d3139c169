use Rattle.std.proofs.Common.{◌≡◌, ◌++◌, take}
use Rattle.std.specs.Prelude.{flat_map}
use Rattle.jr_report_lines.specs.Miscompares.{bad_line}
use Rattle.jr_report_lines.proofs.bads.push_bads.Given as goal

abbrev pub invariant-loop-bad : goal.invariant-loop-bad
invariant-loop-bad l = l.text.items ≡ l.fn.text.items ++ flat_map (bad_line l.plan) (take l.bad-index l.bads)
