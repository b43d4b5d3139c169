use Rattle.jr_report_lines.proofs.Reported.{sorted_lines}
use Rattle.jr_report_lines.proofs.laws.lines_are_sorted.Goals as goal

pub returns : goal.returns
returns c = sorted_lines
