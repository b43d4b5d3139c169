use Rattle.jr_report_lines.proofs.Reported.{ordered_lines}
use Rattle.jr_report_lines.proofs.laws.lines_are_in_order.Goals as goal

pub returns : goal.returns
returns c = ordered_lines
