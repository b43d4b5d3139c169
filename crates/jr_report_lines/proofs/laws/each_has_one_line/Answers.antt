use Rattle.jr_report_lines.proofs.Reported.{one_line}
use Rattle.jr_report_lines.proofs.laws.each_has_one_line.Goals as goal

pub returns : goal.returns
returns c = one_line
