use Rattle.std.proofs.Common.{◌≡◌, take, flat_map}
use Rattle.jr_after_report.specs.Reports.{totals_line}
use Rattle.jr_after_report.proofs.reports.report.Given as goal

-- the totals of the files so far
abbrev pub invariant-loop-file : goal.invariant-loop-file
invariant-loop-file l = l.text.items ≡ flat_map (totals_line l.plan) (take l.file-index l.files)
