use Rattle.std.proofs.Common.{◌≡◌, ◌++◌, take, flat_map}
use Rattle.jr_after_report.specs.Reports.{lines_in}
use Rattle.jr_after_report.proofs.reports.push_lines.Given as goal

-- the lines of the files so far were added
abbrev pub invariant-loop-file : goal.invariant-loop-file
invariant-loop-file l = l.text.items ≡ l.initial.text.items ++ flat_map lines_in (take l.file-index l.files)
