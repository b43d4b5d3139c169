use Rattle.std.proofs.Common.{◌≡◌, ◌++◌, drop}
use Rattle.jr_job_notes.specs.Notes.{lines_noted, noted}
use Rattle.jr_job_notes.proofs.lines.add_lines.Given as goal

-- the notes so far, and those of the other lines
abbrev pub invariant-loop-line : goal.invariant-loop-line
invariant-loop-line l = noted l.notes.items ++ lines_noted (drop l.line-index l.lines) ≡ noted l.fn.notes.items ++ lines_noted l.lines
