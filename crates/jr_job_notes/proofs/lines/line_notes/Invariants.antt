use Rattle.std.proofs.Common.{◌≡◌, ◌++◌, drop}
use Rattle.std.specs.Option.{option_copied}
use Rattle.jr_job_notes.specs.Notes.{noted, sections_noted}
use Rattle.jr_job_notes.proofs.lines.line_notes.Given as goal

-- the notes so far, and those of the other sections
abbrev pub invariant-loop-section : goal.invariant-loop-section
invariant-loop-section l = noted l.notes.items ++ sections_noted (option_copied l.only) (drop l.section-index l.sections) ≡ sections_noted (option_copied l.only) l.sections
