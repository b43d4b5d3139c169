-- Believed: which lines of a job file have notes, and what a note prints.
use Rattle.std.specs.Prelude.{◌≡◌, ℕ, ◌-◌, ◌++◌, Bool, true, false, List, length, replicate, filter, map, Option, Some, None, is_some, codes, decimal, string_bytes}
use Rattle.jr_text.specs.declared.faults.TextFault.{TextFault}
use Rattle.jr_text.specs.declared.faults.TextFault.TheVariants as fault
use Rattle.jr_text.specs.Records.{LineText, SectionText}
use Rattle.jr_job_options.specs.declared.faults.JobFault.{JobFault}
use Rattle.jr_job_options.specs.declared.faults.JobFault.TheVariants as refusal
use Rattle.jr_options.specs.Refusals.{counting_lines, line_fault}
use Rattle.jr_job_notes.specs.declared.notes.Note.{Note}

-- the line is refused by itself
abbrev pub is_refused : LineText → Bool
is_refused line = is_some (line_fault line)

-- the numbers of those among lines
abbrev pub line_number : LineText → ℕ
line_number line = line.line

abbrev pub refused_in : List LineText → List ℕ
refused_in lines = map line_number (filter is_refused lines)

-- the numbers of those that are looked at for the planned jobs
abbrev pub refused_lines : Option (List ℕ) → List SectionText → List ℕ
refused_lines only sections = refused_in (counting_lines only sections)

-- the line that a fault names, where it is one of a line by itself
abbrev pub faulty_line : JobFault → Option ℕ
faulty_line (refusal.Unknown line) = Some line
faulty_line (refusal.BadValue line) = Some line
faulty_line (refusal.BadSplit line) = Some line
faulty_line (refusal.SeveralFiles line) = Some line
faulty_line _ = None

-- the lines that notes are of
abbrev pub noted_line : Note → Option ℕ
noted_line note = note.line

abbrev pub noted : List Note → List (Option ℕ)
noted notes = map noted_line notes

-- those of the refused lines among lines, and among sections
abbrev pub lines_noted : List LineText → List (Option ℕ)
lines_noted lines = map (λ (n : ℕ). Some n) (refused_in lines)

abbrev pub sections_noted : Option (List ℕ) → List SectionText → List (Option ℕ)
sections_noted only sections = map (λ (n : ℕ). Some n) (refused_lines only sections)

-- what is said of these lines comes first, and all that follows is of no line
abbrev pub AreFirst : List (Option ℕ) → List (Option ℕ) → Type 0
AreFirst lines noted = noted ≡ lines ++ replicate (length noted - length lines) None

-- the sections of a text weren't read for want of memory
abbrev pub is_want : TextFault → Bool
is_want fault.Memory = true
is_want _ = false

-- what a note prints
abbrev pub placed_text : Option ℕ → List ℕ → List ℕ
placed_text None text = text
placed_text (Some line) text = codes "line " ++ decimal line ++ codes ": " ++ text

abbrev pub note_text : Note → List ℕ
note_text note = placed_text note.line (string_bytes note.text)
