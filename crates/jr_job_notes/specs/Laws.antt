-- Claimed: what holds of the lines that are refused by themselves.
use Rattle.std.specs.Prelude.{◌≡◌, ℕ, ◌+◌, ◌≤◌, List, [], ◌∷◌, Option, Some, None, Ok, slice_get}
use Rattle.jr_text.specs.JobText.{sections_of}
use Rattle.jr_text.specs.Records.{SectionText}
use Rattle.jr_job_options.specs.declared.faults.JobFault.{JobFault}
use Rattle.jr_options.specs.Refusals.{refusal_of}
use Rattle.jr_job_notes.specs.Notes.{faulty_line, refused_lines}

-- where a plan is refused by a line, that line is the first of those that are refused by themselves
abbrev pub FirstIsNamed : Type 0
FirstIsNamed =
    (sections : List SectionText) (only : Option (List ℕ)) (fault : JobFault) (line : ℕ)
    → refusal_of sections only ≡ Some fault
    → faulty_line fault ≡ Some line
    → slice_get (refused_lines only sections) 0 ≡ Some line

-- numbers from a least one on, each above the one before
abbrev pub AscendFrom : ℕ → List ℕ → Type 0
AscendFrom least [] = Unit {0}
AscendFrom least (n ∷ ns) = (least ≤ n) × AscendFrom (n + 1) ns

-- the lines that are refused by themselves stand in the order of the text
abbrev pub RefusedAscend : Type 0
RefusedAscend =
    (text : List ℕ) (sections : List SectionText) (only : Option (List ℕ))
    → sections_of text ≡ Ok sections
    → AscendFrom 1 (refused_lines only sections)

-- of a file that is taken no line is refused
abbrev pub AcceptedHaveNone : Type 0
AcceptedHaveNone =
    (sections : List SectionText) (only : Option (List ℕ))
    → refusal_of sections only ≡ None
    → refused_lines only sections ≡ []
