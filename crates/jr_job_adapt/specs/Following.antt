-- Believed: what the sections of an adapted job file have to do with those that it was made of.
use Rattle.std.specs.Prelude.{ℕ, ◌+◌, ◌&&◌, ◌||◌, Bool, true, false, not, List, [], ◌∷◌, Option, Some, None, if◌then◌else◌, codes}
use Rattle.jr_plan.specs.Files.{same_text}
use Rattle.jr_text.specs.Records.{LineText, SectionText}
use Rattle.jr_options.specs.Surveys.{is_global}
use Rattle.jr_job_adapt.specs.Keeping.{has_none, is_out}

-- blocks are verified by this value of `verify`, known here or not
abbrev pub is_verifying : Option (List ℕ) → Bool
is_verifying None = true
is_verifying (Some word) = not (same_text word (codes "0") || same_text word (codes "null"))

-- whether these lines have blocks verified: of the lines of the key the last one counts
abbrev pub verifies_from : Bool → List LineText → Bool
verifies_from before [] = before
verifies_from before (line ∷ lines) =
    verifies_from (if same_text line.key (codes "verify") then is_verifying line.value else before) lines

abbrev pub verifies : SectionText → Bool
verifies section = verifies_from false section.lines

-- a section follows from another: it has its name, and has blocks verified where that one has
abbrev pub follows : SectionText → SectionText → Bool
follows section other = same_text other.name section.name && (not (verifies section) || verifies other)

abbrev pub first_follows : SectionText → List SectionText → Bool
first_follows section [] = false
first_follows section (other ∷ others) = follows section other

abbrev pub others_of : List SectionText → List SectionText
others_of [] = []
others_of (other ∷ others) = others

-- each section that isn't left out has one that follows from it, in their order, and there are no others; global ones are never left out
abbrev pub are_followed : List Bool → ℕ → List SectionText → List SectionText → Bool
are_followed outs i [] others = has_none others
are_followed outs i (section ∷ sections) others =
    if is_out outs i then not (is_global section) && are_followed outs (i + 1) sections others
    else first_follows section others && are_followed outs (i + 1) sections (others_of others)
