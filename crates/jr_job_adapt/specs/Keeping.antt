-- Believed: what becomes of the lines of a job file that is adapted: each stands as it is, or as a comment in its place.
use Rattle.std.specs.Prelude.{ℕ, ◌+◌, ◌==◌, ◌&&◌, Bool, true, false, not, List, [], ◌∷◌, ◌++◌, drop, flat_map, take, take_while, length, Option, Some, None, slice_get, unwrap_or, if◌then◌else◌, codes}
use Rattle.std.specs.List.{starts_with, slice_split}
use Rattle.std.specs.Bool.{nat_eq}
use Rattle.jr_plan.specs.Files.{same_text}
use Rattle.jr_text.specs.JobText.{is_newline}
use Rattle.jr_text.specs.Records.{LineText, SectionText}
use Rattle.jr_job_notes.specs.Notes.{is_refused}
use Rattle.jr_job_adapt.specs.declared.marks.Mark.{Mark}

-- a section is left out where its flag says so
abbrev pub is_out : List Bool → ℕ → Bool
is_out outs i = unwrap_or (slice_get outs i) false

-- a line that doesn't stand as it is
abbrev pub mark : ℕ → Bool → Mark
mark line is_refused = record { line = line; is_refused = is_refused }

-- a line that is refused by itself is marked, and each line of a section that is left out
abbrev pub line_marks : Bool → LineText → List Mark
line_marks out line =
    if is_refused line then mark line.line true ∷ [] else (if out then mark line.line false ∷ [] else [])

abbrev pub lines_marks : Bool → List LineText → List Mark
lines_marks out lines = flat_map (line_marks out) lines

abbrev pub heading_marks : Bool → SectionText → List Mark
heading_marks out section = if out then mark section.line false ∷ [] else []

abbrev pub section_marks : Bool → SectionText → List Mark
section_marks out section = heading_marks out section ++ lines_marks out section.lines

-- the marks of sections, of which the first has this number among all
abbrev pub marks_from : List Bool → ℕ → List SectionText → List Mark
marks_from outs i [] = []
marks_from outs i (section ∷ sections) = section_marks (is_out outs i) section ++ marks_from outs (i + 1) sections

-- a text begins so
abbrev pub begins : List ℕ → List ℕ → Bool
begins text front = starts_with nat_eq text front

-- a line up to its carriage return
abbrev pub is_no_return : ℕ → Bool
is_no_return b = not (b == 13)

abbrev pub before_return : List ℕ → List ℕ
before_return line = take (length (take_while is_no_return line)) line

-- how a line stands as a comment: where it is refused, it begins what `; was: ` says; else `; ` stands in front of it
abbrev pub is_said : List ℕ → List ℕ → Bool
is_said line other = begins other (codes "; was: ") && begins (drop 7 other) (before_return line)

abbrev pub is_left : List ℕ → List ℕ → Bool
is_left line other = begins other (codes "; ") && same_text (drop 2 other) line

abbrev pub stands : Option Mark → List ℕ → List ℕ → Bool
stands None line other = same_text other line
stands (Some m) line other = if m.is_refused then is_said line other else is_left line other

-- what follows the first line that a line stands as
abbrev pub behind : Option Mark → List ℕ → List (List ℕ) → Option (List (List ℕ))
behind m line [] = None
behind m line (other ∷ others) = if stands m line other then Some others else behind m line others

-- the mark of the line of this number, if the first mark is one, and the marks of later lines
abbrev pub mark_at : ℕ → List Mark → Option Mark
mark_at n [] = None
mark_at n (m ∷ ms) = if m.line == n then Some m else None

abbrev pub marks_below : ℕ → List Mark → List Mark
marks_below n [] = []
marks_below n (m ∷ ms) = if m.line == n then ms else m ∷ ms

abbrev pub has_none : {T : Type 0} → List T → Bool
has_none [] = true
has_none (x ∷ xs) = false

abbrev pub holds_of : Option (List (List ℕ)) → (List (List ℕ) → Bool) → Bool
holds_of None test = false
holds_of (Some rest) test = test rest

-- each of some lines, of which the first has this number, stands among others in its order, as its mark says; no mark is left over
abbrev pub are_kept : ℕ → List Mark → List (List ℕ) → List (List ℕ) → Bool
are_kept n marks [] others = has_none marks
are_kept n marks (line ∷ lines) others =
    holds_of (behind (mark_at n marks) line others) (λ rest. are_kept (n + 1) (marks_below n marks) lines rest)

-- the lines of a text
abbrev pub lines_in : List ℕ → List (List ℕ)
lines_in text = slice_split is_newline text
