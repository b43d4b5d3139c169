-- Believed: what a job file says: its sections, each with the option lines up to the next section, or its first fault.
use Rattle.std.specs.Prelude.{ℕ, ◌-◌, List, [], ◌∷◌, ◌++◌, length, map, take, drop, filter, filter_map, take_while, Bool, not, nat_lt, ◌==◌, ◌||◌, if◌then◌else◌, Option, Some, None, Result, Ok, Err, slice_index}
use Rattle.std.specs.List.{prefix_len, suffix_len, position_or_len, before_first, after_first, slice_split, enumerate_from}
use Rattle.std.specs.Str.{is_utf8}
use Rattle.std.specs.Str.Lines.{strip_carriage_return}
use Rattle.jr_model.specs.declared.limits.TheConstants.{LONGEST_TEXT}
use Rattle.jr_text.specs.declared.faults.TextFault.{TextFault}
use Rattle.jr_text.specs.declared.faults.TextFault.TheVariants.{TooLong, NotUtf8, OpenBracket, EmptyName, Outside}
use Rattle.jr_text.specs.Records.{LineText, SectionText}

-- the characters that have a meaning: a space or a tab, `;` or `#`, `[`, `]`, `=` and the line feed
abbrev pub is_blank : ℕ → Bool
is_blank b = b == 32 || b == 9

abbrev pub is_comment_mark : ℕ → Bool
is_comment_mark b = b == 59 || b == 35

abbrev pub is_opening_bracket : ℕ → Bool
is_opening_bracket b = b == 91

abbrev pub is_closing_bracket : ℕ → Bool
is_closing_bracket b = b == 93

abbrev pub is_equals_sign : ℕ → Bool
is_equals_sign b = b == 61

abbrev pub is_newline : ℕ → Bool
is_newline b = b == 10

-- a text without the spaces and tabs at its beginning, at its end, at both
abbrev pub trimmed_start : List ℕ → List ℕ
trimmed_start text = drop (prefix_len is_blank text) text

abbrev pub trimmed_end : List ℕ → List ℕ
trimmed_end text = take (length text - suffix_len is_blank text) text

abbrev pub trimmed : List ℕ → List ℕ
trimmed text = trimmed_end (trimmed_start text)

-- what a line says: it, without a carriage return at its end, and then without spaces and tabs at its ends
unfoldable pub content_of : List ℕ → List ℕ
content_of line = trimmed (strip_carriage_return line)

-- a line that says nothing: an empty one, or a comment
abbrev pub is_skipped : List ℕ → Bool
is_skipped content = length content == 0 || is_comment_mark (slice_index content 0)

-- a line that opens a section
abbrev pub is_opening : List ℕ → Bool
is_opening content = is_opening_bracket (slice_index content 0)

-- the name before the first `]` of what follows the `[`, and what is wrong with it where something is
abbrev pub name_in : List ℕ → List ℕ
name_in rest = before_first is_closing_bracket rest

abbrev pub name_fault : ℕ → List ℕ → Option TextFault
name_fault line rest =
    if position_or_len is_closing_bracket rest == length rest then Some (OpenBracket line)
    else (if length (name_in rest) == 0 then Some (EmptyName line) else None)

-- the value behind the first `=`, if there is one
abbrev pub value_in : List ℕ → Option (List ℕ)
value_in body =
    if nat_lt (position_or_len is_equals_sign body) (length body)
    then Some (trimmed (after_first is_equals_sign body)) else None

-- an option without its comment
abbrev pub option_in : ℕ → List ℕ → LineText
option_in number body = record {
  line = number;
  key = trimmed (before_first is_equals_sign body);
  value = value_in body;
}

-- the option that a line sets
unfoldable pub option_of : ℕ × List ℕ → LineText
option_of l = option_in l.0 (before_first is_comment_mark l.1)

-- the lines that say something, each with its number from `first` on
abbrev pub lines_from : ℕ → List (List ℕ) → List (ℕ × List ℕ)
lines_from first lines = filter (λ l. not (is_skipped l.1)) (map (λ l. (l.0, content_of l.1)) (enumerate_from first lines))

abbrev pub lines_of : List ℕ → List (ℕ × List ℕ)
lines_of text = lines_from 1 (slice_split is_newline text)

-- the lines above the first one that opens a section
abbrev pub before_opening : List (ℕ × List ℕ) → List (ℕ × List ℕ)
before_opening lines = take_while (λ l. not (is_opening l.1)) lines

-- a section of this line, with these lines below it
abbrev pub section_of : ℕ × List ℕ → List (ℕ × List ℕ) → SectionText
section_of l below = record {
  name = name_in (drop 1 l.1);
  line = l.0;
  lines = map option_of (before_opening below);
}

-- a section for each line that opens one, with the options up to the next such line
abbrev pub sections_in : List (ℕ × List ℕ) → List SectionText
sections_in [] = []
sections_in (l ∷ below) = if is_opening l.1 then section_of l below ∷ sections_in below else sections_in below

-- what is wrong, in the order of the lines: options above the first section, and then bad names of sections
abbrev pub opening_faults : List (ℕ × List ℕ) → List TextFault
opening_faults lines = filter_map (λ l. name_fault l.0 (drop 1 l.1)) (filter (λ l. is_opening l.1) lines)

abbrev pub faults_in : List (ℕ × List ℕ) → List TextFault
faults_in lines = map (λ l. Outside l.0) (before_opening lines) ++ opening_faults lines

-- the sections, or else the first fault
abbrev pub unless_faulty : List TextFault → List SectionText → Result (List SectionText) TextFault
unless_faulty [] sections = Ok sections
unless_faulty (fault ∷ more) sections = Err fault

abbrev pub read_lines : List (ℕ × List ℕ) → Result (List SectionText) TextFault
read_lines lines = unless_faulty (faults_in lines) (sections_in lines)

-- the sections that a text of at most 1 MiB says
unfoldable pub sections_of : List ℕ → Result (List SectionText) TextFault
sections_of text =
    if nat_lt LONGEST_TEXT (length text) then Err TooLong
    else (if is_utf8 text then read_lines (lines_of text) else Err NotUtf8)
