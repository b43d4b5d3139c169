-- Believed: what contracts see of a section and of an option line: numbers and lists of bytes.
use Rattle.std.specs.Prelude.{ℕ, List, Option}

-- an option line: its number from 1, its key, and its value where it has one
pub record LineText : Type 0 where
  pub line : ℕ
  pub key : List ℕ
  pub value : Option (List ℕ)

-- a section: its name, the number of the line that opens it, and its option lines in order
pub record SectionText : Type 0 where
  pub name : List ℕ
  pub line : ℕ
  pub lines : List LineText

-- those of these parts
abbrev pub line_text : ℕ → List ℕ → Option (List ℕ) → LineText
line_text line key value = record { line = line; key = key; value = value }

abbrev pub section_text : List ℕ → ℕ → List LineText → SectionText
section_text name line lines = record { name = name; line = line; lines = lines }
