-- Internal: what one line adds to the sections that were read above it, as the reader's inner functions say it.
use Rattle.std.specs.Prelude.{◌≡◌, ⊤, ℕ, Bool, true, false, List, [], ◌∷◌, ◌++◌, drop, if◌then◌else◌, Option, Some, None, Result, Ok, Err}
use Rattle.jr_text.specs.Records.{LineText, SectionText}
use Rattle.jr_text.specs.declared.faults.TextFault.{TextFault}
use Rattle.jr_text.specs.declared.faults.TextFault.TheVariants.{TooLong, NotUtf8, OpenBracket, EmptyName, Outside, Memory}
use Rattle.jr_text.specs.JobText.{is_skipped, is_opening, name_fault, name_in, option_of}

-- a section that has no lines yet, unless its name is faulty; `rest` is what follows its `[`
abbrev pub opened_unless : Option TextFault → ℕ → List ℕ → Result SectionText TextFault
opened_unless (Some fault) line rest = Err fault
opened_unless None line rest = Ok (record { name = name_in rest; line = line; lines = [] })

abbrev pub opened : ℕ → List ℕ → Result SectionText TextFault
opened line rest = opened_unless (name_fault line rest) line rest

-- the section with one option more
abbrev pub with_option : SectionText → LineText → SectionText
with_option section option = record section { lines = section.lines ++ option ∷ [] }

-- the last section with one option more
abbrev pub with_last_option : List SectionText → LineText → List SectionText
with_last_option [] option = []
with_last_option (s ∷ []) option = with_option s option ∷ []
with_last_option (s ∷ t ∷ more) option = s ∷ with_last_option (t ∷ more) option

-- the sections and one more
abbrev pub and_section : List SectionText → Result SectionText TextFault → Result (List SectionText) TextFault
and_section found (Ok section) = Ok (found ++ section ∷ [])
and_section found (Err fault) = Err fault

-- the sections with an option of the last one
abbrev pub and_option : List SectionText → ℕ × List ℕ → Result (List SectionText) TextFault
and_option [] l = Err (Outside l.0)
and_option (s ∷ more) l = Ok (with_last_option (s ∷ more) (option_of l))

-- the sections after a line
abbrev pub and_line : List SectionText → ℕ × List ℕ → Result (List SectionText) TextFault
and_line found l =
    if is_skipped l.1 then Ok found
    else (if is_opening l.1 then and_section found (opened l.0 (drop 1 l.1)) else and_option found l)

-- whether a section is open below a line, where one is above it or not
abbrev pub open_unless : Option TextFault → Result Bool TextFault
open_unless (Some fault) = Err fault
open_unless None = Ok true

abbrev pub open_for_option : Bool → ℕ → Result Bool TextFault
open_for_option true line = Ok true
open_for_option false line = Err (Outside line)

abbrev pub open_below : Bool → ℕ × List ℕ → Result Bool TextFault
open_below is_open l =
    if is_skipped l.1 then Ok is_open
    else (if is_opening l.1 then open_unless (name_fault l.0 (drop 1 l.1)) else open_for_option is_open l.0)

-- the lines have this fault, unless memory was refused
abbrev pub IsRefusal : {T : Type 0} → TextFault → Result T TextFault → Type 0
IsRefusal TooLong read = read ≡ Err TooLong
IsRefusal NotUtf8 read = read ≡ Err NotUtf8
IsRefusal (OpenBracket line) read = read ≡ Err (OpenBracket line)
IsRefusal (EmptyName line) read = read ≡ Err (EmptyName line)
IsRefusal (Outside line) read = read ≡ Err (Outside line)
IsRefusal Memory read = ⊤
