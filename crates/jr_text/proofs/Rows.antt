-- Texts and numbers whose answers the definitions compute.
use Rattle.std.proofs.Common.{◌≡◌, ℕ, List, [], ◌∷◌, ◌++◌, Option, Some, None, Ok, Err, refl}
use Rattle.std.specs.Prelude.{codes}
use Rattle.std.specs.Str.{is_utf8, chars}
use Rattle.jr_text.specs.declared.faults.NumFault.TheVariants.{NoDigits, BadUnit, UnitOutOfScope, TooLarge}
use Rattle.jr_text.specs.Number.{number_of}
use Rattle.jr_text.specs.Records.{LineText, SectionText}
use Rattle.jr_text.specs.declared.faults.TextFault.TheVariants.{NotUtf8, OpenBracket, EmptyName, Outside}
use Rattle.jr_text.specs.JobText.{sections_of, content_of, option_of}

-- ---- numbers

number_in_kilobytes : number_of (codes "4KB") ≡ Ok 4096
unfolding number_of
number_in_kilobytes = refl

number_in_bytes : number_of (codes "7b") ≡ Ok 7
unfolding number_of
number_in_bytes = refl

number_in_megabytes : number_of (codes "1m") ≡ Ok 1048576
unfolding number_of
number_in_megabytes = refl

largest_in_terabytes : number_of (codes "16777215t") ≡ Ok 18446742974197923840
unfolding number_of
largest_in_terabytes = refl

too_large_in_terabytes : number_of (codes "16777216t") ≡ Err TooLarge
unfolding number_of
too_large_in_terabytes = refl

too_large_in_bytes : number_of (codes "18446744073709551616") ≡ Err TooLarge
unfolding number_of
too_large_in_bytes = refl

binary_unit : number_of (codes "1ki") ≡ Err UnitOutOfScope
unfolding number_of
binary_unit = refl

hexadecimal : number_of (codes "0x10") ≡ Err UnitOutOfScope
unfolding number_of
hexadecimal = refl

unknown_unit : number_of (codes "1x") ≡ Err BadUnit
unfolding number_of
unknown_unit = refl

unit_alone : number_of (codes "k") ≡ Err NoDigits
unfolding number_of
unit_alone = refl

empty_number : number_of [] ≡ Err NoDigits
unfolding number_of
empty_number = refl

-- ---- texts

-- lines, each ended by a line feed
abbrev lines : List (List ℕ) → List ℕ
lines [] = []
lines (line ∷ more) = line ++ (10 ∷ lines more)

abbrev option : ℕ → List ℕ → Option (List ℕ) → LineText
option line key value = record { line = line; key = key; value = value }

abbrev section : List ℕ → ℕ → List LineText → SectionText
section name line lines = record { name = name; line = line; lines = lines }

nothing_said : sections_of [] ≡ Ok []
unfolding sections_of content_of option_of is_utf8 chars lib.Utf8.encode
nothing_said = refl

one_name : sections_of (codes "[global]") ≡ Ok (section (codes "global") 1 [] ∷ [])
unfolding sections_of content_of option_of is_utf8 chars lib.Utf8.encode
one_name = refl

bracket_left_open : sections_of (codes "[a") ≡ Err (OpenBracket 1)
unfolding sections_of content_of option_of is_utf8 chars lib.Utf8.encode
bracket_left_open = refl

no_name : sections_of (codes "[]") ≡ Err (EmptyName 1)
unfolding sections_of content_of option_of is_utf8 chars lib.Utf8.encode
no_name = refl

option_alone : sections_of (codes "bs=4k") ≡ Err (Outside 1)
unfolding sections_of content_of option_of is_utf8 chars lib.Utf8.encode
option_alone = refl

-- the first of two faults
bracket_before_option : sections_of (lines (codes "# a" ∷ codes "[b" ∷ codes "size=1" ∷ [])) ≡ Err (OpenBracket 2)
unfolding sections_of content_of option_of is_utf8 chars lib.Utf8.encode
bracket_before_option = refl

-- global sections between jobs, comments, an empty line and a key without a value
several_sections : sections_of (lines (codes "[global]" ∷ codes "bs=4k ; x" ∷ [] ∷ codes "[a] of the night" ∷ codes " stonewall # y=1" ∷ codes "; size=2m" ∷ codes "size = 1m" ∷ codes "[global]" ∷ codes "[a]" ∷ []))
    ≡ Ok (section (codes "global") 1 (option 2 (codes "bs") (Some (codes "4k")) ∷ [])
    ∷ section (codes "a") 4 (option 5 (codes "stonewall") None ∷ option 7 (codes "size") (Some (codes "1m")) ∷ [])
    ∷ section (codes "global") 8 []
    ∷ section (codes "a") 9 [] ∷ [])
unfolding sections_of content_of option_of is_utf8 chars lib.Utf8.encode
several_sections = refl

-- tabs, a carriage return, no line feed at the end, and a name with spaces and a second bracket
unusual_ends : sections_of ((9 ∷ codes "[ x[y] ]") ++ (13 ∷ 10 ∷ codes "k=a=b") ++ (9 ∷ 13 ∷ []))
    ≡ Ok (section (codes " x[y") 1 (option 2 (codes "k") (Some (codes "a=b")) ∷ []) ∷ [])
unfolding sections_of content_of option_of is_utf8 chars lib.Utf8.encode
unusual_ends = refl

-- a byte that no UTF-8 has, behind a faulty line
no_text : sections_of (codes "[a" ++ (10 ∷ 255 ∷ [])) ≡ Err NotUtf8
unfolding sections_of content_of option_of is_utf8 chars lib.Utf8.encode
no_text = refl
