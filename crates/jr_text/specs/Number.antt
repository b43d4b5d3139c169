-- Believed: what a number is in a job file: decimal digits and a unit, which is a power of 1024.
use Rattle.std.specs.Prelude.{ℕ, ◌*◌, ◌^◌, List, [], ◌∷◌, map, take, drop, Bool, ◌==◌, nat_lt, ◌&&◌, ◌||◌, if◌then◌else◌, Option, Some, None, Result, Ok, Err, is_some, ok_or, slice_index}
use Rattle.std.specs.Char.{is_ascii_digit, to_ascii_lowercase}
use Rattle.std.specs.List.{prefix_len}
use Rattle.std.specs.Str.Parse.{digits_value}
use Rattle.jr_text.specs.declared.faults.NumFault.{NumFault}
use Rattle.jr_text.specs.declared.faults.NumFault.TheVariants.{NoDigits, BadUnit, UnitOutOfScope, TooLarge}

-- the power of 1024 that a letter names: `k`, `m`, `g`, `t` or `p`
abbrev pub power_of : ℕ → Option ℕ
power_of letter =
    if letter == 107 then Some 1
    else (if letter == 109 then Some 2
    else (if letter == 103 then Some 3
    else (if letter == 116 then Some 4
    else (if letter == 112 then Some 5 else None))))

-- why a unit with an `i` after its letter is refused: it is one of fio's, or none at all
abbrev pub binary_fault : ℕ → NumFault
binary_fault letter = if is_some (power_of letter) then UnitOutOfScope else BadUnit

-- the power of 1024 that a unit in lower case names: nothing, `b`, a letter, or a letter and `b`
abbrev pub unit_of : List ℕ → Result ℕ NumFault
unit_of [] = Ok 0
unit_of (letter ∷ []) = if letter == 98 then Ok 0 else ok_or (power_of letter) BadUnit
unit_of (letter ∷ second ∷ []) =
    if second == 98 then ok_or (power_of letter) BadUnit
    else (if second == 105 then Err (binary_fault letter) else Err BadUnit)
unit_of (letter ∷ second ∷ third ∷ []) =
    if second == 105 && third == 98 then Err (binary_fault letter) else Err BadUnit
unit_of (letter ∷ second ∷ third ∷ fourth ∷ more) = Err BadUnit

-- the text begins with `0x` or `0X`
abbrev pub is_hexadecimal : List ℕ → Bool
is_hexadecimal text = slice_index text 0 == 48 && (slice_index text 1 == 120 || slice_index text 1 == 88)

-- how many digits a text begins with, those digits, and what follows them in lower case
abbrev pub digit_count : List ℕ → ℕ
digit_count text = prefix_len is_ascii_digit text

abbrev pub digits_in : List ℕ → List ℕ
digits_in text = take (digit_count text) text

abbrev pub unit_in : List ℕ → List ℕ
unit_in text = map to_ascii_lowercase (drop (digit_count text) text)

-- the number, if it is below 2 to the power of 64
abbrev pub small_number : ℕ → Result ℕ NumFault
small_number n = if nat_lt n (2 ^ 64) then Ok n else Err TooLarge

-- the value of these digits in this unit
abbrev pub scaled : List ℕ → Result ℕ NumFault → Result ℕ NumFault
scaled digits (Err fault) = Err fault
scaled digits (Ok power) = small_number (digits_value 10 digits * 1024 ^ power)

-- the number that a text writes, or why it writes none
unfoldable pub number_of : List ℕ → Result ℕ NumFault
number_of text =
    if digit_count text == 0 then Err NoDigits
    else (if is_hexadecimal text then Err UnitOutOfScope
    else scaled (digits_in text) (unit_of (unit_in text)))
