-- Believed: how long a repeated run may go on, as the command line says it: decimal digits for seconds, or digits and a unit, which is
-- `s`, `m`, `h` or `d` (of this project).
use Rattle.std.specs.Prelude.{ℕ, ◌*◌, List, [], ◌∷◌, take, drop, nat_le, ◌==◌, ◌&&◌, if◌then◌else◌, Option, Some, None}
use Rattle.std.specs.Char.{is_ascii_digit}
use Rattle.std.specs.List.{prefix_len}
use Rattle.std.specs.Str.Parse.{digits_value}
use Rattle.jr_rounds.specs.declared.durations.TheConstants.{MOST_SECONDS}

-- how many seconds a letter stands for: `s`, `m`, `h` or `d`
abbrev pub letter_seconds : ℕ → Option ℕ
letter_seconds letter =
    if letter == 115 then Some 1
    else (if letter == 109 then Some 60
    else (if letter == 104 then Some 3600
    else (if letter == 100 then Some 86400 else None)))

-- how many seconds a unit has; no unit stands for seconds
abbrev pub unit_seconds : List ℕ → Option ℕ
unit_seconds [] = Some 1
unit_seconds (letter ∷ []) = letter_seconds letter
unit_seconds (letter ∷ second ∷ more) = None

-- a duration that is neither nothing nor longer than ten years
abbrev pub fitting_seconds : ℕ → Option ℕ
fitting_seconds n = if nat_le 1 n && nat_le n MOST_SECONDS then Some n else None

-- this number of units
abbrev pub seconds_in : ℕ → Option ℕ → Option ℕ
seconds_in number None = None
seconds_in number (Some unit) = fitting_seconds (number * unit)

-- how many digits a text begins with
abbrev pub digit_count : List ℕ → ℕ
digit_count text = prefix_len is_ascii_digit text

-- the seconds that a text says, if it says a duration
abbrev pub duration_of : List ℕ → Option ℕ
duration_of text = seconds_in (digits_value 10 (take (digit_count text) text)) (unit_seconds (drop (digit_count text) text))
