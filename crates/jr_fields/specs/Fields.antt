-- Believed: the fields of a line, divided by single spaces, and the number that a field writes (this format is of this project).
use Rattle.std.specs.Prelude.{ℕ, ◌^◌, ◌==◌, nat_eq, nat_lt, Bool, not, ◌&&◌, ◌||◌, List, [], length, slice_get, slice_index, Option, Some, None, unwrap_or, if◌then◌else◌}
use Rattle.std.specs.Char.{is_ascii_digit}
use Rattle.std.specs.Cmp.Lexicographic.{pointwise}
use Rattle.std.specs.List.{list_all, slice_split}
use Rattle.std.specs.Str.Parse.{digits_value}

abbrev pub is_space : ℕ → Bool
is_space b = b == 32

abbrev pub fields_of : List ℕ → List (List ℕ)
fields_of text = slice_split is_space text

-- field k; an empty one where there is none
abbrev pub field_at : List (List ℕ) → ℕ → List ℕ
field_at fields k = unwrap_or (slice_get fields k) []

-- the field is this word
abbrev pub field_is : List ℕ → List ℕ → Bool
field_is field word = pointwise nat_eq field word

-- decimal digits, the first of them 0 only where it stands alone
abbrev pub is_numeral : List ℕ → Bool
is_numeral field =
    nat_lt 0 (length field) && list_all is_ascii_digit field
    && (length field == 1 || not (slice_index field 0 == 48))

-- the number that a field writes, if it is below 2 to the power of 64
abbrev pub number_in : List ℕ → Option ℕ
number_in field =
    let n = digits_value 10 field in
    if is_numeral field && nat_lt n (2 ^ 64) then Some n else None

abbrev pub number_at : List (List ℕ) → ℕ → Option ℕ
number_at fields k = number_in (field_at fields k)
