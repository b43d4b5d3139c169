-- Believed: the values of options, as texts (fio's manual, "Parameter types"; the rules for commas are of this project).
use Rattle.std.specs.Prelude.{ℕ, ◌+◌, ◌*◌, ◌%◌, nat_le, nat_lt, ◌==◌, Bool, true, ◌&&◌, List, [], ◌∷◌, ◌++◌, length, drop, Option, Some, None, Result, Ok, Err, if◌then◌else◌}
use Rattle.std.specs.List.{slice_split, list_all}
use Rattle.std.specs.Char.{digit_value, is_ascii_digit}
use Rattle.std.specs.Option.{option_map}
use Rattle.std.specs.Result.{result_ok}
use Rattle.jr_model.specs.declared.limits.TheConstants.{LARGEST_BLOCK, SECTOR}
use Rattle.jr_text.specs.declared.faults.NumFault.{NumFault}
use Rattle.jr_text.specs.Number.{number_of, is_hexadecimal}
use Rattle.jr_sizes.specs.Splits.{split_of}

-- the number where it lies within these bounds
abbrev pub within : ℕ → ℕ → Result ℕ NumFault → Option ℕ
within least most (Err fault) = None
within least most (Ok n) = if nat_le least n && nat_le n most then Some n else None

-- the number that a text writes, where it lies within these bounds
abbrev pub number_within : ℕ → ℕ → List ℕ → Option ℕ
number_within least most text = within least most (number_of text)

-- a flag is 0 or 1
abbrev pub flag_in : List ℕ → Option Bool
flag_in text = option_map (λ n. n == 1) (number_within 0 1 text)

-- and 1 where there is no value
abbrev pub flag_of : Option (List ℕ) → Option Bool
flag_of None = Some true
flag_of (Some text) = flag_in text

abbrev pub is_comma : ℕ → Bool
is_comma b = b == 44

abbrev pub is_colon : ℕ → Bool
is_colon b = b == 58

-- what reads, writes and trims have of one to three values: the last goes to all later ones too
abbrev pub by_direction : List (List ℕ) → Option (List ℕ × List ℕ × List ℕ)
by_direction [] = None
by_direction (a ∷ []) = Some (a, a, a)
by_direction (a ∷ b ∷ []) = Some (a, b, b)
by_direction (a ∷ b ∷ c ∷ []) = Some (a, b, c)
by_direction (a ∷ b ∷ c ∷ d ∷ more) = None

abbrev pub is_empty_text : List ℕ → Bool
is_empty_text text = length text == 0

-- one to three values that aren't all empty
abbrev pub some_given : Option (List ℕ × List ℕ × List ℕ) → Option (List ℕ × List ℕ × List ℕ)
some_given None = None
some_given (Some v) =
    if is_empty_text v.0 && is_empty_text v.1 && is_empty_text v.2 then None else Some v

abbrev pub values_in : List ℕ → Option (List ℕ × List ℕ × List ℕ)
values_in text = some_given (by_direction (slice_split is_comma text))

-- a block size; where nothing stands it is 4096
abbrev pub block_size : List ℕ → Option ℕ
block_size [] = Some 4096
block_size (b ∷ text) = number_within 0 4294967295 (b ∷ text)

-- the block sizes of reads and writes, where that of trims is one too
abbrev pub sizes_with : Option ℕ → Option ℕ → Option ℕ → Option (ℕ × ℕ)
sizes_with None writes trims = None
sizes_with (Some r) None trims = None
sizes_with (Some r) (Some w) None = None
sizes_with (Some r) (Some w) (Some t) = Some (r, w)

abbrev pub sizes_in : Option (List ℕ × List ℕ × List ℕ) → Option (ℕ × ℕ)
sizes_in None = None
sizes_in (Some v) = sizes_with (block_size v.0) (block_size v.1) (block_size v.2)

abbrev pub block_sizes : List ℕ → Option (ℕ × ℕ)
block_sizes text = sizes_in (values_in text)

-- the split of one direction; nothing leaves it to the block size
abbrev pub split_part : List ℕ → Option (Option (List (ℕ × ℕ)))
split_part [] = Some None
split_part (b ∷ text) = option_map Some (result_ok (split_of (b ∷ text)))

abbrev pub splits_with : Option (Option (List (ℕ × ℕ))) → Option (Option (List (ℕ × ℕ))) → Option (Option (List (ℕ × ℕ))) → Option (Option (List (ℕ × ℕ)) × Option (List (ℕ × ℕ)))
splits_with None writes trims = None
splits_with (Some r) None trims = None
splits_with (Some r) (Some w) None = None
splits_with (Some r) (Some w) (Some t) = Some (r, w)

abbrev pub splits_in : Option (List ℕ × List ℕ × List ℕ) → Option (Option (List (ℕ × ℕ)) × Option (List (ℕ × ℕ)))
splits_in None = None
splits_in (Some v) = splits_with (split_part v.0) (split_part v.1) (split_part v.2)

-- the splits of reads and writes, where that of trims is one too
abbrev pub splits : List ℕ → Option (Option (List (ℕ × ℕ)) × Option (List (ℕ × ℕ)))
splits text = splits_in (values_in text)

-- a hexadecimal digit, and two of them as a byte
abbrev pub hex_digit : ℕ → Option ℕ
hex_digit b = if nat_lt (digit_value b) 16 then Some (digit_value b) else None

abbrev pub joined_digits : Option ℕ → Option ℕ → Option ℕ
joined_digits None low = None
joined_digits (Some high) None = None
joined_digits (Some high) (Some low) = Some (high * 16 + low)

abbrev pub hex_byte : ℕ → ℕ → Option ℕ
hex_byte a b = joined_digits (hex_digit a) (hex_digit b)

-- a byte in front of others
abbrev pub and_byte : Option ℕ → Option (List ℕ) → Option (List ℕ)
and_byte None rest = None
and_byte (Some byte) None = None
and_byte (Some byte) (Some rest) = Some (byte ∷ rest)

-- the bytes of hexadecimal digits, two a byte
abbrev pub hex_pairs : List ℕ → Option (List ℕ)
hex_pairs [] = Some []
hex_pairs (a ∷ []) = None
hex_pairs (a ∷ b ∷ digits) = and_byte (hex_byte a b) (hex_pairs digits)

-- bytes in front of others, if there are others
abbrev pub with_bytes : List ℕ → Option (List ℕ) → Option (List ℕ)
with_bytes front None = None
with_bytes front (Some rest) = Some (front ++ rest)

-- and with a 0 before an odd count of them
abbrev pub hex_bytes : List ℕ → Option (List ℕ)
hex_bytes digits = if length digits % 2 == 1 then hex_pairs (48 ∷ digits) else hex_pairs digits

abbrev pub hex_pattern : List ℕ → Option (List ℕ)
hex_pattern digits = if nat_lt 0 (length digits) && nat_le (length digits) 128 then hex_bytes digits else None

-- decimal digits alone, for one byte
abbrev pub decimal_pattern : List ℕ → Option (List ℕ)
decimal_pattern text =
    if list_all is_ascii_digit text then option_map (λ n. n ∷ []) (number_within 0 255 text) else None

-- the pattern that a text says: hexadecimal digits behind `0x`, or one byte in decimal
abbrev pub pattern_of : List ℕ → Option (List ℕ)
pattern_of text = if is_hexadecimal text then hex_pattern (drop 2 text) else decimal_pattern text

-- the number where it is of whole blocks of 512 bytes
abbrev pub in_sectors : Option ℕ → Option ℕ
in_sectors None = None
in_sectors (Some n) = if n % SECTOR == 0 then Some n else None

-- the bytes from one header to the next: whole blocks, up to the largest one
abbrev pub interval_of : List ℕ → Option ℕ
interval_of text = in_sectors (number_within 0 LARGEST_BLOCK text)
