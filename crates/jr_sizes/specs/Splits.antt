-- Believed: what the text of a split says (fio's manual, "bssplit"; the order of the faults is of this project): entries
-- with a `:` between them, each `size/percent`, `size/` or `size`.
use Rattle.std.specs.Prelude.{ℕ, zero, suc, ◌+◌, ◌-◌, ◌/◌, ◌%◌, nat_lt, nat_le, ◌==◌, Bool, List, [], ◌∷◌, ◌++◌, length, sum_by, count_by, is_none, Option, Some, None, Result, Ok, Err, if◌then◌else◌, unwrap_or}
use Rattle.std.specs.List.{slice_split, before_first, after_first}
use Rattle.jr_text.specs.declared.faults.NumFault.{NumFault}
use Rattle.jr_text.specs.Number.{number_of}
use Rattle.jr_sizes.specs.declared.faults.SplitFault.{SplitFault}
use Rattle.jr_sizes.specs.declared.faults.SplitFault.TheVariants.{TooMany, BadSize, BadPercent, Over, Under}

abbrev pub is_colon : ℕ → Bool
is_colon b = b == 58

abbrev pub is_slash : ℕ → Bool
is_slash b = b == 47

-- a size, below 2 to the power of 32
abbrev pub small_size : Result ℕ NumFault → Result ℕ SplitFault
small_size (Err fault) = Err BadSize
small_size (Ok n) = if nat_lt n 4294967296 then Ok n else Err BadSize

-- a percent, at most 100
abbrev pub small_percent : Result ℕ NumFault → Result (Option ℕ) SplitFault
small_percent (Err fault) = Err BadPercent
small_percent (Ok n) = if nat_le n 100 then Ok (Some n) else Err BadPercent

-- what follows the `/`: nothing leaves the percent blank
abbrev pub percent_in : List ℕ → Result (Option ℕ) SplitFault
percent_in [] = Ok None
percent_in (b ∷ text) = small_percent (number_of (b ∷ text))

-- a size and a percent, or the first fault of the two
abbrev pub entry_with : Result ℕ SplitFault → Result (Option ℕ) SplitFault → Result (ℕ × Option ℕ) SplitFault
entry_with (Err fault) percent = Err fault
entry_with (Ok size) (Err fault) = Err fault
entry_with (Ok size) (Ok percent) = Ok (size, percent)

abbrev pub entry_of : List ℕ → Result (ℕ × Option ℕ) SplitFault
entry_of text =
    entry_with (small_size (number_of (before_first is_slash text))) (percent_in (after_first is_slash text))

-- an entry in front of others, or the first fault
abbrev pub and_entries : Result (ℕ × Option ℕ) SplitFault → Result (List (ℕ × Option ℕ)) SplitFault → Result (List (ℕ × Option ℕ)) SplitFault
and_entries (Err fault) others = Err fault
and_entries (Ok entry) (Err fault) = Err fault
and_entries (Ok entry) (Ok entries) = Ok (entry ∷ entries)

abbrev pub entries_of : List (List ℕ) → Result (List (ℕ × Option ℕ)) SplitFault
entries_of [] = Ok []
entries_of (text ∷ texts) = and_entries (entry_of text) (entries_of texts)

-- entries in front of others, unless these have a fault
abbrev pub with_entries : List (ℕ × Option ℕ) → Result (List (ℕ × Option ℕ)) SplitFault → Result (List (ℕ × Option ℕ)) SplitFault
with_entries front (Err fault) = Err fault
with_entries front (Ok entries) = Ok (front ++ entries)

-- the percents that are given, all together, and how many are left blank
abbrev pub given_total : List (ℕ × Option ℕ) → ℕ
given_total entries = sum_by (λ (entry : ℕ × Option ℕ). unwrap_or entry.1 0) entries

abbrev pub blank_count : List (ℕ × Option ℕ) → ℕ
blank_count entries = count_by (λ (entry : ℕ × Option ℕ). is_none entry.1) entries

-- the percent of one entry, where a blank one gets `each` and, while some are left over, one more; and what is then left
abbrev pub share_step : ℕ → ℕ → Option ℕ → ℕ × ℕ
share_step each extra (Some percent) = (percent, extra)
share_step each zero None = (each, 0)
share_step each (suc extra) None = (each + 1, extra)

-- the entries with their percents: each blank gets so many, and the first ones, so many, one more
abbrev pub share : ℕ → ℕ → List (ℕ × Option ℕ) → List (ℕ × ℕ)
share each extra [] = []
share each extra (entry ∷ entries) =
    (entry.0, (share_step each extra entry.1).0) ∷ share each (share_step each extra entry.1).1 entries

-- what is missing to 100 is shared evenly among the blanks, and a remainder goes to the first ones
abbrev pub shared : List (ℕ × Option ℕ) → Result (List (ℕ × ℕ)) SplitFault
shared entries =
    let missing = 100 - given_total entries in
    let blanks = blank_count entries in
    if nat_lt 100 (given_total entries) then Err Over
    else (if blanks == 0 then (if missing == 0 then Ok (share 0 0 entries) else Err Under)
    else Ok (share (missing / blanks) (missing % blanks) entries))

abbrev pub shared_of : Result (List (ℕ × Option ℕ)) SplitFault → Result (List (ℕ × ℕ)) SplitFault
shared_of (Err fault) = Err fault
shared_of (Ok entries) = shared entries

-- the split that a text says, or its first fault
abbrev pub split_of : List ℕ → Result (List (ℕ × ℕ)) SplitFault
split_of text =
    let texts = slice_split is_colon text in
    if nat_lt 64 (length texts) then Err TooMany else shared_of (entries_of texts)
