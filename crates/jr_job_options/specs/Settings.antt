-- Believed: what option lines say (fio's manual, "Parameters").
use Rattle.std.specs.Prelude.{ℕ, ◌-◌, ◌≤◌, ◌==◌, nat_lt, Bool, not, List, length, Option, Some, None, is_some, Result, Ok, Err, ok_or, if◌then◌else◌}
use Rattle.std.specs.List.{position_or_len}
use Rattle.std.specs.Option.{option_map}
use Rattle.jr_model.specs.declared.limits.TheConstants.{MOST_CLONES, MOST_DEPTH, MOST_PASSES, MOST_VERIFIERS}
use Rattle.jr_text.specs.Records.{LineText}
use Rattle.jr_job_options.specs.declared.faults.JobFault.{JobFault}
use Rattle.jr_job_options.specs.declared.faults.JobFault.TheVariants as fault
use Rattle.jr_job_options.specs.declared.keys.Key.{Key}
use Rattle.jr_job_options.specs.declared.keys.Key.TheVariants.{Choice, Number, Flag, Text}
use Rattle.jr_job_options.specs.declared.keys.ChoiceKey.{ChoiceKey}
use Rattle.jr_job_options.specs.declared.keys.ChoiceKey.TheVariants as choice
use Rattle.jr_job_options.specs.declared.keys.FlagKey.{FlagKey}
use Rattle.jr_job_options.specs.declared.keys.FlagKey.TheVariants as flag
use Rattle.jr_job_options.specs.declared.keys.TextKey.{TextKey}
use Rattle.jr_job_options.specs.declared.keys.TextKey.TheVariants as text
use Rattle.jr_job_options.specs.OptionWords.{meaning_of, keys, io_types, engines, verify_kinds, submit_modes}
use Rattle.jr_job_options.specs.OptionValues.{number_within, flag_of, block_sizes, splits, is_colon, pattern_of, interval_of}
use Rattle.jr_job_options.specs.declared.keys.NumberKey.{NumberKey}
use Rattle.jr_job_options.specs.declared.keys.NumberKey.TheVariants as number
use Rattle.jr_job_options.specs.declared.settings.Setting.{Setting}
use Rattle.jr_job_options.specs.declared.settings.Setting.TheVariants as setting

-- the least and the greatest number that a key may have
abbrev pub setting_number_range : NumberKey → ℕ × ℕ
setting_number_range number.ReadPercent = (0, 100)
setting_number_range number.WritePercent = (0, 100)
setting_number_range number.Size = (0, 18446744073709551615)
setting_number_range number.Offset = (0, 18446744073709551615)
setting_number_range number.OffsetStep = (0, 18446744073709551615)
setting_number_range number.Clones = (1, MOST_CLONES)
setting_number_range number.Passes = (1, MOST_PASSES)
setting_number_range number.Depth = (1, MOST_DEPTH)
setting_number_range number.Seed = (0, 18446744073709551615)
setting_number_range number.Backlog = (0, 4294967295)
setting_number_range number.Verifiers = (0, MOST_VERIFIERS)

-- a setting's number is one that its option may have
abbrev pub IsInRange : Setting → Type 0
IsInRange (setting.ReadPercent n) = n ≤ 100
IsInRange (setting.Clones n) = (1 ≤ n) × (n ≤ MOST_CLONES)
IsInRange (setting.Passes n) = (1 ≤ n) × (n ≤ MOST_PASSES)
IsInRange (setting.Depth n) = (1 ≤ n) × (n ≤ MOST_DEPTH)
IsInRange (setting.Verifiers n) = n ≤ MOST_VERIFIERS
IsInRange _ = Unit {0}

-- what one of a few words sets
abbrev pub choice_setting : ChoiceKey → List ℕ → Option Setting
choice_setting choice.IoType word = option_map (λ v. setting.IoType v) (meaning_of io_types word)
choice_setting choice.Engine word = option_map (λ v. setting.Engine v) (meaning_of engines word)
choice_setting choice.Verify word = option_map (λ v. setting.Verify v) (meaning_of verify_kinds word)
choice_setting choice.SubmitMode word = if is_some (meaning_of submit_modes word) then Some setting.Nothing else None

-- what a flag sets
abbrev pub flag_setting : FlagKey → Bool → Setting
flag_setting flag.NoMap v = setting.HasMap (not v)
flag_setting flag.Stonewall v = setting.Stonewall v
flag_setting flag.Fatal v = setting.Fatal v
flag_setting flag.Checks v = setting.Checks v
flag_setting flag.Serialize v = setting.Declines (not v)
flag_setting flag.Direct v = setting.Direct v
flag_setting flag.Unused v = setting.Nothing

-- what a number sets; so many percent of writes leave the others to reads
abbrev pub number_made : NumberKey → ℕ → Setting
number_made number.ReadPercent n = setting.ReadPercent n
number_made number.WritePercent n = setting.ReadPercent (100 - n)
number_made number.Size n = setting.Size n
number_made number.Offset n = setting.Offset n
number_made number.OffsetStep n = setting.OffsetStep n
number_made number.Clones n = setting.Clones n
number_made number.Passes n = setting.Passes n
number_made number.Depth n = setting.Depth n
number_made number.Seed n = setting.Seed n
number_made number.Backlog n = setting.Backlog n
number_made number.Verifiers n = setting.Verifiers n

abbrev pub number_setting : NumberKey → List ℕ → Option Setting
number_setting key word = option_map (number_made key) (number_within (setting_number_range key).0 (setting_number_range key).1 word)

-- a name of one file
abbrev pub name_setting : List ℕ → ℕ → Result Setting JobFault
name_setting name line =
    if nat_lt (position_or_len is_colon name) (length name) then Err (fault.SeveralFiles line) else Ok setting.Nothing

-- what a text that isn't empty sets
abbrev pub form_setting : TextKey → List ℕ → ℕ → Result Setting JobFault
form_setting text.BlockSizes word line = ok_or (option_map (λ v. setting.BlockSizes v.0 v.1) (block_sizes word)) (fault.BadValue line)
form_setting text.Splits word line = ok_or (option_map (λ v. setting.Splits v.0 v.1) (splits word)) (fault.BadSplit line)
form_setting text.Pattern word line = ok_or (option_map (λ v. setting.Pattern v) (pattern_of word)) (fault.BadValue line)
form_setting text.Interval word line = ok_or (option_map (λ v. setting.Interval v) (interval_of word)) (fault.BadValue line)
form_setting text.FileName word line = name_setting word line
form_setting text.Directory word line = name_setting word line
form_setting text.Description word line = Ok setting.Nothing

-- what a text sets; only a description may be empty
abbrev pub text_setting : TextKey → List ℕ → ℕ → Result Setting JobFault
text_setting text.Description word line = Ok setting.Nothing
text_setting text.BlockSizes word line = if length word == 0 then Err (fault.BadValue line) else form_setting text.BlockSizes word line
text_setting text.Splits word line = if length word == 0 then Err (fault.BadValue line) else form_setting text.Splits word line
text_setting text.Pattern word line = if length word == 0 then Err (fault.BadValue line) else form_setting text.Pattern word line
text_setting text.Interval word line = if length word == 0 then Err (fault.BadValue line) else form_setting text.Interval word line
text_setting text.FileName word line = if length word == 0 then Err (fault.BadValue line) else form_setting text.FileName word line
text_setting text.Directory word line = if length word == 0 then Err (fault.BadValue line) else form_setting text.Directory word line

-- what the value of a key sets; only a flag may have none
abbrev pub valued_setting : Key → Option (List ℕ) → ℕ → Result Setting JobFault
valued_setting (Flag key) value line = ok_or (option_map (flag_setting key) (flag_of value)) (fault.BadValue line)
valued_setting (Choice key) None line = Err (fault.BadValue line)
valued_setting (Choice key) (Some word) line = ok_or (choice_setting key word) (fault.BadValue line)
valued_setting (Number key) None line = Err (fault.BadValue line)
valued_setting (Number key) (Some word) line = ok_or (number_setting key word) (fault.BadValue line)
valued_setting (Text key) None line = Err (fault.BadValue line)
valued_setting (Text key) (Some word) line = text_setting key word line

abbrev pub keyed_setting : Option Key → Option (List ℕ) → ℕ → Result Setting JobFault
keyed_setting None value line = Err (fault.Unknown line)
keyed_setting (Some key) value line = valued_setting key value line

-- what an option line says, or its fault
unfoldable pub setting_of : LineText → Result Setting JobFault
setting_of l = keyed_setting (meaning_of keys l.key) l.value l.line
