-- A fault in option lines is that of all of them.
use Rattle.std.proofs.Common.{◌≡◌, ℕ, ◌+◌, ◌<◌, List, [], ◌∷◌, ◌++◌, length, drop, slice_index_or, Result, Ok, Err, ap, ◌∙◌, sym, refl}
use Rattle.std.proofs.lemmas.List.{at_drop_more}
use Rattle.jr_text.specs.Records.{LineText}
use Rattle.jr_job_options.specs.declared.faults.JobFault.{JobFault}
use Rattle.jr_job_options.specs.declared.options.JobOptions.{JobOptions}
use Rattle.jr_job_options.specs.Options.{options_from, and_setting, with_line}
use Rattle.jr_job_options.specs.Settings.{setting_of}

pub fault_stays : (fault : JobFault) (lines : List LineText) → options_from (Err fault) lines ≡ Err fault
fault_stays fault [] = refl
fault_stays fault (line ∷ lines) = fault_stays fault lines

pub fault_there : (o : JobOptions) (fault : JobFault) (lines : List LineText) (i : ℕ) (line : LineText) → i < length lines → line ≡ slice_index_or lines i line → setting_of line ≡ Err fault → options_from (Ok o) (drop i lines) ≡ Err fault
fault_there o fault lines i line within here is =
    at_drop_more (λ rest. options_from (Ok o) rest) lines i line within
    ∙ ap (λ l. options_from (and_setting o (setting_of l)) (drop (i + 1) lines)) (sym here)
    ∙ ap (λ s. options_from (and_setting o s) (drop (i + 1) lines)) is
    ∙ fault_stays fault (drop (i + 1) lines)

-- lines that follow others
pub options_from-append : (read : Result JobOptions JobFault) (a b : List LineText) → options_from read (a ++ b) ≡ options_from (options_from read a) b
options_from-append read [] b = refl
options_from-append read (line ∷ a) b = options_from-append (with_line read line) a b
