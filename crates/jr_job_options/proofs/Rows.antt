-- What worked option lines say, by computing.
use Rattle.std.proofs.Common.{◌≡◌, ℕ, List, [], ◌∷◌, Some, refl, codes}
use Rattle.jr_text.specs.Number.{number_of}
use Rattle.jr_text.specs.Records.{LineText}
use Rattle.jr_job_options.specs.Lookups.{options_in}
use Rattle.jr_job_options.specs.Settings.{setting_of}

-- the option `key=value` on a line
setting : ℕ → List ℕ → List ℕ → LineText
setting line key value = record { line = line; key = key; value = Some value }

-- of `rwmixread` and `rwmixwrite` the last one decides
mix_row : (options_in (setting 2 (codes "rwmixread") (codes "70") ∷ setting 3 (codes "rwmixwrite") (codes "40") ∷ [])).read_percent ≡ 60
unfolding setting setting_of number_of
mix_row = refl

mix_turned_row : (options_in (setting 2 (codes "rwmixwrite") (codes "40") ∷ setting 3 (codes "rwmixread") (codes "70") ∷ [])).read_percent ≡ 70
unfolding setting setting_of number_of
mix_turned_row = refl

-- aliases are one key
alias_row : (options_in (setting 2 (codes "bs") (codes "8k") ∷ setting 3 (codes "blocksize") (codes "16k,1k") ∷ [])).write_size ≡ 1024
unfolding setting setting_of number_of
alias_row = refl
