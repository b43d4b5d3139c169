-- Believed: which job a ledger is of (of this project): a digest of the plan's text and of all else that its draws and their bytes follow from.
use Rattle.std.specs.Prelude.{ℕ, Bool, true, false, List, ◌++◌, flat_map, Option, Some, None, codes, decimal}
use Rattle.hex.specs.Hex.{encode_lower}
use Rattle.sha2.specs.Sha256.{sha256}
use Rattle.jr_model.specs.Plan.{SubJob, Plan}
use Rattle.jr_plan.specs.PlanText.{plan_text}

-- a pattern as its bytes in decimal, each behind a space
abbrev pub byte_text : ℕ → List ℕ
byte_text b = codes " " ++ decimal b

abbrev pub pattern_text : Option (List ℕ) → List ℕ
pattern_text None = codes " none"
pattern_text (Some pattern) = flat_map byte_text pattern

-- an entry of a split: size and percent
abbrev pub entry_text : ℕ × ℕ → List ℕ
entry_text entry = codes " " ++ decimal entry.0 ++ codes "/" ++ decimal entry.1

abbrev pub split_text : List (ℕ × ℕ) → List ℕ
split_text split = flat_map entry_text split

abbrev pub map_word : Bool → List ℕ
map_word true = codes "yes"
map_word false = codes "no"

-- what the draws of a clone and their bytes follow from, beside what the plan's text says
unfoldable pub numbers_text : SubJob → List ℕ
numbers_text job =
    codes "seed=" ++ decimal job.seed ++ codes " mix=" ++ decimal job.read_percent ++ codes " map=" ++ map_word job.has_map
    ++ codes " interval=" ++ decimal job.method.interval

abbrev pub draws_text : SubJob → List ℕ
draws_text job =
    numbers_text job
    ++ (codes " reads=" ++ split_text job.read_split)
    ++ (codes " writes=" ++ split_text job.write_split)
    ++ (codes " pattern=" ++ pattern_text job.method.pattern)
    ++ codes "\n"

-- the text that is digested
abbrev pub job_text : Plan → List ℕ
job_text plan = plan_text plan ++ flat_map draws_text plan.clones

-- its digest, as a ledger's first line has it
abbrev pub job_digest : Plan → List ℕ
job_digest plan = encode_lower (sha256 (job_text plan))
