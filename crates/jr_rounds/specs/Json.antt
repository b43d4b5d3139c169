-- Believed: the lines of JSON that tell of rounds and of their sums (RFC 8259; the names are of this project).
use Rattle.std.specs.Prelude.{ℕ, List, ◌++◌, codes, decimal}
use Rattle.serde_json.specs.Data.{array}
use Rattle.serde_json.specs.View.{items_of}
use Rattle.serde_json.specs.Written.{compact_text}
use Rattle.jr_model.specs.Plan.{Plan}
use Rattle.jr_report_json.specs.Json.{Notes, clones_json, json_of}
use Rattle.jr_cli_ends.specs.declared.storage.Storage.{Storage}
use Rattle.jr_cli_ends.specs.Findings.{RunOf, end_of}
use Rattle.jr_rounds.specs.Seeds.{seed_offset}
use Rattle.jr_rounds.specs.Sums.{RoundSums}

-- a round: its number, how far its seeds are from those of the plan, and the report of its run
abbrev pub round_line : ℕ → RunOf → Notes → Storage → List ℕ
round_line round run notes storage =
    codes "{\"round\":" ++ decimal round ++ codes ",\"randseed_offset\":" ++ decimal (seed_offset round)
    ++ codes ",\"report\":" ++ compact_text (json_of (end_of run storage) run.plan run.history notes) ++ codes "}\n"

-- how many rounds there were, and the sums of each clone, as the report of a run has its totals
abbrev pub sums_line : Plan → RoundSums → List ℕ
sums_line plan sums =
    codes "{\"rounds\":" ++ decimal sums.rounds ++ codes ",\"totals\":"
    ++ compact_text (array (items_of (clones_json plan.clones sums.totals))) ++ codes "}\n"
