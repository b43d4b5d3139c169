-- Believed: when a judgement after a cut is refused, and by which fault (of this project).
use Rattle.std.specs.Prelude.{Bool, ◌||◌, Option, Some, is_some, if◌then◌else◌}
use Rattle.jr_model.specs.Plan.{Plan}
use Rattle.jr_cli_words.specs.declared.words.Choice.{Choice}
use Rattle.jr_cli_words.specs.declared.faults.CliFault.{CliFault}
use Rattle.jr_cli_words.specs.declared.faults.CliFault.TheVariants as fault
use Rattle.jr_cli_grounds.specs.Ledgers.{has_rounds, unjudgeable}

-- the words ask for a trace, or for one to be checked
abbrev pub has_traces : Choice → Bool
has_traces choice = is_some choice.trace || is_some choice.check_trace || choice.keep_traces

-- they ask for what a run alone has: a ledger, a trace, rounds or a map
abbrev pub has_run_words : Choice → Bool
has_run_words choice =
    is_some choice.ledger || is_some choice.sync_every || has_traces choice || has_rounds choice || choice.map

-- of a judgement of the plan's files that the words ask for
abbrev pub judgement_fault : Choice → Plan → Option CliFault
judgement_fault choice plan = if has_run_words choice then Some fault.AfterRun else unjudgeable plan
