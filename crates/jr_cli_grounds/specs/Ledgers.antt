-- Believed: when a ledger that the words ask for is refused, and by which fault (of this project).
use Rattle.std.specs.Prelude.{Bool, false, true, ◌||◌, Option, Some, None, is_some, if◌then◌else◌}
use Rattle.jr_model.specs.declared.workloads.EngineKind.{EngineKind}
use Rattle.jr_model.specs.declared.workloads.EngineKind.TheVariants as engine
use Rattle.jr_model.specs.Plan.{Plan}
use Rattle.jr_after_plans.specs.Taken.{after_fault}
use Rattle.jr_cli_words.specs.declared.words.Choice.{Choice}
use Rattle.jr_cli_words.specs.declared.faults.CliFault.{CliFault}
use Rattle.jr_cli_words.specs.declared.faults.CliFault.TheVariants as fault

-- the words ask for several rounds
abbrev pub has_rounds : Choice → Bool
has_rounds choice = is_some choice.run_for || is_some choice.repeat || choice.go_on

-- the engine has files, which are there after a cut
abbrev pub has_files : EngineKind → Bool
has_files engine.File = true
has_files engine.Memory = false
has_files engine.Null = false

-- why the files of the plan can't be judged after a cut
abbrev pub unjudgeable : Plan → Option CliFault
unjudgeable plan =
    if has_files plan.engine
    then (if is_some (after_fault plan) then Some fault.LedgerJob else None)
    else Some fault.LedgerEngine

-- of a run of the plan for which the words ask for a ledger
abbrev pub fault_of_ledger : Choice → Plan → Option CliFault
fault_of_ledger choice plan = if has_rounds choice then Some fault.LedgerRounds else unjudgeable plan

abbrev pub ledger_fault : Choice → Plan → Option CliFault
ledger_fault choice plan = if is_some choice.ledger then fault_of_ledger choice plan else None
