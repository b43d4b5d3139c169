use Rattle.std.proofs.Common.{[], ap, ◌∙◌}
use Rattle.jr_after_report.specs.Reports.{FileState, state_of}
use Rattle.jr_cli_after.specs.Found.{FileAfterState, UnreadState, found_by}
use Rattle.jr_cli_after.proofs.files.FileAfter.new.Goals as goal

abbrev as_state : FileState → UnreadState → FileAfterState
as_state found unread = record { found = found; unread = unread }

pub returns : goal.returns
returns c = λ asked.
    ap (λ (found : FileState). as_state found c.none.result) (c.new.ensures asked.plan)
    ∙ ap (as_state (state_of asked.plan (found_by asked c.args.file []))) c.none.ensures
