use Rattle.std.proofs.Common.{ap, ◌∙◌}
use Rattle.std.specs.List.{list_any}
use Rattle.jr_cli_after.specs.Found.{has_fault_counted, has_some}
use Rattle.jr_cli_after.proofs.Reports.{status_told}
use Rattle.jr_cli_after.proofs.told.After.status.Goals as goal

pub returns : goal.returns
returns c = λ asked files is.
    c.status_by.ensures
    ∙ status_told asked files _ c.has_lost.result c.has_unread.result (c.self.view_is ∙ is)
    (c.has_lost.ensures ∙ ap (list_any has_fault_counted) c.as_slice.ensures.value)
    (c.has_unread.ensures ∙ ap (list_any has_some) c.as_slice-2.ensures.value)
