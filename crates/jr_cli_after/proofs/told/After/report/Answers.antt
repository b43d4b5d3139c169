use Rattle.std.proofs.Common.{◌++◌, flat_map, ap, ◌∙◌}
use Rattle.jr_cli_after.specs.Found.{lines_in}
use Rattle.jr_cli_after.proofs.Reports.{report_told}
use Rattle.jr_cli_after.proofs.told.After.report.Goals as goal

pub returns : goal.returns
returns c = λ asked files plan is.
    report_told asked files _ c.args.plan.now c.in_ok-text.text.items c.push_unread.new.text.items plan (c.self.view_is ∙ is)
    (λ found are. c.in_ok-text.ensures.report found (c.as_slice.ensures.value ∙ are))
    (c.in_ok-push_unread.ensures ∙ ap (λ l. c.in_ok-text.text.items ++ flat_map lines_in l) c.as_slice-2.ensures.value)
