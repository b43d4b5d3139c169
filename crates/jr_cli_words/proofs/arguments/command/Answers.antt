use Rattle.std.proofs.Common.{◌∙◌, ap}
use Rattle.std.proofs.lemmas.Result.{IfOk-weaker}
use Rattle.clap.specs.Simple.{app_of_fields}
use Rattle.jr_cli_words.specs.CommandLine.{command_line, with_version, with_job_rules, with_run_rules, with_report_rules, with_round_rules, with_go_on_rules, with_adapt_rules, with_ledger_rules}
use Rattle.jr_cli_words.proofs.arguments.command.Goals as goal

pub returns : goal.returns
unfolding command_line
returns c =
    let versioned = ap app_of_fields c.version.ensures ∙ ap with_version c.new.ensures.app in
    let named = ap app_of_fields c.about-command.ensures ∙ versioned in
    let with_job = c.in_ok-command.ensures ∙ ap with_job_rules named in
    let with_run = c.in_ok-command-2.ensures ∙ ap with_run_rules with_job in
    let with_report = c.in_ok-command-3.ensures ∙ ap with_report_rules with_run in
    let with_round = c.in_ok-command-4.ensures ∙ ap with_round_rules with_report in
    let with_go_on = c.in_ok-command-5.ensures ∙ ap with_go_on_rules with_round in
    let with_adapt = c.in_ok-command-6.ensures ∙ ap with_adapt_rules with_go_on in
    IfOk-weaker c.with_ledger_args.result _ _ (λ r made. made ∙ ap with_ledger_rules with_adapt) c.with_ledger_args.ensures
