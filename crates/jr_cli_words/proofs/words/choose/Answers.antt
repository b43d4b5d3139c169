use Rattle.std.proofs.Common.{◌≡◌, ◌∙◌, ap, subst, map, List, []}
use Rattle.clap.specs.Words.{App, Text, fault_of, is_simple_and_free, HasKind}
use Rattle.jr_cli_words.specs.CommandLine.{command_line}
use Rattle.jr_cli_words.proofs.CommandLineFacts.{line_is_free, handed_on}
use Rattle.jr_cli_words.proofs.words.choose.Goals as goal

pub returns-in_err-matches-clause-refused : goal.returns-in_err-matches-clause-refused
returns-in_err-matches-clause-refused g c =
    let is = c.in_ok-command.ensures in
    let words = map g.S.AsStr.text c.args.words.now in
    let kind = c.in_err-matches.ensures.kinds (ap is_simple_and_free is ∙ line_is_free) in
    handed_on (fault_of command_line words) c.from_residual-in_err-matches.result c.in_err-matches.field-0.0 c.from_residual-in_err-matches.ensures.1
    (subst (λ (a : App). HasKind (fault_of a words) c.in_err-matches.field-0.0) is kind)

pub returns-clause-fields : goal.returns-clause-fields
returns-clause-fields g c =
    let words : List Text = map g.S.AsStr.text c.args.words.now in
    c.choice_in.ensures.fields c.in_ok-command.command words c.in_ok-command.ensures c.in_ok-matches.ensures.parsed c.in_ok-matches.ensures.matches

pub returns-clause-workers : goal.returns-clause-workers
returns-clause-workers g c =
    c.choice_in.ensures.workers c.in_ok-command.command c.in_ok-command.ensures c.in_ok-matches.ensures.parsed

pub returns-clause-progress : goal.returns-clause-progress
returns-clause-progress g c =
    c.choice_in.ensures.progress c.in_ok-command.command c.in_ok-command.ensures c.in_ok-matches.ensures.parsed

pub returns-clause-repeat : goal.returns-clause-repeat
returns-clause-repeat g c =
    c.choice_in.ensures.repeat c.in_ok-command.command c.in_ok-command.ensures c.in_ok-matches.ensures.parsed

pub returns-clause-sync_every : goal.returns-clause-sync_every
returns-clause-sync_every g c =
    c.choice_in.ensures.sync_every c.in_ok-command.command c.in_ok-command.ensures c.in_ok-matches.ensures.parsed

pub returns-clause-refused : goal.returns-clause-refused
returns-clause-refused g c =
    let words : List Text = map g.S.AsStr.text c.args.words.now in
    let is = c.in_ok-command.ensures in
    let fails = c.in_ok-matches.ensures.kinds (ap is_simple_and_free is ∙ line_is_free) in
    subst (λ (a : App). fault_of a words ≡ []) is fails
