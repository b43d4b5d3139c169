use Rattle.std.proofs.Common.{◌∙◌, ap}
use Rattle.std.proofs.lemmas.Result.{IfOk-weaker}
use Rattle.clap.specs.Words.{rule_of, with_rule}
use Rattle.jr_cli_words.proofs.arguments.added.Goals as goal

pub returns : goal.returns
returns c app before local =
    IfOk-weaker c.arg.result _ _ (λ r added. added.shape local ∙ ap (λ a. with_rule a (rule_of c.args.arg)) (rw c.in_ok-command.was at before)) c.arg.ensures
