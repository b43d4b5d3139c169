use Rattle.std.proofs.Common.{refl}
use Rattle.clap.specs.Words.{app_of}
use Rattle.jr_cli_words.proofs.arguments.with_go_on_args.Goals as goal

pub returns : goal.returns
returns c =
    let with_go_on = c.with_flag-command.ensures (app_of c.args.command) refl in
    c.with_value.ensures _ with_go_on
