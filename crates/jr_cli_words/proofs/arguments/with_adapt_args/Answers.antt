use Rattle.std.proofs.Common.{refl}
use Rattle.clap.specs.Words.{app_of}
use Rattle.jr_cli_words.proofs.arguments.with_adapt_args.Goals as goal

pub returns : goal.returns
returns c =
    let with_adapt = c.with_flag-command.ensures (app_of c.args.command) refl in
    c.with_value.ensures _ with_adapt
