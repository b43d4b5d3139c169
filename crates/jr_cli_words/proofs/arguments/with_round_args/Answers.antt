use Rattle.std.proofs.Common.{refl}
use Rattle.clap.specs.Words.{app_of}
use Rattle.jr_cli_words.proofs.arguments.with_round_args.Goals as goal

pub returns : goal.returns
returns c =
    let with_for = c.with_value-command.ensures (app_of c.args.command) refl in
    let with_repeat = c.with_number-command.ensures _ with_for in
    let with_keep_going = c.with_flag-command.ensures _ with_repeat in
    c.with_flag.ensures _ with_keep_going
