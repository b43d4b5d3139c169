use Rattle.std.proofs.Common.{refl}
use Rattle.clap.specs.Words.{app_of}
use Rattle.jr_cli_words.proofs.arguments.with_run_args.Goals as goal

pub returns : goal.returns
returns c =
    let with_cached = c.with_flag-command.ensures (app_of c.args.command) refl in
    let with_allow_mounted_write = c.with_flag-command-2.ensures _ with_cached in
    let with_notes = c.with_flag-command-3.ensures _ with_allow_mounted_write in
    let with_drop_pipes = c.with_hidden-command.ensures _ with_notes in
    let with_interrupted = c.with_flag-command-4.ensures _ with_drop_pipes in
    c.with_hidden.ensures _ with_interrupted
