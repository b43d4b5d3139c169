use Rattle.std.proofs.Common.{refl}
use Rattle.clap.specs.Words.{app_of}
use Rattle.jr_cli_words.proofs.arguments.with_report_args.Goals as goal

pub returns : goal.returns
returns c =
    let with_bad_blocks = c.with_value-command.ensures (app_of c.args.command) refl in
    let with_bad_blocks_size = c.with_value-command-2.ensures _ with_bad_blocks in
    let with_map = c.with_flag-command.ensures _ with_bad_blocks_size in
    let with_progress = c.with_number-command.ensures _ with_map in
    let with_json = c.with_value-command-3.ensures _ with_progress in
    c.with_value.ensures _ with_json
