use Rattle.std.proofs.Common.{refl}
use Rattle.clap.specs.Words.{app_of}
use Rattle.jr_cli_words.proofs.arguments.with_ledger_args.Goals as goal

pub returns : goal.returns
returns c =
    let with_ledger = c.with_value-command.ensures (app_of c.args.command) refl in
    let with_sync_every = c.with_number-command.ensures _ with_ledger in
    c.with_value.ensures _ with_sync_every
