use Rattle.std.proofs.Common.{refl}
use Rattle.clap.specs.Words.{app_of}
use Rattle.jr_cli_words.proofs.arguments.with_job_args.Goals as goal

pub returns : goal.returns
returns c =
    let with_job = rw c.job_arg.ensures.rule at (c.added-command.ensures (app_of c.args.command) refl c.job_arg.ensures.local) in
    let with_section = c.with_value-command.ensures _ with_job in
    let with_parse_only = c.with_flag-command.ensures _ with_section in
    let with_workers = c.with_number-command.ensures _ with_parse_only in
    let with_trace = c.with_value-command-2.ensures _ with_workers in
    c.with_value.ensures _ with_trace
