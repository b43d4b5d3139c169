-- Believed: the command line: its arguments, as clap reads them, and what it holds for each.
use Rattle.std.specs.Prelude.{◌≡◌, ℕ, false, true, List, Some, option_map, unwrap_or, codes, pos}
use Rattle.std.specs.Option.{option_copied}
use Rattle.std.specs.Str.{bytes_eq}
use Rattle.std.specs.Str.Parse.{digits_value, without_leading_plus}
use Rattle.clap.specs.Simple.{on_top}
use Rattle.clap.specs.Words.{App, Row, Rule, Text, first_of, new_app, new_rule, one_of, with_rule}
use Rattle.clap.specs.declared.builder.ArgAction.TheVariants.{Set, SetTrue}
use Rattle.clap.specs.declared.builder.value_parser.ValueParser.TheVariants as parser
use Rattle.jr_cli_words.specs.declared.words.Choice.{Choice}

-- an option that takes one value
abbrev pub option_rule : Text → Rule
option_rule name = record (new_rule name) { long = Some name; action = Some Set; value_names = 1 }

abbrev pub job_rule : Rule
job_rule = record (new_rule (codes "job")) { action = Some Set; value_names = 1 }

abbrev pub section_rule : Rule
section_rule = option_rule (codes "section")

-- a flag
abbrev pub flag_rule : Text → Rule
flag_rule name = record (new_rule name) { long = Some name; action = Some SetTrue; parser = Some parser.Bool }

abbrev pub parse_only_rule : Rule
parse_only_rule = flag_rule (codes "parse-only")

-- from 1 to 16
abbrev pub workers_rule : Rule
workers_rule = record (option_rule (codes "workers")) { parser = Some (parser.Signed (pos 1) (pos 16)) }

abbrev pub trace_rule : Rule
trace_rule = option_rule (codes "trace")

abbrev pub check_trace_rule : Rule
check_trace_rule = option_rule (codes "check-trace")

abbrev pub cached_rule : Rule
cached_rule = flag_rule (codes "cached")

abbrev pub allow_mounted_write_rule : Rule
allow_mounted_write_rule = flag_rule (codes "allow-mounted-write")

abbrev pub notes_rule : Rule
notes_rule = flag_rule (codes "notes")

abbrev pub drop_pipes_rule : Rule
drop_pipes_rule = option_rule (codes "drop-pipes")

abbrev pub interrupted_rule : Rule
interrupted_rule = flag_rule (codes "interrupted")

abbrev pub stop_fd_rule : Rule
stop_fd_rule = option_rule (codes "stop-fd")

abbrev pub bad_blocks_rule : Rule
bad_blocks_rule = option_rule (codes "bad-blocks")

abbrev pub bad_blocks_size_rule : Rule
bad_blocks_size_rule = option_rule (codes "bad-blocks-size")

abbrev pub map_rule : Rule
map_rule = flag_rule (codes "map")

-- from 1 to 86400, the seconds of a day
abbrev pub progress_rule : Rule
progress_rule = record (option_rule (codes "progress")) { parser = Some (parser.Signed (pos 1) (pos 86400)) }

abbrev pub json_rule : Rule
json_rule = option_rule (codes "json")

abbrev pub page_rule : Rule
page_rule = option_rule (codes "page")

-- how long the job is run again and again
abbrev pub for_rule : Rule
for_rule = option_rule (codes "for")

-- from 1 to 4294967295
abbrev pub repeat_rule : Rule
repeat_rule = record (option_rule (codes "repeat")) { parser = Some (parser.Signed (pos 1) (pos 4294967295)) }

abbrev pub keep_going_rule : Rule
keep_going_rule = flag_rule (codes "keep-going")

abbrev pub keep_traces_rule : Rule
keep_traces_rule = flag_rule (codes "keep-traces")

abbrev pub go_on_rule : Rule
go_on_rule = flag_rule (codes "go-on")

-- what the list of bad blocks has beside them
abbrev pub bad_blocks_also_rule : Rule
bad_blocks_also_rule = option_rule (codes "bad-blocks-also")

abbrev pub adapt_rule : Rule
adapt_rule = flag_rule (codes "adapt")

-- the size of a job that has none, where it is adapted
abbrev pub size_rule : Rule
size_rule = option_rule (codes "size")

-- where the ledger of the run goes
abbrev pub ledger_rule : Rule
ledger_rule = option_rule (codes "ledger")

-- from 1 to 4294967295
abbrev pub sync_every_rule : Rule
sync_every_rule = record (option_rule (codes "sync-every")) { parser = Some (parser.Signed (pos 1) (pos 4294967295)) }

-- the ledger by which the files are judged
abbrev pub after_rule : Rule
after_rule = option_rule (codes "after")

-- a program that tells its version
abbrev pub with_version : App → App
with_version app = on_top (λ shape. record shape { has_version = true }) app

-- with the arguments for the job and its trace
abbrev pub with_job_rules : App → App
with_job_rules app = with_rule (with_rule (with_rule (with_rule (with_rule (
    with_rule app job_rule) section_rule) parse_only_rule) workers_rule) trace_rule) check_trace_rule

-- with the arguments for how files are used, faults told and runs stopped
abbrev pub with_run_rules : App → App
with_run_rules app = with_rule (with_rule (with_rule (with_rule (with_rule (
    with_rule app cached_rule) allow_mounted_write_rule) notes_rule) drop_pipes_rule) interrupted_rule) stop_fd_rule

-- with the arguments for what else a run tells
abbrev pub with_report_rules : App → App
with_report_rules app = with_rule (with_rule (with_rule (with_rule (with_rule (
    with_rule app bad_blocks_rule) bad_blocks_size_rule) map_rule) progress_rule) json_rule) page_rule

-- with the arguments for rounds of the job
abbrev pub with_round_rules : App → App
with_round_rules app = with_rule (with_rule (with_rule (with_rule app for_rule) repeat_rule) keep_going_rule) keep_traces_rule

-- with the arguments for going on after faults
abbrev pub with_go_on_rules : App → App
with_go_on_rules app = with_rule (with_rule app go_on_rule) bad_blocks_also_rule

-- with the arguments for a job file that is adapted
abbrev pub with_adapt_rules : App → App
with_adapt_rules app = with_rule (with_rule app adapt_rule) size_rule

-- with the arguments for a ledger, and for what is judged by one
abbrev pub with_ledger_rules : App → App
with_ledger_rules app = with_rule (with_rule (with_rule app ledger_rule) sync_every_rule) after_rule

unfoldable pub command_line : App
command_line =
    with_ledger_rules (with_adapt_rules (with_go_on_rules (with_round_rules (with_report_rules (with_run_rules (with_job_rules (with_version
    (new_app (codes "fiorun")))))))))

-- the number that a text of digits writes
abbrev pub number_in : Text → ℕ
number_in text = digits_value 10 (without_leading_plus text)

-- each field is what the matches hold for its argument
pub record IsChoiceOf (choice : Choice) (rows : List Row) : Type 0 where
  pub job : option_copied choice.job ≡ first_of (codes "job") rows
  pub section : option_copied choice.section ≡ first_of (codes "section") rows
  pub parse_only : choice.parse_only ≡ unwrap_or (option_map (bytes_eq (codes "true")) (one_of (codes "parse-only") rows)) false
  pub workers : choice.workers ≡ option_map number_in (one_of (codes "workers") rows)
  pub trace : option_copied choice.trace ≡ first_of (codes "trace") rows
  pub check_trace : option_copied choice.check_trace ≡ first_of (codes "check-trace") rows
  pub cached : choice.cached ≡ unwrap_or (option_map (bytes_eq (codes "true")) (one_of (codes "cached") rows)) false
  pub allow_mounted_write : choice.allow_mounted_write ≡ unwrap_or (option_map (bytes_eq (codes "true")) (one_of (codes "allow-mounted-write") rows)) false
  pub notes : choice.notes ≡ unwrap_or (option_map (bytes_eq (codes "true")) (one_of (codes "notes") rows)) false
  pub drop_pipes : option_copied choice.drop_pipes ≡ first_of (codes "drop-pipes") rows
  pub interrupted : choice.interrupted ≡ unwrap_or (option_map (bytes_eq (codes "true")) (one_of (codes "interrupted") rows)) false
  pub stop_fd : option_copied choice.stop_fd ≡ first_of (codes "stop-fd") rows
  pub bad_blocks : option_copied choice.bad_blocks ≡ first_of (codes "bad-blocks") rows
  pub bad_blocks_size : option_copied choice.bad_blocks_size ≡ first_of (codes "bad-blocks-size") rows
  pub map : choice.map ≡ unwrap_or (option_map (bytes_eq (codes "true")) (one_of (codes "map") rows)) false
  pub progress : choice.progress ≡ option_map number_in (one_of (codes "progress") rows)
  pub json : option_copied choice.json ≡ first_of (codes "json") rows
  pub page : option_copied choice.page ≡ first_of (codes "page") rows
  pub run_for : option_copied choice.run_for ≡ first_of (codes "for") rows
  pub repeat : choice.repeat ≡ option_map number_in (one_of (codes "repeat") rows)
  pub keep_going : choice.keep_going ≡ unwrap_or (option_map (bytes_eq (codes "true")) (one_of (codes "keep-going") rows)) false
  pub keep_traces : choice.keep_traces ≡ unwrap_or (option_map (bytes_eq (codes "true")) (one_of (codes "keep-traces") rows)) false
  pub go_on : choice.go_on ≡ unwrap_or (option_map (bytes_eq (codes "true")) (one_of (codes "go-on") rows)) false
  pub bad_blocks_also : option_copied choice.bad_blocks_also ≡ first_of (codes "bad-blocks-also") rows
  pub adapt : choice.adapt ≡ unwrap_or (option_map (bytes_eq (codes "true")) (one_of (codes "adapt") rows)) false
  pub size : option_copied choice.size ≡ first_of (codes "size") rows
  pub ledger : option_copied choice.ledger ≡ first_of (codes "ledger") rows
  pub sync_every : choice.sync_every ≡ option_map number_in (one_of (codes "sync-every") rows)
  pub after : option_copied choice.after ≡ first_of (codes "after") rows
