use Rattle.std.proofs.Common.{◌≡◌, ◌∙◌, arith, refl, ap, ℕ, Option, option_map, false, codes}
use Rattle.std.specs.Prelude.{Result, unwrap_or}
use Rattle.std.specs.Str.{bytes_eq}
use Rattle.std.specs.Str.Parse.{ParsesUnsigned, ExplainsUnsignedError, HasUnsignedDigitsIfOk}
use Rattle.std.specs.declared.num.ParseIntError.{ParseIntError}
use Rattle.clap.specs.Words.{Text, found_of, one_of, one_text, first_of, first_value, matches_of}
use Rattle.clap.proofs.WalkLemmas.{first_value-rows, one_text-rows}
use Rattle.jr_cli_words.specs.CommandLine.{command_line, number_in}
use Rattle.jr_cli_words.proofs.CommandLineFacts.{adapt_parser, allow_mounted_write_parser, cached_parser, interrupted_parser, map_parser, notes_parser, parse_only_parser, progress_parser, repeat_parser, sync_every_parser, keep_going_parser, keep_traces_parser, go_on_parser, workers_parser, number_read, flag_read, rows_are}
use Rattle.jr_cli_words.proofs.words.choice_in.Goals as goal

-- how the number of a text is read
abbrev Reads : Text → Result ℕ ParseIntError → Type 0
Reads text r = ParsesUnsigned 32 10 text r × ExplainsUnsignedError 10 text r × HasUnsignedDigitsIfOk text r

pub returns-clause-fields : goal.returns-clause-fields
returns-clause-fields c command words is parsed has =
    let m = c.args.matches.now in
    let rows = rows_are command m is parsed words has in
    let first : (id : Text) → first_value (found_of m) id ≡ first_of id (matches_of command_line words) = λ id. first_value-rows (found_of m) id ∙ ap (first_of id) rows in
    let one : (id : Text) → one_text (found_of m) id ≡ one_of id (matches_of command_line words) = λ id. one_text-rows (found_of m) id ∙ ap (one_of id) rows in
    let count = number_read command m is parsed (codes "workers") 16 workers_parser refl refl refl (omega arith) Reads c.get_one.result (λ u x h. h.0) c.get_one.ensures.none c.get_one.ensures.value in
    let seconds = number_read command m is parsed (codes "progress") 86400 progress_parser refl refl refl (omega arith) Reads c.get_one-2.result (λ u x h. h.0) c.get_one-2.ensures.none c.get_one-2.ensures.value in
    let only = flag_read command m is parsed (codes "parse-only") parse_only_parser refl refl refl c.get_flag.result c.get_flag.ensures.none c.get_flag.ensures.value c.get_flag.ensures.other in
    let cached = flag_read command m is parsed (codes "cached") cached_parser refl refl refl c.get_flag-2.result c.get_flag-2.ensures.none c.get_flag-2.ensures.value c.get_flag-2.ensures.other in
    let allowed = flag_read command m is parsed (codes "allow-mounted-write") allow_mounted_write_parser refl refl refl c.get_flag-3.result c.get_flag-3.ensures.none c.get_flag-3.ensures.value c.get_flag-3.ensures.other in
    let notes = flag_read command m is parsed (codes "notes") notes_parser refl refl refl c.get_flag-4.result c.get_flag-4.ensures.none c.get_flag-4.ensures.value c.get_flag-4.ensures.other in
    let interrupted = flag_read command m is parsed (codes "interrupted") interrupted_parser refl refl refl c.get_flag-5.result c.get_flag-5.ensures.none c.get_flag-5.ensures.value c.get_flag-5.ensures.other in
    let map_shown = flag_read command m is parsed (codes "map") map_parser refl refl refl c.get_flag-6.result c.get_flag-6.ensures.none c.get_flag-6.ensures.value c.get_flag-6.ensures.other in
    let rounds = number_read command m is parsed (codes "repeat") 4294967295 repeat_parser refl refl refl (omega arith) Reads c.get_one-3.result (λ u x h. h.0) c.get_one-3.ensures.none c.get_one-3.ensures.value in
    let writes = number_read command m is parsed (codes "sync-every") 4294967295 sync_every_parser refl refl refl (omega arith) Reads c.get_one-4.result (λ u x h. h.0) c.get_one-4.ensures.none c.get_one-4.ensures.value in
    let adapts = flag_read command m is parsed (codes "adapt") adapt_parser refl refl refl c.get_flag-10.result c.get_flag-10.ensures.none c.get_flag-10.ensures.value c.get_flag-10.ensures.other in
    let goes_on = flag_read command m is parsed (codes "keep-going") keep_going_parser refl refl refl c.get_flag-7.result c.get_flag-7.ensures.none c.get_flag-7.ensures.value c.get_flag-7.ensures.other in
    let keeps_traces = flag_read command m is parsed (codes "keep-traces") keep_traces_parser refl refl refl c.get_flag-8.result c.get_flag-8.ensures.none c.get_flag-8.ensures.value c.get_flag-8.ensures.other in
    let goes_on_after = flag_read command m is parsed (codes "go-on") go_on_parser refl refl refl c.get_flag-9.result c.get_flag-9.ensures.none c.get_flag-9.ensures.value c.get_flag-9.ensures.other in
    record {
      job = c.get_str.ensures ∙ first (codes "job");
      section = c.get_str-2.ensures ∙ first (codes "section");
      parse_only = only ∙ ap (λ (o : Option Text). unwrap_or (option_map (bytes_eq (codes "true")) o) false) (one (codes "parse-only"));
      workers = count.0 ∙ ap (option_map number_in) (one (codes "workers"));
      trace = c.get_str-3.ensures ∙ first (codes "trace");
      check_trace = c.get_str-4.ensures ∙ first (codes "check-trace");
      cached = cached ∙ ap (λ (o : Option Text). unwrap_or (option_map (bytes_eq (codes "true")) o) false) (one (codes "cached"));
      allow_mounted_write = allowed ∙ ap (λ (o : Option Text). unwrap_or (option_map (bytes_eq (codes "true")) o) false) (one (codes "allow-mounted-write"));
      notes = notes ∙ ap (λ (o : Option Text). unwrap_or (option_map (bytes_eq (codes "true")) o) false) (one (codes "notes"));
      drop_pipes = c.get_str-5.ensures ∙ first (codes "drop-pipes");
      interrupted = interrupted ∙ ap (λ (o : Option Text). unwrap_or (option_map (bytes_eq (codes "true")) o) false) (one (codes "interrupted"));
      stop_fd = c.get_str-6.ensures ∙ first (codes "stop-fd");
      bad_blocks = c.get_str-7.ensures ∙ first (codes "bad-blocks");
      bad_blocks_size = c.get_str-8.ensures ∙ first (codes "bad-blocks-size");
      map = map_shown ∙ ap (λ (o : Option Text). unwrap_or (option_map (bytes_eq (codes "true")) o) false) (one (codes "map"));
      progress = seconds.0 ∙ ap (option_map number_in) (one (codes "progress"));
      json = c.get_str-9.ensures ∙ first (codes "json");
      page = c.get_str-10.ensures ∙ first (codes "page");
      run_for = c.get_str-11.ensures ∙ first (codes "for");
      repeat = rounds.0 ∙ ap (option_map number_in) (one (codes "repeat"));
      keep_going = goes_on ∙ ap (λ (o : Option Text). unwrap_or (option_map (bytes_eq (codes "true")) o) false) (one (codes "keep-going"));
      keep_traces = keeps_traces ∙ ap (λ (o : Option Text). unwrap_or (option_map (bytes_eq (codes "true")) o) false) (one (codes "keep-traces"));
      go_on = goes_on_after ∙ ap (λ (o : Option Text). unwrap_or (option_map (bytes_eq (codes "true")) o) false) (one (codes "go-on"));
      bad_blocks_also = c.get_str-12.ensures ∙ first (codes "bad-blocks-also");
      adapt = adapts ∙ ap (λ (o : Option Text). unwrap_or (option_map (bytes_eq (codes "true")) o) false) (one (codes "adapt"));
      size = c.get_str-13.ensures ∙ first (codes "size");
      ledger = c.get_str-14.ensures ∙ first (codes "ledger");
      sync_every = writes.0 ∙ ap (option_map number_in) (one (codes "sync-every"));
      after = c.get_str-15.ensures ∙ first (codes "after");
    }

pub returns-clause-workers : goal.returns-clause-workers
returns-clause-workers c command is parsed =
    (number_read command c.args.matches.now is parsed (codes "workers") 16 workers_parser refl refl refl (omega arith) Reads c.get_one.result (λ u x h. h.0) c.get_one.ensures.none c.get_one.ensures.value).1

pub returns-clause-progress : goal.returns-clause-progress
returns-clause-progress c command is parsed =
    (number_read command c.args.matches.now is parsed (codes "progress") 86400 progress_parser refl refl refl (omega arith) Reads c.get_one-2.result (λ u x h. h.0) c.get_one-2.ensures.none c.get_one-2.ensures.value).1

pub returns-clause-repeat : goal.returns-clause-repeat
returns-clause-repeat c command is parsed =
    (number_read command c.args.matches.now is parsed (codes "repeat") 4294967295 repeat_parser refl refl refl (omega arith) Reads c.get_one-3.result (λ u x h. h.0) c.get_one-3.ensures.none c.get_one-3.ensures.value).1

pub returns-clause-sync_every : goal.returns-clause-sync_every
returns-clause-sync_every c command is parsed =
    (number_read command c.args.matches.now is parsed (codes "sync-every") 4294967295 sync_every_parser refl refl refl (omega arith) Reads c.get_one-4.result (λ u x h. h.0) c.get_one-4.ensures.none c.get_one-4.ensures.value).1
