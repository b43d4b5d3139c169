-- No step of the machine makes a Bad verdict where no reply changes or drops bytes.
use Rattle.std.proofs.Common.{◌≡◌, ℕ, List, [], ◌∷◌, ◌++◌, length, replicate, true, false, refl, sym, ◌∙◌, ap, subst}
use Rattle.std.specs.Prelude.{Option, Some, None, slice_get, nat_lt, is_none}
use Rattle.std.specs.List.{list_all}
use Rattle.std.proofs.lemmas.Bool.{and_parts, false≢true, cond_both}
use Rattle.std.proofs.lemmas.List.{length-replicate}
use Rattle.jr_model.specs.declared.events.Event.{Event}
use Rattle.jr_model.specs.declared.events.Event.TheVariants.{Verdict}
use Rattle.jr_model.specs.declared.events.Started.{Started}
use Rattle.jr_model.specs.declared.replies.Reply.{Reply}
use Rattle.jr_model.specs.declared.steps.DeskFault.{DeskFault}
use Rattle.jr_model.specs.declared.steps.DeskFault.TheVariants.{Stranger, Twice, WrongKind, Stopped}
use Rattle.jr_model.specs.declared.steps.Step.{Step}
use Rattle.jr_model.specs.declared.steps.Step.TheVariants as step
use Rattle.jr_model.specs.declared.steps.StepReply.TheVariants as answer
use Rattle.jr_model.specs.declared.tickets.TicketKind.{TicketKind}
use Rattle.jr_model.specs.declared.tickets.TicketKind.TheVariants as ticket
use Rattle.jr_model.specs.Choice.{choice}
use Rattle.jr_model.specs.History.{started, outcome_of, is_judged, is_judged_kind, is_probe, is_write, ended_whole}
use Rattle.jr_model.specs.Machine.{State, Stepped, taken, take_answer, work_of, content_of_io, read_of, bytes_read, first_state, end_refusal, judge_refusal, is_judgeable, said_of, verdict_on, ends_by, machine_end_by, machine_judge_by, machine_take, machine_step, machine_run}
use Rattle.jr_model.specs.Plan.{Plan}
use Rattle.jr_model.specs.Replies.{outcome_for, stored, reply_to_write}
use Rattle.jr_model.proofs.MachineLaws.{IsSound, three_conds, four_conds, sound_step, none_kept}
use Rattle.jr_model.specs.PlanFacts.{IsPlanned}
use Rattle.jr_model.specs.Races.{has_raced}
use Rattle.jr_model.proofs.OptionLemmas.{none_by_test}
use Rattle.jr_model.proofs.PlanLemmas.{numbered_of}
use Rattle.jr_laws_bytes.specs.Checks.{has_miscompare, keeps_bytes, is_quiet_step}
use Rattle.jr_laws_bytes.specs.Memory.{HoldsLastWrites}
use Rattle.jr_laws_bytes.proofs.Starts.{draw_started}
use Rattle.jr_laws_bytes.proofs.Contents.{length-content_of_io}
use Rattle.jr_laws_bytes.proofs.Memories.{covers-fresh_memory, stored_check}
use Rattle.jr_laws_bytes.proofs.KeptBytes.{stored_by_write, given_by_read}
use Rattle.jr_laws_bytes.proofs.QuietRuns.{IsQuiet, quiet-more, quiet_choices, harmless_verdict, quiet_first, quiet_read, quiet_write}

-- the machine's steps

-- the machine's state is quiet
pub record IsQuietState (plan : Plan) (s : State) : Type 0 where
  pub sound : IsSound plan s
  pub quiet : IsQuiet plan s.history s.memory (bytes_read s.read_back)

unended_from : (s : State) (id : ℕ) → end_refusal s id ≡ None → outcome_of s.history id ≡ None
unended_from s id free =
    none_by_test (outcome_of s.history id)
    (three_conds s.is_stopped (nat_lt id (length (started s.history))) (is_none (outcome_of s.history id)) Stopped Twice Stranger free).2

quiet_ends_by : (plan : Plan) (s : State) (id : ℕ) (given : Reply) (kind : TicketKind) (io : Started) → IsPlanned plan → keeps_bytes given ≡ true → IsQuietState plan s → IsSound plan (ends_by plan s id given kind io) → end_refusal s id ≡ None → slice_get (started s.history) id ≡ Some io → io.kind ≡ kind → IsQuiet plan (ends_by plan s id given kind io).history (ends_by plan s id given kind io).memory (bytes_read (ends_by plan s id given kind io).read_back)
quiet_ends_by plan s id given ticket.Read io planned keeps state sound free at is =
    let read = read_of s.memory given io in
    quiet_read plan s.history s.memory s.read_back id (outcome_for read.count io.piece.len) io read.buffer sound.legal at (ap is_write is)
    (unended_from s id free) (λ probe whole unraced. absurd (false≢true (sym (ap is_probe is) ∙ probe))) state.quiet
quiet_ends_by plan s id given ticket.ReadCheck io planned keeps state sound free at is =
    let read = read_of s.memory given io in
    quiet_read plan s.history s.memory s.read_back id (outcome_for read.count io.piece.len) io read.buffer sound.legal at (ap is_write is)
    (unended_from s id free) (λ probe whole unraced. absurd (false≢true (sym (ap is_probe is) ∙ probe))) state.quiet
quiet_ends_by plan s id given ticket.Probe io planned keeps state sound free at is =
    let read = read_of s.memory given io in
    let unended = unended_from s id free in
    let drawn = draw_started plan s.history id io state.quiet.legal at in
    quiet_read plan s.history s.memory s.read_back id (outcome_for read.count io.piece.len) io read.buffer sound.legal at (ap is_write is) unended
    (λ probe whole unraced.
    let own = stored_check plan s.history s.memory id io planned state.quiet.legal state.quiet.covered state.quiet.holds at (ap is_probe is) unended unraced in
    let size = ap length own ∙ length-content_of_io plan io drawn.0 drawn.1 planned drawn.2 in
    given_by_read given (stored s.memory io.piece.file io.piece.offset io.piece.len) (replicate io.piece.len 0) io.piece.len keeps size
    (length-replicate io.piece.len 0) whole
    ∙ own)
    state.quiet
quiet_ends_by plan s id given ticket.Write io planned keeps state sound free at is =
    let content = content_of_io plan io in
    let drawn = draw_started plan s.history id io state.quiet.legal at in
    let written = stored_by_write given content io.piece.len keeps (length-content_of_io plan io drawn.0 drawn.1 planned drawn.2) in
    quiet_write plan s.history s.memory (bytes_read s.read_back) id (outcome_for (reply_to_write given content).count io.piece.len) io
    (reply_to_write given content).stored planned sound.legal at is written.0 written.1 state.quiet

quiet_end_by : (plan : Plan) (s : State) (id : ℕ) (given : Reply) (refused : Option DeskFault) (io : Option Started) → IsPlanned plan → keeps_bytes given ≡ true → IsQuietState plan s → IsSound plan (machine_end_by plan s id given refused io).state → end_refusal s id ≡ refused → slice_get (started s.history) id ≡ io → IsQuietState plan (machine_end_by plan s id given refused io).state
quiet_end_by plan s id given (Some fault) io planned keeps state sound free at = state
quiet_end_by plan s id given None None planned keeps state sound free at = state
quiet_end_by plan s id given None (Some io) planned keeps state sound free at = record {
  sound = sound;
  quiet = quiet_ends_by plan s id given io.kind io planned keeps state sound free at refl;
}

quiet_judge_by : (plan : Plan) (s : State) (by id : ℕ) (refused : Option DeskFault) (io : Option Started) → IsPlanned plan → IsQuietState plan s → IsSound plan (machine_judge_by plan s by id refused io).state → judge_refusal s id ≡ refused → slice_get (started s.history) id ≡ io → IsQuietState plan (machine_judge_by plan s by id refused io).state
quiet_judge_by plan s by id (Some fault) io planned state sound free at = state
quiet_judge_by plan s by id None None planned state sound free at = state
quiet_judge_by plan s by id None (Some io) planned state sound free at =
    let verdict = said_of (has_raced s.history id) (verdict_on plan io (bytes_read s.read_back id)) in
    let open_to = four_conds s.is_stopped (nat_lt id (length (started s.history))) (is_judged s.history id) (is_judgeable s.history id (slice_get (started s.history) id)) Stopped Twice WrongKind Stranger free in
    let check = and_parts (is_judged_kind io.kind) (ended_whole (outcome_of s.history id))
    (subst (λ (o : Option Started). is_judgeable s.history id o ≡ true) at open_to.1) in record {
      sound = sound;
      quiet = quiet-more plan s.history (Verdict by id verdict) s.memory (bytes_read s.read_back) sound.legal
          (harmless_verdict plan s.history s.memory (bytes_read s.read_back) by id io planned state.quiet at check.1) state.quiet;
    }

quiet_take : (plan : Plan) (s : State) (worker : ℕ) → IsPlanned plan → IsQuietState plan s → IsSound plan (machine_take plan s worker).state → IsQuietState plan (machine_take plan s worker).state
quiet_take plan s worker planned state sound = record {
  sound = sound;
  quiet = cond_both s.is_stopped
      (record { reply = answer.Finished; state = s })
      (record { reply = take_answer plan history (length (started s.history)) events; state = record s { history = history } })
      (λ (stepped : Stepped). IsQuiet plan stepped.state.history stepped.state.memory (bytes_read stepped.state.read_back))
      (λ stopped. state.quiet)
      (λ going. quiet_choices (work_of plan) plan worker s.history s.memory (bytes_read s.read_back) (choice plan s.history worker) (numbered_of plan planned) refl state.quiet);
}
  where
    events : List Event
    events = taken plan worker s.history

    history : List Event
    history = s.history ++ events

quiet_step : (plan : Plan) (s : State) (next : Step) → IsPlanned plan → is_quiet_step next ≡ true → IsQuietState plan s → IsQuietState plan (machine_step plan s next).state
quiet_step plan s (step.Take worker) planned keeps state =
    quiet_take plan s worker planned state (sound_step plan s (step.Take worker) (numbered_of plan planned) state.sound)
quiet_step plan s (step.End id given) planned keeps state =
    quiet_end_by plan s id given (end_refusal s id) (slice_get (started s.history) id) planned keeps state
    (sound_step plan s (step.End id given) (numbered_of plan planned) state.sound) refl refl
quiet_step plan s (step.Judge by id) planned keeps state =
    quiet_judge_by plan s by id (judge_refusal s id) (slice_get (started s.history) id) planned state
    (sound_step plan s (step.Judge by id) (numbered_of plan planned) state.sound) refl refl
quiet_step plan s step.Stop planned keeps state = record {
  sound = sound_step plan s step.Stop (numbered_of plan planned) state.sound;
  quiet = state.quiet;
}

quiet_run : (plan : Plan) (s : State) (steps : List Step) → IsPlanned plan → list_all is_quiet_step steps ≡ true → IsQuietState plan s → IsQuietState plan (machine_run plan s steps).state
quiet_run plan s [] planned keeps state = state
quiet_run plan s (next ∷ steps) planned keeps state =
    let parts = and_parts (is_quiet_step next) (list_all is_quiet_step steps) keeps in
    quiet_run plan (machine_step plan s next).state steps planned parts.1 (quiet_step plan s next planned parts.0 state)

first_is_quiet : (plan : Plan) → IsPlanned plan → IsQuietState plan (first_state plan)
first_is_quiet plan planned = record {
  sound = record { legal = refl; fits = none_kept };
  quiet = quiet_first plan (first_state plan).memory (bytes_read (first_state plan).read_back) (covers-fresh_memory plan planned);
}

-- no step makes a Bad verdict
pub no_bad_verdict : (plan : Plan) (steps : List Step) → IsPlanned plan → list_all is_quiet_step steps ≡ true → has_miscompare (machine_run plan (first_state plan) steps).state.history ≡ false
no_bad_verdict plan steps planned keeps =
    (quiet_run plan (first_state plan) steps planned keeps (first_is_quiet plan planned)).quiet.good

-- and the memory holds the last writes
pub last_writes_kept : (plan : Plan) (steps : List Step) → IsPlanned plan → list_all is_quiet_step steps ≡ true → HoldsLastWrites plan (machine_run plan (first_state plan) steps).state.history (machine_run plan (first_state plan) steps).state.memory
last_writes_kept plan steps planned keeps =
    (quiet_run plan (first_state plan) steps planned keeps (first_is_quiet plan planned)).quiet.holds
