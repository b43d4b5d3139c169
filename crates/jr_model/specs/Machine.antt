-- Believed: the machine that the desk is: a history, and a memory that begins with zeros (of this project). Take, End, Judge
-- and Stop are its steps; a refused step changes nothing.
use Rattle.std.specs.Prelude.{◌≡◌, ℕ, zero, suc, ◌*◌, ◌==◌, nat_lt, Bool, true, false, ◌&&◌, List, [], ◌∷◌, ◌++◌, length, map, sum, replicate, slice_get, Option, Some, None, is_none, if◌then◌else◌}
use Rattle.std.specs.Bool.{MatchBool}
use Rattle.jr_model.specs.declared.blocks.Piece.{Piece}
use Rattle.jr_model.specs.declared.contents.Expected.{Expected}
use Rattle.jr_model.specs.declared.contents.Expected.TheVariants as expected
use Rattle.jr_model.specs.declared.contents.Method.{Method}
use Rattle.jr_model.specs.declared.events.Event.{Event}
use Rattle.jr_model.specs.declared.events.Event.TheVariants.{Issue, Probe, Skip, End, Verdict}
use Rattle.jr_model.specs.declared.events.Outcome.{Outcome}
use Rattle.jr_model.specs.declared.events.Verdict.{Verdict as GivenVerdict}
use Rattle.jr_model.specs.declared.events.Verdict.TheVariants.{Good, Void}
use Rattle.jr_model.specs.declared.events.WriteId.{WriteId}
use Rattle.jr_model.specs.declared.replies.Reply.{Reply}
use Rattle.jr_model.specs.declared.steps.DeskFault.{DeskFault}
use Rattle.jr_model.specs.declared.steps.DeskFault.TheVariants.{Stranger, Twice, WrongKind, Stopped}
use Rattle.jr_model.specs.declared.steps.Step.{Step}
use Rattle.jr_model.specs.declared.steps.Step.TheVariants as step
use Rattle.jr_model.specs.declared.steps.StepReply.{StepReply}
use Rattle.jr_model.specs.declared.steps.StepReply.TheVariants as answer
use Rattle.jr_model.specs.declared.tickets.TicketKind.{TicketKind}
use Rattle.jr_model.specs.declared.tickets.TicketKind.TheVariants as ticket
use Rattle.jr_model.specs.declared.workloads.Draw.{Draw}
use Rattle.jr_model.specs.Choice.{choice}
use Rattle.jr_model.specs.Content.{content_of, expected_of}
use Rattle.jr_model.specs.Draws.{draws_of}
use Rattle.jr_model.specs.History.{Started, started, outcome_of, is_judged, is_judged_kind, ended_whole}
use Rattle.jr_model.specs.Judgement.{verdict_of}
use Rattle.jr_model.specs.Legal.{is_complete}
use Rattle.jr_model.specs.Plan.{Plan, SubJob, clone_of}
use Rattle.jr_model.specs.Races.{has_raced}
use Rattle.jr_model.specs.Replies.{FileBytes, ReadReply, WriteReply, fresh_memory, outcome_for, stored, memory_with, reply_to_read, reply_to_write}

-- Take: what it appends, and what it answers

abbrev pub is_skip : Event → Bool
is_skip (Skip worker write) = true
is_skip (Issue worker kind write piece) = false
is_skip (Probe worker write piece) = false
is_skip (End worker io outcome) = false
is_skip (Verdict worker io verdict) = false

-- a take by this worker may append these events: each is the choice after those before it, all but the last are skips,
-- and after a skip at the end there is no choice
abbrev pub Appends : Plan → ℕ → List Event → List Event → Type 0
Appends plan worker history [] = choice plan history worker ≡ None
Appends plan worker history (event ∷ events) =
    (choice plan history worker ≡ Some event)
    × MatchBool (is_skip event) (Appends plan worker (history ++ event ∷ []) events) (events ≡ [])

-- what a take appends after this choice, where it finds at most so many skips
abbrev pub choices_after : ℕ → Plan → ℕ → List Event → Option Event → List Event
choices_after limit plan worker history None = []
choices_after zero plan worker history (Some event) = event ∷ []
choices_after (suc limit) plan worker history (Some event) =
    let next = history ++ event ∷ [] in
    if is_skip event then (event ∷ choices_after limit plan worker next (choice plan next worker)) else (event ∷ [])

-- all draws of the run, at most: each is skipped once at most
abbrev pub work_of : Plan → ℕ
work_of plan = sum (map (λ (job : SubJob). job.cells * job.passes) plan.clones)

-- what a take appends
abbrev pub taken : Plan → ℕ → List Event → List Event
taken plan worker history = choices_after (work_of plan) plan worker history (choice plan history worker)

-- the answer where nothing may be started
abbrev pub idle_answer : Plan → List Event → StepReply
idle_answer plan history = if is_complete plan history then answer.Finished else answer.Wait

-- the answer where this was started, or skipped, last
abbrev pub answer_to : Plan → List Event → ℕ → Event → StepReply
answer_to plan history io (Issue worker kind write piece) = answer.Io io
answer_to plan history io (Probe worker write piece) = answer.Probe io
answer_to plan history io (Skip worker write) = idle_answer plan history
answer_to plan history io (End worker id outcome) = idle_answer plan history
answer_to plan history io (Verdict worker id verdict) = idle_answer plan history

-- the answer to a take that appended these events, of which the last counts, where so many I/Os were started before
abbrev pub take_answer : Plan → List Event → ℕ → List Event → StepReply
take_answer plan history io [] = idle_answer plan history
take_answer plan history io (event ∷ []) = answer_to plan history io event
take_answer plan history io (event ∷ next ∷ events) = take_answer plan history io (next ∷ events)

-- End and Judge

-- the state of the machine: what happened, whether it was stopped, the bytes of the files, and those that each read or
-- check gave
pub record State : Type 0 where
  pub history : List Event
  pub is_stopped : Bool
  pub memory : List FileBytes
  pub read_back : List (ℕ × List ℕ)

abbrev pub first_state : Plan → State
first_state plan = record { history = []; is_stopped = false; memory = fresh_memory plan.files; read_back = [] }

-- why an End of this I/O is refused, if it is
abbrev pub end_refusal : State → ℕ → Option DeskFault
end_refusal s io =
    if s.is_stopped then Some Stopped
    else (if nat_lt io (length (started s.history))
    then (if is_none (outcome_of s.history io) then None else Some Twice)
    else Some Stranger)

-- it is a check, or a checked read, that ended whole
abbrev pub is_judgeable : List Event → ℕ → Option Started → Bool
is_judgeable history io None = false
is_judgeable history io (Some s) = is_judged_kind s.kind && ended_whole (outcome_of history io)

-- why a verdict on this I/O is refused, if it is
abbrev pub judge_refusal : State → ℕ → Option DeskFault
judge_refusal s io =
    if s.is_stopped then Some Stopped
    else (if nat_lt io (length (started s.history))
    then (if is_judged s.history io then Some Twice
    else (if is_judgeable s.history io (slice_get (started s.history) io) then None else Some WrongKind))
    else Some Stranger)

-- the seed of the filler of a draw
abbrev pub seed_of_draw : Option Draw → ℕ
seed_of_draw None = 0
seed_of_draw (Some draw) = draw.seed

-- the bytes of a write of the run
abbrev pub content_in_job : Option SubJob → WriteId → Piece → ℕ → List ℕ
content_in_job None write piece seed = []
content_in_job (Some job) write piece seed = content_of job.method.kind job.method write piece seed

abbrev pub content_of_io : Plan → Started → List ℕ
content_of_io plan io =
    content_in_job (clone_of plan io.write.clone) io.write io.piece
    (seed_of_draw (slice_get (draws_of plan io.write.clone io.write.pass) io.write.number))

-- what the bytes of an I/O of this kind are judged by: those of a check by what its write put there, those of a checked read by
-- nothing but what they say of themselves
abbrev pub expected_by : TicketKind → Method → Started → ℕ → Expected
expected_by ticket.Read method io seed = expected.Nothing
expected_by ticket.Write method io seed = expected.Nothing
expected_by ticket.ReadCheck method io seed = expected.Nothing
expected_by ticket.Probe method io seed = expected_of method.kind method io.write io.piece seed

-- the verdict on the bytes of an I/O of this clone
abbrev pub verdict_in_job : Option SubJob → Started → ℕ → List ℕ → GivenVerdict
verdict_in_job None io seed bytes = Good
verdict_in_job (Some job) io seed bytes =
    verdict_of job.method io.write io.piece (expected_by io.kind job.method io seed) bytes

-- the verdict on the bytes read by a check or a checked read
abbrev pub verdict_on : Plan → Started → List ℕ → GivenVerdict
verdict_on plan io bytes =
    verdict_in_job (clone_of plan io.write.clone) io
    (seed_of_draw (slice_get (draws_of plan io.write.clone io.write.pass) io.write.number)) bytes

-- the state after I/O io ended with this outcome
abbrev pub after_end : State → ℕ → ℕ → Outcome → State
after_end s worker io outcome = record s { history = s.history ++ End worker io outcome ∷ [] }

-- a read or check of the piece, by this reply
abbrev pub read_ends : State → ℕ → Started → ReadReply → State
read_ends s io started given =
    record (after_end s started.worker io (outcome_for given.count started.piece.len)) {
      read_back = (io, given.buffer) ∷ s.read_back;
    }

-- a write of the piece, by this reply
abbrev pub write_ends : State → ℕ → Started → WriteReply → State
write_ends s io started given =
    record (after_end s started.worker io (outcome_for given.count started.piece.len)) {
      memory = memory_with s.memory started.piece.file started.piece.offset given.stored;
    }

-- a read of the piece by this reply, into a buffer of zeros
abbrev pub read_of : List FileBytes → Reply → Started → ReadReply
read_of memory reply started =
    let piece = started.piece in
    reply_to_read reply (stored memory piece.file piece.offset piece.len) (replicate piece.len 0)

-- the I/O ends by this reply of the memory
abbrev pub ends_by : Plan → State → ℕ → Reply → TicketKind → Started → State
ends_by plan s io reply ticket.Write started = write_ends s io started (reply_to_write reply (content_of_io plan started))
ends_by plan s io reply ticket.Read started = read_ends s io started (read_of s.memory reply started)
ends_by plan s io reply ticket.Probe started = read_ends s io started (read_of s.memory reply started)
ends_by plan s io reply ticket.ReadCheck started = read_ends s io started (read_of s.memory reply started)

-- what a check gave, if it has ended
abbrev pub bytes_read : List (ℕ × List ℕ) → ℕ → List ℕ
bytes_read [] io = []
bytes_read (given ∷ read_back) io = if given.0 == io then given.1 else bytes_read read_back io

-- the steps

-- an answer, and the state after it
pub record Stepped : Type 0 where
  pub reply : StepReply
  pub state : State

abbrev pub machine_take : Plan → State → ℕ → Stepped
machine_take plan s worker =
    let events = taken plan worker s.history in
    let history = s.history ++ events in
    if s.is_stopped then record { reply = answer.Finished; state = s }
    else record {
      reply = take_answer plan history (length (started s.history)) events;
      state = record s { history = history };
    }

-- refused, or ended
abbrev pub machine_end_by : Plan → State → ℕ → Reply → Option DeskFault → Option Started → Stepped
machine_end_by plan s io reply (Some fault) started = record { reply = answer.Refused fault; state = s }
machine_end_by plan s io reply None None = record { reply = answer.Refused Stranger; state = s }
machine_end_by plan s io reply None (Some started) = record {
  reply = answer.Ended;
  state = ends_by plan s io reply started.kind started;
}

abbrev pub machine_end : Plan → State → ℕ → Reply → Stepped
machine_end plan s io reply = machine_end_by plan s io reply (end_refusal s io) (slice_get (started s.history) io)

-- what is said of an I/O: nothing of its bytes where it raced, and else the verdict on them
abbrev pub said_of : Bool → GivenVerdict → GivenVerdict
said_of raced verdict = if raced then Void else verdict

-- refused, or judged
abbrev pub machine_judge_by : Plan → State → ℕ → ℕ → Option DeskFault → Option Started → Stepped
machine_judge_by plan s by io (Some fault) started = record { reply = answer.Refused fault; state = s }
machine_judge_by plan s by io None None = record { reply = answer.Refused Stranger; state = s }
machine_judge_by plan s by io None (Some started) = record {
  reply = answer.Judged;
  state = record s {
    history = s.history ++ Verdict by io (said_of (has_raced s.history io) (verdict_on plan started (bytes_read s.read_back io))) ∷ [];
  };
}

abbrev pub machine_judge : Plan → State → ℕ → ℕ → Stepped
machine_judge plan s by io = machine_judge_by plan s by io (judge_refusal s io) (slice_get (started s.history) io)

abbrev pub machine_stop : State → Stepped
machine_stop s = record { reply = answer.Stopped; state = record s { is_stopped = true } }

abbrev pub machine_step : Plan → State → Step → Stepped
machine_step plan s (step.Take worker) = machine_take plan s worker
machine_step plan s (step.End io reply) = machine_end plan s io reply
machine_step plan s (step.Judge by io) = machine_judge plan s by io
machine_step plan s step.Stop = machine_stop s

-- a list of steps: the reply to each, and the state in the end
pub record Played : Type 0 where
  pub replies : List StepReply
  pub state : State

abbrev pub machine_run : Plan → State → List Step → Played
machine_run plan s [] = record { replies = []; state = s }
machine_run plan s (next ∷ steps) =
    let stepped = machine_step plan s next in
    let rest = machine_run plan stepped.state steps in
    record { replies = stepped.reply ∷ rest.replies; state = rest.state }
