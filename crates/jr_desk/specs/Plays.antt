-- Internal: how a desk, an engine and what was read are the machine's state (of this project).
use Rattle.std.specs.Prelude.{◌≡◌, ◌≤◌, ◌+◌, ◌==◌, ℕ, Bool, true, List, ◌∷◌, ◌++◌, [], map, reverse, find, slice_get, IsTrue, Option, Some, None}
use Rattle.jr_model.specs.declared.events.Event.{Event}
use Rattle.jr_model.specs.declared.events.Event.TheVariants.{Verdict}
use Rattle.jr_model.specs.declared.events.Started.{Started}
use Rattle.jr_model.specs.declared.steps.DeskFault.{DeskFault}
use Rattle.jr_model.specs.declared.steps.StepReply.{StepReply}
use Rattle.jr_model.specs.declared.steps.StepReply.TheVariants as answer
use Rattle.jr_model.specs.declared.tickets.TicketKind.{TicketKind}
use Rattle.jr_model.specs.declared.tickets.TicketKind.TheVariants as ticket
use Rattle.jr_model.specs.History.{started, outcome_of, ended_whole, is_judged_kind}
use Rattle.jr_model.specs.Legal.{is_legal}
use Rattle.jr_model.specs.Machine.{State, Stepped}
use Rattle.jr_model.specs.Plan.{Plan}
use Rattle.jr_model.specs.PlanFacts.{IsPlanned}
use Rattle.jr_engines.specs.Answers.{AnswerParts}
use Rattle.jr_model.specs.Machine.{said_of}
use Rattle.jr_model.specs.Races.{has_raced}
use Rattle.jr_header.specs.Served.{answer_verdict, is_to_judge}
use Rattle.jr_laws_bytes.specs.Memory.{CoversFiles}
use Rattle.jr_desk.specs.declared.plays.Player.{Player}
use Rattle.jr_desk_tickets.specs.Kept.{IsOwn}
use Rattle.jr_desk_state.specs.declared.takes.Take.{Take}
use Rattle.jr_desk_state.specs.declared.takes.Take.TheVariants as take
use Rattle.jr_desk.specs.DeskState.{DeskState}

-- the answer to a step that takes
abbrev pub reply_for : Take → StepReply
reply_for (take.Io t) = answer.Io t.id
reply_for (take.Probe t) = answer.Probe t.id
reply_for take.Wait = answer.Wait
reply_for take.Finished = answer.Finished

-- the answer to a step that judges, where the verdict is refused so or not at all
abbrev pub judge_reply : Option DeskFault → StepReply
judge_reply None = answer.Judged
judge_reply (Some fault) = answer.Refused fault

-- and the desk after it
abbrev pub judged_desk : DeskState → ℕ → AnswerParts → Option DeskFault → DeskState
judged_desk desk by check None =
    record desk {
      history = desk.history ++ Verdict by check.ticket.id (said_of (has_raced desk.history check.ticket.id) (answer_verdict check)) ∷ [];
    }
judged_desk desk by check (Some fault) = desk

-- the answers to reads and checks are kept
abbrev pub kept_by : TicketKind → List AnswerParts → AnswerParts → List AnswerParts
kept_by ticket.Write reads answer = reads
kept_by ticket.Read reads answer = reads ++ answer ∷ []
kept_by ticket.Probe reads answer = reads ++ answer ∷ []
kept_by ticket.ReadCheck reads answer = reads ++ answer ∷ []

abbrev pub is_for : ℕ → AnswerParts → Bool
is_for io answer = answer.ticket.id == io

-- what was kept last for I/O io
abbrev pub last_read : List AnswerParts → ℕ → Option AnswerParts
last_read reads io = find (is_for io) (reverse reads)

-- the bytes that were read, the newest first
abbrev pub read_back_of : List AnswerParts → List (ℕ × List ℕ)
read_back_of reads = map (λ (a : AnswerParts). (a.ticket.id, a.bytes)) (reverse reads)

-- the state that a player is in
abbrev pub state_of : Player → State
state_of player = record {
  history = player.desk.history;
  is_stopped = player.desk.is_stopped;
  memory = player.engine.memory;
  read_back = read_back_of player.reads.items;
}

-- io is a check or a checked read, and ended whole
abbrev pub IsJudgeable : List Event → ℕ → Started → Type 0
IsJudgeable history io s =
    (slice_get (started history) io ≡ Some s) × IsTrue (is_judged_kind s.kind) × IsTrue (ended_whole (outcome_of history io))

-- what is kept are answers to the desk's own tickets, which ended so, and all that is to be judged is there
pub record KeepsReads (plan : Plan) (history : List Event) (reads : List AnswerParts) : Type 0 where
  pub ended :
      (io : ℕ) (answer : AnswerParts) → last_read reads io ≡ Some answer
      → IsOwn plan history answer.ticket × (outcome_of history answer.ticket.id ≡ Some answer.outcome)
  pub checks :
      (io : ℕ) (s : Started) → IsJudgeable history io s
      → (answer : AnswerParts) × (last_read reads io ≡ Some answer) × (is_to_judge answer ≡ true)

-- a player between two steps
pub record IsReady (player : Player) : Type 0 where
  pub planned : IsPlanned player.desk.plan
  pub legal : is_legal player.desk.plan player.desk.history ≡ true
  pub covers : CoversFiles player.desk.plan player.engine.memory
  pub reads : KeepsReads player.desk.plan player.desk.history player.reads.items

-- the player went on as the machine, and answered the same
pub record GoesOn (old : Player) (stepped : Stepped) (reply : StepReply) (new : Player) : Type 0 where
  pub answer : reply ≡ stepped.reply
  pub state : state_of new ≡ stepped.state
  pub plan : new.desk.plan ≡ old.desk.plan
  pub calls : new.engine.calls ≤ old.engine.calls + 1
  pub covers : CoversFiles new.desk.plan new.engine.memory
  pub reads : KeepsReads new.desk.plan new.desk.history new.reads.items
