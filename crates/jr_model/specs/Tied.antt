-- Believed: when the calls of an engine with a known memory are what a worker completed (of this project).
use Rattle.std.specs.Prelude.{◌≡◌, ℕ, suc, ◌==◌, Bool, not, ◌&&◌, List, [], ◌∷◌, slice_get, Some}
use Rattle.std.specs.Bool.{MatchBool}
use Rattle.jr_model.specs.declared.events.Event.{Event}
use Rattle.jr_model.specs.declared.events.Event.TheVariants.{Issue, Probe, Skip, End}
use Rattle.jr_model.specs.declared.events.Event.TheVariants as event
use Rattle.jr_model.specs.declared.events.Outcome.{Outcome}
use Rattle.jr_model.specs.declared.events.Verdict.{Verdict}
use Rattle.jr_model.specs.declared.replies.Reply.{Reply}
use Rattle.jr_model.specs.declared.tickets.TicketKind.{TicketKind}
use Rattle.jr_model.specs.declared.tickets.TicketKind.TheVariants as ticket
use Rattle.jr_model.specs.History.{Started, started}
use Rattle.jr_model.specs.Legal.{is_void}
use Rattle.jr_model.specs.Machine.{content_of_io, read_of, bytes_read, verdict_on}
use Rattle.jr_model.specs.Plan.{Plan}
use Rattle.jr_model.specs.Replies.{FileBytes, memory_with, outcome_for, reply_to_write, scripted_reply}

-- an engine as far as it is known: its memory, its script, and its calls so far; and the bytes that it gave
pub record KnownEngine : Type 0 where
  pub memory : List FileBytes
  pub script : List (ℕ × Reply)
  pub calls : ℕ
  pub read_back : List (ℕ × List ℕ)

-- what one call left, and how it ended
pub record Called : Type 0 where
  pub outcome : Outcome
  pub engine : KnownEngine

abbrev pub read_called : KnownEngine → ℕ → Started → Reply → Called
read_called engine io started reply =
    let given = read_of engine.memory reply started in
    record {
      outcome = outcome_for given.count started.piece.len;
      engine = record engine { calls = suc engine.calls; read_back = (io, given.buffer) ∷ engine.read_back };
    }

abbrev pub write_called : Plan → KnownEngine → Started → Reply → Called
write_called plan engine started reply =
    let given = reply_to_write reply (content_of_io plan started) in
    record {
      outcome = outcome_for given.count started.piece.len;
      engine = record engine {
        calls = suc engine.calls;
        memory = memory_with engine.memory started.piece.file started.piece.offset given.stored;
      };
    }

-- the engine's next call is this I/O
abbrev pub called : Plan → KnownEngine → ℕ → TicketKind → Started → Called
called plan engine io ticket.Write started = write_called plan engine started (scripted_reply engine.script engine.calls)
called plan engine io ticket.Read started = read_called engine io started (scripted_reply engine.script engine.calls)
called plan engine io ticket.Probe started = read_called engine io started (scripted_reply engine.script engine.calls)
called plan engine io ticket.ReadCheck started = read_called engine io started (scripted_reply engine.script engine.calls)

-- the verdict on an I/O, where this worker started it and it didn't race, is that on the bytes that its engine gave
abbrev pub IsOnBytes : Plan → ℕ → List Started → KnownEngine → ℕ → Verdict → Type 0
IsOnBytes plan worker ios before io verdict =
    (s : Started) × (slice_get ios io ≡ Some s)
    × MatchBool (s.worker == worker && not (is_void verdict)) (verdict_on plan s (bytes_read before.read_back io) ≡ verdict) (Unit {0})

-- the events of one worker, in order, are the engine's calls: each of its ends is the next call's, with that outcome,
-- and, where verdicts are inline, the verdict on each of its checks, whoever gave it, is that on the bytes so read
abbrev pub TiedAlong : Plan → Bool → ℕ → List Started → KnownEngine → List Event → KnownEngine → Type 0
TiedAlong plan inline worker ios before [] after = after ≡ before
TiedAlong plan inline worker ios before (End w io outcome ∷ events) after =
    MatchBool (w == worker)
    ((s : Started) × (slice_get ios io ≡ Some s) × ((called plan before io s.kind s).outcome ≡ outcome)
    × TiedAlong plan inline worker ios (called plan before io s.kind s).engine events after)
    (TiedAlong plan inline worker ios before events after)
TiedAlong plan inline worker ios before (event.Verdict w io verdict ∷ events) after =
    MatchBool inline (IsOnBytes plan worker ios before io verdict) (Unit {0}) × TiedAlong plan inline worker ios before events after
TiedAlong plan inline worker ios before (Issue w kind write piece ∷ events) after =
    TiedAlong plan inline worker ios before events after
TiedAlong plan inline worker ios before (Probe w write piece ∷ events) after =
    TiedAlong plan inline worker ios before events after
TiedAlong plan inline worker ios before (Skip w write ∷ events) after = TiedAlong plan inline worker ios before events after

-- worker's engine was before, is after, and its calls are what the worker completed
abbrev pub IsTied : Plan → Bool → List Event → ℕ → KnownEngine → KnownEngine → Type 0
IsTied plan inline history worker before after = TiedAlong plan inline worker (started history) before history after
