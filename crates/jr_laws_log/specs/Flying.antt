-- Claimed: what is in flight after a history, by number, and what each event makes of it.
use Rattle.std.specs.Prelude.{◌≡◌, ℕ, true, List, [], ◌∷◌, ◌++◌, length, Option, Some, None, slice_get, filter_map, is_none, is_some, if◌then◌else◌}
use Rattle.std.specs.BTreeMap.{insert_entry, is_at}
use Rattle.std.specs.List.{enumerate_from}
use Rattle.std.specs.Map.{remove_entry}
use Rattle.std.specs.Option.{option_map}
use Rattle.std.specs.Ordering.{nat_cmp}
use Rattle.jr_model.specs.declared.blocks.Dir.{Dir}
use Rattle.jr_model.specs.declared.blocks.Dir.TheVariants as direction
use Rattle.jr_model.specs.declared.blocks.Piece.{Piece}
use Rattle.jr_model.specs.declared.events.Event.{Event}
use Rattle.jr_model.specs.declared.events.Event.TheVariants.{Skip, End, Verdict as Judged}
use Rattle.jr_model.specs.declared.events.Outcome.{Outcome}
use Rattle.jr_model.specs.declared.events.Started.{Started}
use Rattle.jr_model.specs.declared.events.Verdict.{Verdict}
use Rattle.jr_model.specs.declared.events.WriteId.{WriteId}
use Rattle.jr_model.specs.declared.tickets.TicketKind.{TicketKind}
use Rattle.jr_model.specs.declared.tickets.TicketKind.TheVariants as ticket
use Rattle.jr_model.specs.History.{started, started_by, outcome_of, flies}
use Rattle.jr_model.specs.Legal.{is_legal, is_clear as is_clear_after}
use Rattle.jr_model.specs.Plan.{Plan, SubJob, clone_of, declines_of}
use Rattle.jr_model.specs.Races.{has_raced}
use Rattle.jr_flight.specs.declared.ios.Ended.{Ended}
use Rattle.jr_flight.specs.declared.ios.Io.{Io}
use Rattle.jr_flight.specs.Flights.{flying_io, is_clear, is_raced, marked, writes}

-- a check and a checked read are reads
abbrev pub dir_of : TicketKind → Dir
dir_of ticket.Write = direction.Write
dir_of ticket.Read = direction.Read
dir_of ticket.Probe = direction.Read
dir_of ticket.ReadCheck = direction.Read

-- an I/O that was started under this number
abbrev pub io_of : Plan → ℕ → Started → Io
io_of plan id io = record {
  id = id;
  clone = io.write.clone;
  piece = io.piece;
  dir = dir_of io.kind;
  declines = declines_of (clone_of plan io.write.clone);
}

-- and whether it has raced
abbrev pub entry_of : Plan → List Event → ℕ → Started → Ended
entry_of plan history id io = record { io = io_of plan id io; raced = has_raced history id }

-- its entry, where it has not ended
abbrev pub if_flying_entry : Plan → List Event → ℕ × Started → Option (ℕ × Ended)
if_flying_entry plan history numbered =
    if is_none (outcome_of history numbered.0) then Some (numbered.0, entry_of plan history numbered.0 numbered.1) else None

-- all that is in flight, in the order of the numbers
abbrev pub flight_of : Plan → List Event → List (ℕ × Ended)
flight_of plan history = filter_map (if_flying_entry plan history) (enumerate_from 0 (started history))

-- what is in flight once this one begins: it stands under its number, and whatever races with it is marked
abbrev pub begun : Io → List (ℕ × Ended) → List (ℕ × Ended)
begun io entries = insert_entry nat_cmp (marked io entries) io.id (record { io = io; raced = is_raced io entries })

-- under a number is the I/O that was started under it, where that flies, and else nothing
abbrev pub FlyingIsStarted : Type 0
FlyingIsStarted =
    (plan : Plan) (history : List Event) (id : ℕ)
    → flying_io id (flight_of plan history)
    ≡ (if flies history id then option_map (entry_of plan history id) (slice_get (started history) id) else None)

-- so something flies under a number just where that flies after the history
abbrev pub FliesIsFlying : Type 0
FliesIsFlying = (plan : Plan) (history : List Event) (id : ℕ) → is_some (flying_io id (flight_of plan history)) ≡ flies history id

-- a clone's piece is clear of what is in flight just where it is after the history
abbrev pub ClearIsClear : Type 0
ClearIsClear =
    (plan : Plan) (history : List Event) (job : SubJob) (dir : Dir) (piece : Piece)
    → is_clear job.declines dir piece (flight_of plan history) ≡ is_clear_after plan history job (writes dir) piece

-- what is started flies under the next number, and what it races with is marked
abbrev pub NextFlies : Type 0
NextFlies =
    (plan : Plan) (history : List Event) (event : Event) (io : Started)
    → is_legal plan history ≡ true
    → started_by event ≡ Some io
    → flight_of plan (history ++ event ∷ [])
    ≡ begun (io_of plan (length (started history)) io) (flight_of plan history)

-- nothing flies under the next number
abbrev pub NextIsFree : Type 0
NextIsFree = (plan : Plan) (history : List Event) → flying_io (length (started history)) (flight_of plan history) ≡ None

-- what ends flies no more
abbrev pub EndedFliesNoMore : Type 0
EndedFliesNoMore =
    (plan : Plan) (history : List Event) (worker id : ℕ) (outcome : Outcome)
    → flight_of plan (history ++ End worker id outcome ∷ []) ≡ remove_entry (is_at (nat_cmp id)) (flight_of plan history)

-- a skip and a verdict change nothing of it
abbrev pub OthersFlyOn : Type 0
OthersFlyOn =
    (plan : Plan) (history : List Event) (worker id : ℕ) (write : WriteId) (verdict : Verdict)
    → (flight_of plan (history ++ Skip worker write ∷ []) ≡ flight_of plan history)
    × (flight_of plan (history ++ Judged worker id verdict ∷ []) ≡ flight_of plan history)
