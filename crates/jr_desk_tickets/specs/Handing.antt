-- Internal: what is kept of the tickets of a run by number, and how far each of them has come.
use Rattle.std.specs.Prelude.{◌≡◌, ◌+◌, ◌==◌, ℕ, Bool, List, [], ◌∷◌, ◌++◌, drop, length, map, slice_get, Option, Some, None, if◌then◌else◌}
use Rattle.std.specs.List.{filter_map, range_with_len}
use Rattle.std.specs.Option.{option_to_list}
use Rattle.jr_model.specs.declared.blocks.Piece.{Piece}
use Rattle.jr_model.specs.declared.contents.Expected.{Expected}
use Rattle.jr_model.specs.declared.contents.Expected.TheVariants as expected
use Rattle.jr_model.specs.declared.contents.Method.{Method}
use Rattle.jr_model.specs.declared.contents.VerifyKind.{VerifyKind}
use Rattle.jr_model.specs.declared.contents.VerifyKind.TheVariants as verify
use Rattle.jr_model.specs.declared.events.Event.{Event}
use Rattle.jr_model.specs.declared.events.Outcome.{Outcome}
use Rattle.jr_model.specs.declared.events.Outcome.TheVariants.{Whole, Failed, Short}
use Rattle.jr_model.specs.declared.tickets.Ticket.{Ticket}
use Rattle.jr_model.specs.declared.tickets.TicketKind.{TicketKind}
use Rattle.jr_model.specs.declared.tickets.TicketKind.TheVariants as ticket
use Rattle.jr_model.specs.Content.{block_version, expected_pattern, header_front}
use Rattle.jr_model.specs.History.{started, outcome_of, is_judged}
use Rattle.jr_model.specs.Plan.{Plan, clone_of}
use Rattle.jr_model.specs.Races.{has_raced}
use Rattle.jr_desk_tickets.specs.declared.table.TicketTable.{TicketTable}
use Rattle.jr_desk_tickets.specs.declared.table.IoState.{IoState}
use Rattle.jr_desk_tickets.specs.declared.table.IoState.TheVariants as states
use Rattle.jr_desk_tickets.specs.declared.launches.Launch.{Launch}
use Rattle.jr_desk_tickets.specs.Kept.{tickets_of}
use Rattle.jr_desk_tickets.specs.Tickets.{method_of}

-- the second half of the header that bytes are judged by, if they are by one
abbrev pub header_in : Expected → Option (List ℕ)
header_in expected.Nothing = None
header_in (expected.Pattern pattern) = None
header_in (expected.Header header) = Some (drop 32 header)
header_in (expected.Seed seed) = None

-- what is kept of a ticket's header: of that of a check whose write has a digest. The first half follows from the ticket
abbrev pub header_wanted : Ticket → Option (List ℕ)
header_wanted t = header_in t.expected

-- what is kept of a ticket, after so many headers
abbrev pub launch_of : ℕ → Ticket → Launch
launch_of headers t = record {
  worker = t.worker;
  kind = t.kind;
  write = t.write;
  file = t.piece.file;
  offset = t.piece.offset;
  len = t.piece.len;
  headers = headers;
  seed = t.seed;
}

-- of all tickets, after so many headers: each header that is kept counts for the tickets behind it
abbrev pub launches_from : ℕ → List Ticket → List Launch
launches_from headers [] = []
launches_from headers (t ∷ tickets) =
    launch_of headers t ∷ launches_from (headers + length (option_to_list (header_wanted t))) tickets

-- where it reads or writes
abbrev pub launched_piece : Launch → Piece
launched_piece launch = record { file = launch.file; offset = launch.offset; len = launch.len }

-- bytes that are judged by the header of these halves, if the second is there
abbrev pub header_expected : List ℕ → Option (List ℕ) → Expected
header_expected front None = expected.Nothing
header_expected front (Some back) = expected.Header (front ++ back)

-- bytes that are judged by headers: by the one of which the second half was kept, or by those that are made again of the seed
abbrev pub headers_again : Method → Launch → Option (List ℕ) → Expected
headers_again method launch back =
    if method.interval == 0
    then header_expected (header_front block_version method.kind launch.write (launched_piece launch)) back
    else expected.Seed launch.seed

-- what the bytes of a check of this method are judged by, with what is kept of it and the second half of its header
abbrev pub check_again : VerifyKind → Method → Launch → Option (List ℕ) → Expected
check_again verify.Plain method launch back = expected.Nothing
check_again verify.Pattern method launch back = expected_pattern method.pattern
check_again verify.Md5 method launch back = headers_again method launch back
check_again verify.Sha1 method launch back = headers_again method launch back
check_again verify.Sha256 method launch back = headers_again method launch back

-- what those of an I/O of this kind are
abbrev pub expected_again : TicketKind → Method → Launch → Option (List ℕ) → Expected
expected_again ticket.Read method launch back = expected.Nothing
expected_again ticket.Write method launch back = expected.Nothing
expected_again ticket.ReadCheck method launch back = expected.Nothing
expected_again ticket.Probe method launch back = check_again method.kind method launch back

-- the ticket of this number, made again of what is kept of it
abbrev pub ticket_again : Plan → List (List ℕ) → ℕ → Launch → Ticket
ticket_again plan headers id launch =
    let method = method_of (clone_of plan launch.write.clone) in
    record {
      id = id;
      worker = launch.worker;
      kind = launch.kind;
      write = launch.write;
      piece = launched_piece launch;
      seed = launch.seed;
      method = method;
      expected = expected_again launch.kind method launch (slice_get headers launch.headers);
    }

-- in flight, or how it ended, and where it ended whole whether it raced
abbrev pub by_outcome : Bool → Option Outcome → IoState
by_outcome raced None = states.InFlight
by_outcome raced (Some Whole) = if raced then states.Raced else states.EndedWhole
by_outcome raced (Some Failed) = states.Faulty
by_outcome raced (Some (Short n)) = states.Faulty

-- how far the I/O of this number has come
abbrev pub state_of : List Event → ℕ → IoState
state_of history id =
    if is_judged history id then states.Judged else by_outcome (has_raced history id) (outcome_of history id)

-- of all that were started
abbrev pub all_states : List Event → List IoState
all_states history = map (state_of history) (range_with_len 0 (length (started history)))

-- what is kept of the tickets of the history, the second halves of the headers of its checks, and how far all have come
pub record IsHanded (plan : Plan) (history : List Event) (handed : TicketTable) : Type 0 where
  pub launches : handed.launches.items ≡ launches_from 0 (tickets_of plan history)
  pub headers : handed.headers.items ≡ filter_map header_wanted (tickets_of plan history)
  pub states : handed.states.items ≡ all_states history
