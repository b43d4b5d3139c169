-- Believed: a map of a file: the worst that happened to a byte of each of its cells (of this project).
use Rattle.std.specs.Prelude.{◌≡◌, ◌<◌, ℕ, ◌*◌, max, nat_lt, Bool, false, List, length, fold, Option, Some, None, slice_get, slice_index_or, if◌then◌else◌}
use Rattle.std.specs.Int.{div_ceil}
use Rattle.std.specs.List.{list_any}
use Rattle.jr_model.specs.declared.events.Event.{Event}
use Rattle.jr_model.specs.declared.events.Event.TheVariants.{Issue, Probe, Skip, End, Verdict}
use Rattle.jr_model.specs.declared.events.Outcome.{Outcome}
use Rattle.jr_model.specs.declared.blocks.Piece.{Piece}
use Rattle.jr_model.specs.declared.events.Verdict.{Verdict as GivenVerdict}
use Rattle.jr_model.specs.declared.events.Verdict.TheVariants as given
use Rattle.jr_model.specs.declared.events.WriteId.{WriteId}
use Rattle.jr_model.specs.declared.limits.TheConstants.{SECTOR}
use Rattle.jr_model.specs.declared.tickets.TicketKind.{TicketKind}
use Rattle.jr_model.specs.declared.tickets.TicketKind.TheVariants as ticket
use Rattle.jr_model.specs.declared.events.Started.{Started}
use Rattle.jr_model.specs.History.{started, same_write}
use Rattle.jr_model.specs.Legal.{is_fault}
use Rattle.jr_model.specs.Pieces.{pieces_overlap}
use Rattle.jr_model.specs.Plan.{Plan}
use Rattle.jr_report_maps.specs.BadBlocks.{bad_bytes, block_piece}
use Rattle.jr_report_maps.specs.declared.fates.Fate.{Fate}
use Rattle.jr_report_maps.specs.declared.fates.Fate.TheVariants.{Untouched, Read, Good, Skipped, Unchecked, Void, Fault, Bad}
use Rattle.jr_report_maps.specs.declared.maps.FileMap.{FileMap}

-- how bad it is
abbrev pub rank : Fate → ℕ
rank Untouched = 0
rank Read = 1
rank Good = 2
rank Skipped = 3
rank Unchecked = 4
rank Void = 5
rank Fault = 6
rank Bad = 7

abbrev pub worse : Fate → Fate → Fate
worse a b = if nat_lt (rank a) (rank b) then b else a

-- the event skips the write
abbrev pub skips : WriteId → Event → Bool
skips write (Skip worker skipped) = same_write skipped write
skips write (Issue worker kind issued piece) = false
skips write (Probe worker probed piece) = false
skips write (End worker io outcome) = false
skips write (Verdict worker io verdict) = false

abbrev pub is_io_on : WriteId → Option Started → Bool
is_io_on write None = false
is_io_on write (Some io) = same_write io.write write

-- the event is a verdict on the write
abbrev pub judges : List Started → WriteId → Event → Bool
judges ios write (Verdict worker io verdict) = is_io_on write (slice_get ios io)
judges ios write (Issue worker kind issued piece) = false
judges ios write (Probe worker probed piece) = false
judges ios write (Skip worker skipped) = false
judges ios write (End worker io outcome) = false

-- of a write that ended whole: it was skipped, or judged, which then says more, or nothing was said of it
abbrev pub fate_of_write : List Event → WriteId → Fate
fate_of_write history write =
    if list_any (skips write) history then Skipped
    else (if list_any (judges (started history) write) history then Untouched else Unchecked)

-- of an I/O that ended whole; a check then awaits its verdict, and so does a checked read, which is read whatever the verdict says
abbrev pub fate_of_whole : List Event → TicketKind → WriteId → Fate
fate_of_whole history ticket.Read write = Read
fate_of_whole history ticket.Write write = fate_of_write history write
fate_of_whole history ticket.Probe write = Untouched
fate_of_whole history ticket.ReadCheck write = Read

abbrev pub fate_of_end : List Event → Started → Outcome → Fate
fate_of_end history io outcome = if is_fault outcome then Fault else fate_of_whole history io.kind io.write

abbrev pub fate_of_verdict : GivenVerdict → Fate
fate_of_verdict given.Good = Good
fate_of_verdict (given.Bad what) = Bad
fate_of_verdict given.Void = Void

-- the bytes that a verdict is over
abbrev pub verdict_bytes : Plan → GivenVerdict → Started → Piece
verdict_bytes plan given.Good io = io.piece
verdict_bytes plan (given.Bad what) io = bad_bytes plan io.write io.piece what
verdict_bytes plan given.Void io = io.piece

-- some bytes, and what is said of them
pub record Said : Type 0 where
  pub piece : Piece
  pub fate : Fate

-- what an end or a verdict says
abbrev pub said_by_end : List Event → Outcome → Option Started → Option Said
said_by_end history outcome None = None
said_by_end history outcome (Some io) = Some (record { piece = io.piece; fate = fate_of_end history io outcome })

abbrev pub said_by_verdict : Plan → GivenVerdict → Option Started → Option Said
said_by_verdict plan verdict None = None
said_by_verdict plan verdict (Some io) = Some (record { piece = verdict_bytes plan verdict io; fate = fate_of_verdict verdict })

abbrev pub said_of : Plan → List Event → Event → Option Said
said_of plan history (End worker io outcome) = said_by_end history outcome (slice_get (started history) io)
said_of plan history (Verdict worker io verdict) = said_by_verdict plan verdict (slice_get (started history) io)
said_of plan history (Issue worker kind write piece) = None
said_of plan history (Probe worker write piece) = None
said_of plan history (Skip worker write) = None

-- the fate of a cell once this is said; cells are blocks of so many bytes
abbrev pub marked : ℕ → ℕ → ℕ → Fate → Option Said → Fate
marked file size cell fate None = fate
marked file size cell fate (Some said) =
    if pieces_overlap said.piece (block_piece file size cell) then worse fate said.fate else fate

-- the worst of all that is said of a byte of the cell
abbrev pub fate_of : Plan → List Event → ℕ → ℕ → ℕ → Fate
fate_of plan history file size cell = fold (λ fate event. marked file size cell fate (said_of plan history event)) Untouched history

-- the least multiple of 512 bytes of which no more than `most` reach to the end of the file
abbrev pub cell_size : ℕ → ℕ → ℕ
cell_size most end = SECTOR * max 1 (div_ceil end (SECTOR * most))

-- the map of the first `end` bytes of a file
pub record IsMapOf (plan : Plan) (history : List Event) (file end most : ℕ) (map : FileMap) : Type 0 where
  pub size : map.size ≡ cell_size most end
  pub count : length map.fates.items ≡ div_ceil end map.size
  pub fates : (cell : ℕ) (d : Fate) → cell < length map.fates.items → slice_index_or map.fates.items cell d ≡ fate_of plan history file map.size cell
