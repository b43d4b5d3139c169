-- Believed: which blocks of a file came back wrong, or are of an I/O that failed (of this project).
use Rattle.std.specs.Prelude.{◌≡◌, ℕ, Bool, ◌||◌, List, Option, Some, None, filter_map, slice_get, if◌then◌else◌}
use Rattle.std.specs.List.{list_any}
use Rattle.std.specs.List.Sorted.{IsStrictlyIncreasing}
use Rattle.jr_model.specs.declared.blocks.Piece.{Piece}
use Rattle.jr_model.specs.declared.events.Event.{Event}
use Rattle.jr_model.specs.declared.events.Event.TheVariants.{Issue, Probe, Skip, End, Verdict}
use Rattle.jr_model.specs.declared.events.Started.{Started}
use Rattle.jr_model.specs.History.{started}
use Rattle.jr_model.specs.Legal.{is_fault}
use Rattle.jr_model.specs.Pieces.{pieces_overlap}
use Rattle.jr_model.specs.Plan.{Plan}
use Rattle.jr_model.specs.Report.{Miscompare}
use Rattle.jr_report_maps.specs.BadBlocks.{block_piece, is_bad_block, is_listed}

abbrev pub piece_of : Option Started → Option Piece
piece_of None = None
piece_of (Some io) = Some io.piece

-- the piece of the I/O that the event ends with a fault, where these are started
abbrev pub faulty_piece : List Started → Event → Option Piece
faulty_piece ios (End worker io outcome) = if is_fault outcome then piece_of (slice_get ios io) else None
faulty_piece ios (Issue worker kind write piece) = None
faulty_piece ios (Probe worker write piece) = None
faulty_piece ios (Skip worker write) = None
faulty_piece ios (Verdict worker io verdict) = None

-- the pieces of I/Os and checks that failed or ended short, all of each
abbrev pub faulty_pieces : List Event → List Piece
faulty_pieces history = filter_map (faulty_piece (started history)) history

abbrev pub is_faulty_at : ℕ → ℕ → ℕ → Piece → Bool
is_faulty_at file size block piece = pieces_overlap piece (block_piece file size block)

abbrev pub is_faulty_block : List Event → ℕ → ℕ → ℕ → Bool
is_faulty_block history file size block = list_any (is_faulty_at file size block) (faulty_pieces history)

-- a number is there exactly where a bad verdict, or an I/O that failed, is over a byte of that block; they ascend, so each is there once
pub record AreWrongBlocks (plan : Plan) (history : List Event) (found : List Miscompare) (file size : ℕ) (blocks : List ℕ) : Type 0 where
  pub listed : (block : ℕ) → is_listed blocks block ≡ (is_bad_block plan found file size block || is_faulty_block history file size block)
  pub ascending : IsStrictlyIncreasing blocks
