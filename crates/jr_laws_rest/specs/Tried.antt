-- Claimed: a clone that goes in order tries each byte of its region once, from the start on, as far as it comes; and so do rounds of which
-- each goes on where the one before it stopped (of this project).
use Rattle.std.specs.Prelude.{◌≡◌, ℕ, ◌==◌, ◌≤◌, nat_le, nat_lt, Bool, true, ◌&&◌, List, [], ◌∷◌, Option, Some, None, filter_map, flat_map, count_by, if◌then◌else◌}
use Rattle.jr_model.specs.declared.blocks.Piece.{Piece}
use Rattle.jr_model.specs.declared.events.Event.{Event}
use Rattle.jr_model.specs.declared.events.Event.TheVariants.{Issue, Probe, Skip, End, Verdict}
use Rattle.jr_model.specs.Legal.{is_legal}
use Rattle.jr_model.specs.Pieces.{piece_end}
use Rattle.jr_model.specs.Plan.{Plan, SubJob, clone_of}
use Rattle.jr_rounds_rest.specs.Left.{is_in_order, reached}

-- the piece that the event tries first of all: clone c issues it in its first pass
abbrev pub try_by : ℕ → Event → Option Piece
try_by c (Issue worker kind write piece) = if (write.clone == c) && (write.pass == 0) then Some piece else None
try_by c (Probe worker write piece) = None
try_by c (Skip worker write) = None
try_by c (End worker io outcome) = None
try_by c (Verdict worker io verdict) = None

-- all that clone c tried, whatever came of it
abbrev pub tries : List Event → ℕ → List Piece
tries history c = filter_map (try_by c) history

-- pieces of a file of which each begins where the one before it ends, and the first one at this offset
abbrev pub IsRow : ℕ → ℕ → List Piece → Type 0
IsRow file from [] = Unit {0}
IsRow file from (piece ∷ pieces) = (piece.file ≡ file) × (piece.offset ≡ from) × IsRow file (piece_end piece) pieces

-- where such a row ends
abbrev pub row_end : ℕ → List Piece → ℕ
row_end from [] = from
row_end from (piece ∷ pieces) = row_end (piece_end piece) pieces

abbrev pub has_byte : ℕ → ℕ → Piece → Bool
has_byte file b piece = (piece.file == file) && nat_le piece.offset b && nat_lt b (piece_end piece)

-- what a clone tried is a row from the start of its region up to where it came
abbrev pub TriedInARow : Type 0
TriedInARow =
    (plan : Plan) (history : List Event) (job : SubJob)
    → is_legal plan history ≡ true
    → clone_of plan job.clone ≡ Some job
    → is_in_order job.io_type ≡ true
    → IsRow job.file job.start (tries history job.clone) × (row_end job.start (tries history job.clone) ≡ reached history job)

-- a part of a clone that was run in a round: the plan of the round, its clone there, and what happened
pub record Turn : Type 0 where
  pub plan : Plan
  pub job : SubJob
  pub history : List Event

-- it goes in order through this file from this offset on
pub record IsTurn (file from : ℕ) (turn : Turn) : Type 0 where
  pub legal : is_legal turn.plan turn.history ≡ true
  pub there : clone_of turn.plan turn.job.clone ≡ Some turn.job
  pub in_order : is_in_order turn.job.io_type ≡ true
  pub same_file : turn.job.file ≡ file
  pub begins : turn.job.start ≡ from

-- each goes on where the one before it stopped, as the clone of a rest does
abbrev pub AreTurns : ℕ → ℕ → List Turn → Type 0
AreTurns file from [] = Unit {0}
AreTurns file from (turn ∷ turns) = IsTurn file from turn × AreTurns file (reached turn.history turn.job) turns

abbrev pub all_tries : List Turn → List Piece
all_tries turns = flat_map (λ (turn : Turn). tries turn.history turn.job.clone) turns

-- how far all of them came
abbrev pub reached_by : ℕ → List Turn → ℕ
reached_by from [] = from
reached_by from (turn ∷ turns) = reached_by (reached turn.history turn.job) turns

-- a byte from the first start on was tried once if they came past it, and else not at all
abbrev pub EachByteTriedOnce : Type 0
EachByteTriedOnce =
    (file from b : ℕ) (turns : List Turn)
    → AreTurns file from turns
    → from ≤ b
    → count_by (has_byte file b) (all_tries turns) ≡ (if nat_lt b (reached_by from turns) then 1 else 0)
