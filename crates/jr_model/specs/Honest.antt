-- Believed: when reads are honest, and when verdicts are those of the bytes read (of this project).
use Rattle.std.specs.Prelude.{◌≡◌, ℕ, zero, suc, ◌-◌, ◌*◌, List, [], ◌∷◌, take, drop, slice_get, Option, Some, None, is_some, IsTrue, IsFalse, if◌then◌else◌}
use Rattle.jr_model.specs.declared.limits.TheConstants.{SECTOR}
use Rattle.jr_model.specs.declared.blocks.Piece.{Piece}
use Rattle.jr_model.specs.declared.events.Event.{Event}
use Rattle.jr_model.specs.declared.events.Event.TheVariants.{Verdict}
use Rattle.jr_model.specs.declared.events.Verdict.{Verdict as GivenVerdict}
use Rattle.jr_model.specs.declared.events.WriteId.{WriteId}
use Rattle.jr_model.specs.declared.workloads.Draw.{Draw}
use Rattle.jr_model.specs.Draws.{draws_of}
use Rattle.jr_model.specs.History.{Started, started, started_by, outcome_of, is_probe, ended_whole}
use Rattle.jr_model.specs.LastWrite.{covers_block, last_write}
use Rattle.jr_model.specs.Machine.{content_in_job, verdict_on, said_of}
use Rattle.jr_model.specs.Plan.{Plan, clone_of}
use Rattle.jr_model.specs.Races.{has_raced}

-- the history before I/O io was started
abbrev pub before_start : List Event → ℕ → List Event
before_start [] io = []
before_start (event ∷ history) zero = if is_some (started_by event) then [] else (event ∷ before_start history zero)
before_start (event ∷ history) (suc io) =
    event ∷ (if is_some (started_by event) then before_start history io else before_start history (suc io))

-- the bytes of a block, of all those of a piece
abbrev pub block_bytes : Piece → ℕ → List ℕ → List ℕ
block_bytes piece block bytes = take SECTOR (drop (block * SECTOR - piece.offset) bytes)

-- the bytes that a write puts into a block
abbrev pub written_by : Plan → WriteId → Option Draw → ℕ → List ℕ
written_by plan write None block = []
written_by plan write (Some draw) block =
    block_bytes draw.piece block (content_in_job (clone_of plan write.clone) write draw.piece draw.seed)

abbrev pub written_in : Plan → WriteId → ℕ → List ℕ
written_in plan write block =
    written_by plan write (slice_get (draws_of plan write.clone write.pass) write.number) block

-- io is a check that ended whole and didn't race
abbrev pub IsWholeCheck : List Event → ℕ → Started → Type 0
IsWholeCheck history io s =
    (slice_get (started history) io ≡ Some s) × IsTrue (is_probe s.kind) × IsTrue (ended_whole (outcome_of history io))
    × IsFalse (has_raced history io)

-- reads are honest: each check that ended whole and didn't race gave, in each of its blocks, what the block's last write before the
-- check put there; `read` gives the bytes of each check
abbrev pub IsHonest : Plan → List Event → (ℕ → List ℕ) → Type 0
IsHonest plan history read =
    (io : ℕ) (s : Started) (block : ℕ) (write : WriteId)
    → IsWholeCheck history io s
    → IsTrue (covers_block s.piece s.piece.file block)
    → last_write (before_start history io) s.piece.file block ≡ Some write
    → block_bytes s.piece block (read io) ≡ written_in plan write block

-- each verdict is that on the bytes read, but for what raced
abbrev pub IsJudgedBy : Plan → List Event → (ℕ → List ℕ) → Type 0
IsJudgedBy plan history read =
    (place by io : ℕ) (verdict : GivenVerdict) (s : Started)
    → slice_get history place ≡ Some (Verdict by io verdict)
    → slice_get (started history) io ≡ Some s
    → verdict ≡ said_of (has_raced history io) (verdict_on plan s (read io))
