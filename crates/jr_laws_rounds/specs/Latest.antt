-- Claimed: what an open round says of the latest writes, where nothing goes wrong (of this project).
use Rattle.std.specs.Prelude.{◌≡◌, ℕ, Bool, true, false, List, Some, slice_get}
use Rattle.std.specs.List.{list_all}
use Rattle.jr_model.specs.declared.blocks.Piece.{Piece}
use Rattle.jr_model.specs.declared.events.Event.{Event}
use Rattle.jr_model.specs.declared.events.Event.TheVariants.{Probe, Skip}
use Rattle.jr_model.specs.declared.events.WriteId.{WriteId}
use Rattle.jr_model.specs.declared.workloads.Draw.{Draw}
use Rattle.jr_model.specs.Draws.{draws_of_job}
use Rattle.jr_model.specs.LastWrite.{last_write, is_this_write, blocks_of}
use Rattle.jr_model.specs.Legal.{is_legal, may_happen}
use Rattle.jr_model.specs.Plan.{Plan, SubJob, clone_of}
use Rattle.jr_model.specs.Rounds.{pass_of, is_open}
use Rattle.jr_plan.specs.Files.{are_apart}
use Rattle.jr_model.specs.PlanFacts.{IsPlanned}
use Rattle.jr_laws_quiet.specs.Quiet.{is_quiet, last_issued}
use Rattle.jr_laws_quiet.specs.Declining.{none_declines}

-- where no clone declines, no two have one file and a round of a clone is open, the last write of each block of its file is the one that
-- was issued last
abbrev pub OpenIsLatest : Type 0
OpenIsLatest =
    (plan : Plan) (history : List Event) (job : SubJob) (pass g block : ℕ)
    → IsPlanned plan
    → none_declines plan ≡ true
    → are_apart plan.clones ≡ true
    → is_legal plan history ≡ true
    → is_quiet history ≡ true
    → clone_of plan job.clone ≡ Some job
    → is_open history (pass_of job pass) g ≡ true
    → last_write history job.file block ≡ last_issued history job.file block

-- the write was issued last of all that write a block of the piece, for each of its blocks
abbrev pub is_latest : List Event → WriteId → Piece → Bool
is_latest history write piece =
    list_all (λ block. is_this_write write (last_issued history piece.file block)) (blocks_of piece)

-- so, where no clone declines, the writes that are checked were issued last over each of their blocks, whoever uses the file, and those that are
-- skipped weren't
abbrev pub TakenUpIsLatest : Type 0
TakenUpIsLatest =
    (plan : Plan) (history : List Event) (worker : ℕ) (write : WriteId) (piece : Piece) (job : SubJob) (draw : Draw)
    → IsPlanned plan
    → none_declines plan ≡ true
    → is_legal plan history ≡ true
    → is_quiet history ≡ true
    → clone_of plan write.clone ≡ Some job
    → slice_get (draws_of_job job write.pass) write.number ≡ Some draw
    → (may_happen plan history (Probe worker write piece) ≡ true → is_latest history write draw.piece ≡ true)
    × (may_happen plan history (Skip worker write) ≡ true → is_latest history write draw.piece ≡ false)
