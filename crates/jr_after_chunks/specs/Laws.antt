-- Claimed: in a plan that is taken no chunk is parts of two writes, and each chunk of a write comes (of this project).
use Rattle.std.specs.Prelude.{◌≡◌, true, None, All}
use Rattle.jr_model.specs.declared.blocks.Piece.{Piece}
use Rattle.jr_model.specs.Pieces.{pieces_overlap}
use Rattle.jr_model.specs.Plan.{Plan}
use Rattle.jr_model.specs.PlanFacts.{IsPlanned}
use Rattle.jr_after.specs.declared.writes.PlannedWrite.{PlannedWrite}
use Rattle.jr_after.specs.Writes.{has_chunk, writes_of}
use Rattle.jr_after_plans.specs.Taken.{after_fault}
use Rattle.jr_after_chunks.specs.Next.{IsChunkIn}

-- the write has each chunk of its file that it shares a byte with, whole
abbrev pub HasWholeChunks : Plan → PlannedWrite → Type 0
HasWholeChunks plan planned =
    (chunk : Piece) → IsChunkIn plan.clones chunk.file chunk → pieces_overlap chunk planned.piece ≡ true → has_chunk chunk planned ≡ true

-- each chunk of the write is one of its file
abbrev pub ItsChunksCome : Plan → PlannedWrite → Type 0
ItsChunksCome plan planned = (chunk : Piece) → has_chunk chunk planned ≡ true → IsChunkIn plan.clones chunk.file chunk

abbrev pub NoChunkIsParts : Type 0
NoChunkIsParts = (plan : Plan) → IsPlanned plan → after_fault plan ≡ None → All (HasWholeChunks plan) (writes_of plan)

abbrev pub EachChunkComes : Type 0
EachChunkComes = (plan : Plan) → IsPlanned plan → after_fault plan ≡ None → All (ItsChunksCome plan) (writes_of plan)
