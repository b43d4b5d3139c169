-- Believed: the writes of a plan, the chunks that each is cut into, and the bytes of it that are in one (of this project).
use Rattle.std.specs.Prelude.{ℕ, ◌-◌, ◌%◌, ◌==◌, nat_le, Bool, ◌&&◌, List, take, drop, filter, filter_map, flat_map, Option, Some, None, if◌then◌else◌}
use Rattle.std.specs.List.{range_with_len}
use Rattle.jr_model.specs.declared.blocks.Dir.{Dir}
use Rattle.jr_model.specs.declared.blocks.Dir.TheVariants as direction
use Rattle.jr_model.specs.declared.blocks.Piece.{Piece}
use Rattle.jr_model.specs.declared.workloads.Draw.{Draw}
use Rattle.jr_model.specs.Content.{content_of}
use Rattle.jr_model.specs.Draws.{draws_of_job}
use Rattle.jr_model.specs.Pieces.{piece_end}
use Rattle.jr_model.specs.Plan.{SubJob, Plan}
use Rattle.jr_after.specs.declared.writes.PlannedWrite.{PlannedWrite}

-- a draw as a write of the plan
abbrev pub write_in : SubJob → ℕ → Draw → Dir → Option PlannedWrite
write_in job pass draw direction.Read = None
write_in job pass draw direction.Write = Some (record {
  write = record { clone = job.clone; pass = pass; number = draw.number };
  piece = draw.piece;
  seed = draw.seed;
  method = job.method;
})

abbrev pub write_of_draw : SubJob → ℕ → Draw → Option PlannedWrite
write_of_draw job pass draw = write_in job pass draw draw.dir

abbrev pub writes_of_pass : SubJob → ℕ → List PlannedWrite
writes_of_pass job pass = filter_map (write_of_draw job pass) (draws_of_job job pass)

abbrev pub writes_of_clone : SubJob → List PlannedWrite
writes_of_clone job = flat_map (writes_of_pass job) (range_with_len 0 job.passes)

-- all writes of a plan, by clone, pass and number
abbrev pub writes_of : Plan → List PlannedWrite
writes_of plan = flat_map writes_of_clone plan.clones

-- the piece is one of the chunks that the write is cut into: the parts with a header each, or the whole block where it has one
abbrev pub is_chunk : ℕ → Piece → Piece → Bool
is_chunk interval piece chunk =
    if interval == 0
    then ((chunk.offset == piece.offset) && (chunk.len == piece.len))
    else ((chunk.len == interval) && nat_le piece.offset chunk.offset && ((chunk.offset - piece.offset) % interval == 0)
    && nat_le (piece_end chunk) (piece_end piece))

abbrev pub has_chunk : Piece → PlannedWrite → Bool
has_chunk chunk planned = (planned.piece.file == chunk.file) && is_chunk planned.method.interval planned.piece chunk

-- the writes over a chunk
abbrev pub writes_over : Piece → List PlannedWrite → List PlannedWrite
writes_over chunk writes = filter (has_chunk chunk) writes

-- the bytes that the write puts into a chunk of it
abbrev pub bytes_in : PlannedWrite → Piece → List ℕ
bytes_in planned chunk =
    take chunk.len
    (drop (chunk.offset - planned.piece.offset)
    (content_of planned.method.kind planned.method planned.write planned.piece planned.seed))
