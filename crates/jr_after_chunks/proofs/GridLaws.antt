-- In a plan that is taken a write has the chunks that it touches whole, and its chunks are those of its file.
use Rattle.std.proofs.Common.{◌≡◌, ℕ, ◌+◌, ◌-◌, ◌*◌, ◌%◌, ◌≤◌, true, false, ap, sym, ◌∙◌, arith}
use Rattle.std.specs.Prelude.{Some, None, slice_get, max, min, nat_lt, ◌==◌}
use Rattle.std.proofs.lemmas.Bool.{and_parts, and_from, eq-eqb, eqb-true, ltb-true}
use Rattle.std.proofs.lemmas.List.Elements.{All-weaker}
use Rattle.std.proofs.Math.Nat.{add-mul, mul-le-mul_right}
use Rattle.jr_model.specs.declared.blocks.Piece.{Piece}
use Rattle.jr_model.specs.declared.contents.Method.{Method}
use Rattle.jr_model.specs.Directions.{has_writes}
use Rattle.jr_model.specs.Pieces.{piece_end, pieces_overlap}
use Rattle.jr_model.specs.Plan.{SubJob, Plan}
use Rattle.jr_model.specs.PlanFacts.{IsPlanned, KeepsLimits}
use Rattle.jr_after.specs.declared.writes.PlannedWrite.{PlannedWrite}
use Rattle.jr_after.specs.Writes.{has_chunk, is_chunk, writes_of}
use Rattle.jr_after_plans.specs.Taken.{after_fault, chunk_len}
use Rattle.jr_after_chunks.specs.Laws.{EachChunkComes, HasWholeChunks, ItsChunksCome, NoChunkIsParts}
use Rattle.jr_after_chunks.specs.Next.{IsChunkIn, IsChunkOf}
use Rattle.jr_after_chunks.proofs.DrawnPlaces.{IsPlannedIn, IsWriteOf, writes_drawn}
use Rattle.jr_after_chunks.proofs.Grids.{IsCut, chunk_from_meets, is_cut, meets, meets_from_chunk, multiple_of, multiple_on}
use Rattle.jr_after_chunks.proofs.TakenClones.{IsTaken, alike, taken_at, taken_of}

-- a planned write, its clone and how that cuts its region
record IsCutWrite (plan : Plan) (planned : PlannedWrite) : Type 0 where
  place : ℕ
  job : SubJob
  at : slice_get plan.clones place ≡ Some job
  write : IsWriteOf job planned
  taken : IsTaken plan.clones job
  cut : IsCut job
  limits : KeepsLimits job

cut_write : (plan : Plan) (planned : PlannedWrite) → IsPlanned plan → after_fault plan ≡ None → IsPlannedIn plan.clones planned → IsCutWrite plan planned
cut_write plan planned facts none is =
    let limits = facts.drafted.limited is.place is.job is.at in
    let taken = taken_of plan.clones is.job is.write.writes (taken_at plan.clones plan.clones is.place is.job none is.at) in
    record {
      place = is.place;
      job = is.job;
      at = is.at;
      write = is.write;
      taken = taken;
      cut = is_cut is.job limits taken.digest taken.some;
      limits = limits;
    }

-- without an interval its block is one chunk
whole_block : (job : SubJob) (planned : PlannedWrite) → IsWriteOf job planned → IsCut job → (planned.method.interval == 0) ≡ true → planned.piece.len ≡ chunk_len job
whole_block job planned write cut zero =
    let own : (job.method.interval == 0) ≡ true = ap (λ (m : Method). m.interval == 0) (sym write.method) ∙ zero in
    let both = cut.whole own in
    let one : write.count ≡ 1 = write.one both.0 in
    let len : planned.piece.len ≡ write.count * job.cell = ap (λ (p : Piece). p.len) write.piece in
    let cell : write.count * job.cell ≡ job.cell = ap (λ (n : ℕ). n * job.cell) one ∙ (let e : 1 * job.cell ≡ job.cell = omega arith in e) in
    len ∙ cell ∙ sym both.1

-- with one its chunks are as long
interval_is : (job : SubJob) (planned : PlannedWrite) → IsWriteOf job planned → IsCut job → (planned.method.interval == 0) ≡ false → chunk_len job ≡ planned.method.interval
interval_is job planned write cut given =
    let own : (job.method.interval == 0) ≡ false = ap (λ (m : Method). m.interval == 0) (sym write.method) ∙ given in
    cut.parts own ∙ ap (λ (m : Method). m.interval) (sym write.method)

-- its place on the grid of its clone
place_on : (job : SubJob) (planned : PlannedWrite) → IsWriteOf job planned → IsCut job → planned.piece.offset % chunk_len job ≡ job.start % chunk_len job
place_on job planned write cut =
    ap (λ (p : Piece). p.offset % chunk_len job) write.piece
    ∙ multiple_on job.start (write.first * job.cell) (chunk_len job) (multiple_of write.first job.cell (chunk_len job) cut.divides)

size_on : (job : SubJob) (planned : PlannedWrite) → IsWriteOf job planned → IsCut job → planned.piece.len % chunk_len job ≡ 0
size_on job planned write cut = ap (λ (p : Piece). p.len % chunk_len job) write.piece ∙ multiple_of write.count job.cell (chunk_len job) cut.divides

-- and that of a chunk of a clone
chunk_on : (job : SubJob) (chunk : Piece) → IsChunkOf job chunk → chunk.offset % chunk_len job ≡ job.start % chunk_len job
chunk_on job chunk is =
    let e : chunk.offset ≡ job.start + (chunk.offset - job.start) = omega (arith, is.low) in
    ap (λ (n : ℕ). n % chunk_len job) e ∙ multiple_on job.start (chunk.offset - job.start) (chunk_len job) is.fits

has_whole : (plan : Plan) (planned : PlannedWrite) (chunk : Piece) → IsPlanned plan → after_fault plan ≡ None → IsCutWrite plan planned → IsChunkIn plan.clones chunk.file chunk → pieces_overlap chunk planned.piece ≡ true → has_chunk chunk planned ≡ true
has_whole plan planned chunk facts none is found over =
    let b = is.job in
    let a = found.job in
    let len = chunk_len b in
    let piece = planned.piece in
    let shared = and_parts (chunk.file == piece.file) (nat_lt (max chunk.offset piece.offset) (min (piece_end chunk) (piece_end piece))) over in
    let file : chunk.file ≡ piece.file = eqb-true chunk.file piece.file shared.0 in
    let below = ltb-true (max chunk.offset piece.offset) (min (piece_end chunk) (piece_end piece)) shared.1 in
    let afile = and_parts (a.file == chunk.file) (has_writes a.io_type) found.writes in
    let ta = taken_of plan.clones a afile.1 (taken_at plan.clones plan.clones found.place a none found.at) in
    let bfile : b.file ≡ chunk.file = ap (λ (p : Piece). p.file) (sym is.write.piece) ∙ sym file in
    let same = alike plan.clones chunk.file found.place a b found.at found.writes (eqb-true a.file chunk.file afile.0) bfile ta is.taken in
    let size : chunk.len ≡ len = found.chunk_of.len ∙ same.len in
    let grid : chunk.offset % len ≡ piece.offset % len =
    ap (λ (n : ℕ). chunk.offset % n) (sym same.len) ∙ chunk_on a chunk found.chunk_of ∙ ap (λ (n : ℕ). a.start % n) same.len ∙ same.start
    ∙ sym (place_on b planned is.write is.cut) in
    let meet = meets len chunk.offset piece.offset piece.len is.taken.some grid (size_on b planned is.write is.cut) (omega (arith, below)) (omega (arith, below, size)) in
    and_from (piece.file == chunk.file) (is_chunk planned.method.interval piece chunk) (eq-eqb piece.file chunk.file (sym file))
    (chunk_from_meets planned.method.interval len piece chunk (whole_block b planned is.write is.cut) (interval_is b planned is.write is.cut) size meet)

comes : (plan : Plan) (planned : PlannedWrite) (chunk : Piece) → IsPlanned plan → after_fault plan ≡ None → IsCutWrite plan planned → has_chunk chunk planned ≡ true → IsChunkIn plan.clones chunk.file chunk
comes plan planned chunk facts none is has =
    let b = is.job in
    let len = chunk_len b in
    let piece = planned.piece in
    let x = is.write.first in
    let m = is.write.count in
    let parts = and_parts (piece.file == chunk.file) (is_chunk planned.method.interval piece chunk) has in
    let file : chunk.file ≡ b.file = sym (eqb-true piece.file chunk.file parts.0) ∙ ap (λ (p : Piece). p.file) is.write.piece in
    let met = meets_from_chunk planned.method.interval len piece chunk (whole_block b planned is.write is.cut) (interval_is b planned is.write is.cut) parts.1 in
    let meet = met.1 in
    let place : piece.offset ≡ b.start + x * b.cell = ap (λ (p : Piece). p.offset) is.write.piece in
    let size : piece.len ≡ m * b.cell = ap (λ (p : Piece). p.len) is.write.piece in
    let sum : (x + m) * b.cell ≡ x * b.cell + m * b.cell = add-mul x m b.cell in
    let inside : (x + m) * b.cell ≤ b.cells * b.cell = mul-le-mul_right b.cell is.write.within in
    let e : chunk.offset - b.start ≡ x * b.cell + (chunk.offset - piece.offset) = omega (arith, place, meet.low) in
    record {
      place = is.place;
      job = b;
      at = is.at;
      writes = and_from (b.file == chunk.file) (has_writes b.io_type) (eq-eqb b.file chunk.file (sym file)) is.write.writes;
      chunk_of = record {
        some = is.taken.some;
        file = file;
        len = met.0;
        low = omega (arith, place, meet.low);
        fits = ap (λ (n : ℕ). n % len) e ∙ multiple_on (x * b.cell) (chunk.offset - piece.offset) len meet.whole ∙ multiple_of x b.cell len is.cut.divides;
        high = omega (arith, place, size, sum, inside, meet.high);
      };
    }

pub no_chunk_is_parts : NoChunkIsParts
no_chunk_is_parts plan facts none =
    All-weaker (IsPlannedIn plan.clones) (HasWholeChunks plan) (λ planned is chunk found over. has_whole plan planned chunk facts none (cut_write plan planned facts none is) found over) (writes_of plan) (writes_drawn plan facts)

pub each_chunk_comes : EachChunkComes
each_chunk_comes plan facts none =
    All-weaker (IsPlannedIn plan.clones) (ItsChunksCome plan) (λ planned is chunk has. comes plan planned chunk facts none (cut_write plan planned facts none is) has) (writes_of plan) (writes_drawn plan facts)
