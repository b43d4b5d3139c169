-- The pieces of a plan's draws, and what its writes put there block by block.
use Rattle.std.proofs.Common.{◌≡◌, ℕ, ◌+◌, ◌-◌, ◌*◌, ◌/◌, ◌%◌, ◌<◌, ◌≤◌, List, [], length, take, drop, get_or, true, ◌&&◌, refl, sym, ◌∙◌, ap, subst, arith}
use Rattle.std.specs.Prelude.{Option, Some, slice_get, nat_lt, nat_le, ◌==◌}
use Rattle.std.proofs.lemmas.Bool.{and_parts, and_from, eqb-true, eq-eqb, ltb-true, lt-ltb, leb-true, le-leb}
use Rattle.std.proofs.lemmas.Option.{slice_get_within, slice_get-get_or, get_or_from_slice_get}
use Rattle.jr_model.specs.declared.limits.TheConstants.{SECTOR, LARGEST_BLOCK, LARGEST_END}
use Rattle.jr_model.specs.declared.blocks.Piece.{Piece}
use Rattle.jr_model.specs.declared.events.Started.{Started}
use Rattle.jr_model.specs.declared.events.WriteId.{WriteId}
use Rattle.jr_model.specs.declared.workloads.Draw.{Draw}
use Rattle.jr_model.specs.Draws.{draws_of, draws_of_clone, draws_over}
use Rattle.jr_model.specs.Honest.{block_bytes, written_by, written_in}
use Rattle.jr_model.specs.LastWrite.{covers_block}
use Rattle.jr_model.specs.Machine.{content_in_job, content_of_io, seed_of_draw}
use Rattle.jr_model.specs.Plan.{Plan, SubJob, FileSpec, clone_of}
use Rattle.jr_model.specs.Tickets.{piece_fits, interval_fits}
use Rattle.jr_model.specs.Words.{pass_words}
use Rattle.jr_model.specs.PlanFacts.{IsPlanned}
use Rattle.jr_model.proofs.PieceLemmas.{interval_of_cells}
use Rattle.jr_laws_draws.specs.PassLaw.{IsInRegion}
use Rattle.jr_laws_draws.proofs.TheLaw.{pass_law, drawable_of}
use Rattle.jr_header.proofs.Lengths.{length-content_of}
use Rattle.jr_laws_bytes.proofs.Blocks.{same_by_parts}
use Rattle.jr_laws_bytes.proofs.Starts.{IsDrawOf}

-- where a draw's piece lies

-- one or more whole blocks
pub record IsWholeBlocks (piece : Piece) : Type 0 where
  pub some : 512 ≤ piece.len
  pub size : piece.len % 512 ≡ 0
  pub start : piece.offset % 512 ≡ 0

-- whole blocks within a file of the plan
pub record LiesInFile (plan : Plan) (piece : Piece) : Type 0 where
  pub blocks : IsWholeBlocks piece
  pub spec : FileSpec
  pub file : slice_get plan.files piece.file ≡ Some spec
  pub low : spec.low ≤ piece.offset
  pub high : piece.offset + piece.len ≤ spec.high

-- an element that is there
pub there : {X : Type 0} (P : X → Type 0) (xs : List X) (k : ℕ) (x : X) → slice_get xs k ≡ Some x → ((d : X) → k < length xs → P (get_or xs k d)) → P x
there P xs k x at all = subst P (get_or_from_slice_get xs k x x at) (all x (slice_get_within xs k x at))

whole_blocks : (piece : Piece) → piece_fits piece ≡ true → IsWholeBlocks piece
whole_blocks p h =
    let four = and_parts (nat_lt 0 p.len && nat_le p.len LARGEST_BLOCK && (p.len % SECTOR == 0) && (p.offset % SECTOR == 0)) (nat_le (p.offset + p.len) LARGEST_END) h in
    let three = and_parts (nat_lt 0 p.len && nat_le p.len LARGEST_BLOCK && (p.len % SECTOR == 0)) (p.offset % SECTOR == 0) four.0 in
    let two = and_parts (nat_lt 0 p.len && nat_le p.len LARGEST_BLOCK) (p.len % SECTOR == 0) three.0 in
    let one = and_parts (nat_lt 0 p.len) (nat_le p.len LARGEST_BLOCK) two.0 in
    let some : 0 < p.len = ltb-true 0 p.len one.0 in
    let size : p.len % 512 ≡ 0 = eqb-true (p.len % SECTOR) 0 two.1 in record {
      some = omega (arith, some, size);
      size = size;
      start = eqb-true (p.offset % SECTOR) 0 three.1;
    }

pub lies_in_file : (plan : Plan) (write : WriteId) (piece : Piece) (job : SubJob) (draw : Draw) → IsPlanned plan → IsDrawOf plan write piece job draw → LiesInFile plan piece
lies_in_file plan write piece job draw planned names =
    let placed = planned.drafted.placed write.clone job names.planned in
    let law = pass_law job (drawable_of job (planned.drafted.limited write.clone job names.planned)) in
    let words = pass_words job write.pass (4 * job.cells) in
    let fits : piece_fits piece ≡ true =
    subst (λ (p : Piece). piece_fits p ≡ true) names.lies
    (there (λ (d : Draw). piece_fits d.piece ≡ true) (draws_over job words) write.number draw names.drawn (λ d within. law.fits words write.number d within)) in
    let region : IsInRegion job piece =
    subst (λ (p : Piece). IsInRegion job p) names.lies
    (there (λ (d : Draw). IsInRegion job d.piece) (draws_over job words) write.number draw names.drawn (λ d within. law.placed words write.number d within)) in
    let spec : FileSpec = get_or plan.files job.file (record { name = []; low = 0; high = 0 }) in
    let file : slice_get plan.files job.file ≡ Some spec = slice_get-get_or plan.files job.file (record { name = []; low = 0; high = 0 }) placed.file in
    let within = placed.within spec file in record {
      blocks = whole_blocks piece fits;
      spec = spec;
      file = ap (slice_get plan.files) region.file ∙ file;
      low = omega (arith, within.0, region.low);
      high = omega (arith, within.1, region.high);
    }

-- what a draw's write puts into its blocks

-- a draw's piece fits, and the interval of its clone divides it
pub drawn_chunks : (plan : Plan) (write : WriteId) (piece : Piece) (job : SubJob) (draw : Draw) → IsPlanned plan → IsDrawOf plan write piece job draw → (piece_fits piece ≡ true) × (interval_fits job.method.kind job.method.interval piece.len ≡ true)
drawn_chunks plan write piece job draw planned names =
    let limits = planned.drafted.limited write.clone job names.planned in
    let law = pass_law job (drawable_of job limits) in
    let words = pass_words job write.pass (4 * job.cells) in
    let fits : piece_fits piece ≡ true =
    subst (λ (p : Piece). piece_fits p ≡ true) names.lies
    (there (λ (d : Draw). piece_fits d.piece ≡ true) (draws_over job words) write.number draw names.drawn (λ d within. law.fits words write.number d within)) in
    let region : IsInRegion job piece =
    subst (λ (p : Piece). IsInRegion job p) names.lies
    (there (λ (d : Draw). IsInRegion job d.piece) (draws_over job words) write.number draw names.drawn (λ d within. law.placed words write.number d within)) in
    (fits, interval_of_cells job.method.kind job.method.interval job.cell piece.len region.cells limits.interval)

pub draw_in_plan : (plan : Plan) (write : WriteId) (piece : Piece) (job : SubJob) (draw : Draw) → IsDrawOf plan write piece job draw → slice_get (draws_of plan write.clone write.pass) write.number ≡ Some draw
draw_in_plan plan write piece job draw names =
    ap (λ (o : Option SubJob). slice_get (draws_of_clone o write.pass) write.number) names.planned ∙ names.drawn

pub length-content_of_io : (plan : Plan) (s : Started) (job : SubJob) (draw : Draw) → IsPlanned plan → IsDrawOf plan s.write s.piece job draw → length (content_of_io plan s) ≡ s.piece.len
length-content_of_io plan s job draw planned names =
    let chunks = drawn_chunks plan s.write s.piece job draw planned names in
    let seed = seed_of_draw (slice_get (draws_of plan s.write.clone s.write.pass) s.write.number) in
    ap (λ (o : Option SubJob). length (content_in_job o s.write s.piece seed)) names.planned
    ∙ length-content_of job.method.kind job.method s.write s.piece seed chunks.0 chunks.1

-- the bytes of the write in a block are those of its content there
pub written_in-content : (plan : Plan) (s : Started) (job : SubJob) (draw : Draw) (block : ℕ) → IsDrawOf plan s.write s.piece job draw → written_in plan s.write block ≡ block_bytes s.piece block (content_of_io plan s)
written_in-content plan s job draw block names =
    let drawn = draw_in_plan plan s.write s.piece job draw names in
    ap (λ (o : Option Draw). written_by plan s.write o block) drawn
    ∙ ap (λ (p : Piece). block_bytes p block (content_in_job (clone_of plan s.write.clone) s.write p draw.seed)) names.lies
    ∙ ap (λ (o : Option Draw). block_bytes s.piece block (content_in_job (clone_of plan s.write.clone) s.write s.piece (seed_of_draw o))) (sym drawn)

-- blocks of a piece

-- what it means that a block lies in a piece
pub record IsBlockOf (piece : Piece) (file block : ℕ) : Type 0 where
  pub here : piece.file ≡ file
  pub low : piece.offset ≤ block * 512
  pub below : block * 512 < piece.offset + piece.len

pub block_of : (piece : Piece) (file block : ℕ) → covers_block piece file block ≡ true → IsBlockOf piece file block
block_of piece file block h =
    let two = and_parts ((piece.file == file) && nat_le piece.offset (block * SECTOR)) (nat_lt (block * SECTOR) (piece.offset + piece.len)) h in
    let one = and_parts (piece.file == file) (nat_le piece.offset (block * SECTOR)) two.0 in record {
      here = eqb-true piece.file file one.0;
      low = leb-true piece.offset (block * SECTOR) one.1;
      below = ltb-true (block * SECTOR) (piece.offset + piece.len) two.1;
    }

pub covers_from : (piece : Piece) (file block : ℕ) → piece.file ≡ file → piece.offset ≤ block * 512 → block * 512 < piece.offset + piece.len → covers_block piece file block ≡ true
covers_from piece file block same low below =
    and_from ((piece.file == file) && nat_le piece.offset (block * SECTOR)) (nat_lt (block * SECTOR) (piece.offset + piece.len))
    (and_from (piece.file == file) (nat_le piece.offset (block * SECTOR)) (eq-eqb piece.file file same) (le-leb piece.offset (block * SECTOR) low))
    (lt-ltb (block * SECTOR) (piece.offset + piece.len) below)

-- bytes of a piece that agree in each of its blocks
pub same_by_blocks : (piece : Piece) (xs ys : List ℕ) → IsWholeBlocks piece → length xs ≡ piece.len → length ys ≡ piece.len → ((block : ℕ) → covers_block piece piece.file block ≡ true → block_bytes piece block xs ≡ block_bytes piece block ys) → xs ≡ ys
same_by_blocks piece xs ys blocks xs_len ys_len each =
    let n : ℕ = piece.len / 512 in
    let size : piece.len ≡ n * 512 = omega (arith, blocks.size) in
    same_by_parts 512 n xs ys (xs_len ∙ size) (ys_len ∙ size)
    (λ (k : ℕ) (below : k < n).
    let block : ℕ = piece.offset / 512 + k in
    let at : block * 512 - piece.offset ≡ k * 512 = omega (arith, blocks.start) in
    let low : piece.offset ≤ block * 512 = omega (arith, blocks.start) in
    let high : block * 512 < piece.offset + piece.len = omega (arith, blocks.start, size, below) in
    ap (λ (j : ℕ). take 512 (drop j xs)) (sym at)
    ∙ each block (covers_from piece piece.file block refl low high)
    ∙ ap (λ (j : ℕ). take 512 (drop j ys)) at)
