-- Claimed: what holds of the draws of a pass, whatever its words.
use Rattle.std.specs.Prelude.{◌≡◌, ℕ, suc, ◌+◌, ◌*◌, ◌%◌, ◌<◌, ◌≤◌, Bool, true, false, ◌&&◌, List, ◌++◌, Some, length, slice_get, All, AllPairs, Any}
use Rattle.jr_model.specs.declared.blocks.Piece.{Piece}
use Rattle.jr_model.specs.declared.workloads.Draw.{Draw}
use Rattle.jr_model.specs.declared.workloads.IoType.{IoType}
use Rattle.jr_model.specs.declared.workloads.IoType.TheVariants as io
use Rattle.jr_model.specs.Draws.{draws_over}
use Rattle.jr_model.specs.Pieces.{piece_end, pieces_overlap}
use Rattle.jr_model.specs.Plan.{SubJob}
use Rattle.jr_model.specs.Tickets.{piece_fits}

abbrev pub is_random : IoType → Bool
is_random io.Read = false
is_random io.Write = false
is_random io.ReadWrite = false
is_random io.RandRead = true
is_random io.RandWrite = true
is_random io.RandRw = true

-- a random clone with a map
abbrev pub is_mapped : SubJob → Bool
is_mapped job = is_random job.io_type && job.has_map

-- the piece is whole cells, and lies in the clone's region of its file
pub record IsInRegion (job : SubJob) (p : Piece) : Type 0 where
  pub cells : p.len % job.cell ≡ 0
  pub file : p.file ≡ job.file
  pub low : job.start ≤ p.offset
  pub high : piece_end p ≤ job.start + job.cells * job.cell

-- the piece has cell x of the clone
pub record HasCell (job : SubJob) (x : ℕ) (p : Piece) : Type 0 where
  pub file : p.file ≡ job.file
  pub low : p.offset ≤ job.start + x * job.cell
  pub high : job.start + suc x * job.cell ≤ piece_end p

-- no two draws share a byte, and each cell is in one
pub record CoversOnce (job : SubJob) (draws : List Draw) : Type 0 where
  pub disjoint : AllPairs (λ (a : Draw). λ (b : Draw). pieces_overlap a.piece b.piece ≡ false) draws
  pub whole : (x : ℕ) → x < job.cells → Any (λ (d : Draw). HasCell job x d.piece) draws

-- four words a cell are enough for a pass; it has at most a draw a cell, numbered from 0, each a piece of whole blocks
-- in the clone's region; and with a map it covers each cell once
pub record PassLaw (job : SubJob) : Type 0 where
  pub ends : (words more : List ℕ) → 4 * job.cells ≤ length words → draws_over job (words ++ more) ≡ draws_over job words
  pub count : (words : List ℕ) → length (draws_over job words) ≤ job.cells
  pub numbered : (words : List ℕ) (k : ℕ) (d : Draw) → slice_get (draws_over job words) k ≡ Some d → d.number ≡ k
  pub fits : (words : List ℕ) → All (λ (d : Draw). piece_fits d.piece ≡ true) (draws_over job words)
  pub placed : (words : List ℕ) → All (λ (d : Draw). IsInRegion job d.piece) (draws_over job words)
  pub once : is_mapped job ≡ true → (words : List ℕ) → 4 * job.cells ≤ length words → CoversOnce job (draws_over job words)
