-- Worked passes: the draws that follow from words handed in.
use Rattle.std.specs.Prelude.{◌≡◌, ℕ, Bool, true, false, codes, List, [], ◌∷◌, Some, refl, map}
use Rattle.jr_model.specs.declared.blocks.Dir.TheVariants.{Write}
use Rattle.jr_model.specs.declared.workloads.Draw.{Draw}
use Rattle.jr_model.specs.declared.workloads.IoType.{IoType}
use Rattle.jr_model.specs.declared.workloads.IoType.TheVariants as io
use Rattle.jr_model.specs.Draws.{PassProgress, mapped, draws_from, draws_over}
use Rattle.jr_model.specs.CellSet.{free_cell_from, no_cells, with_cells}
use Rattle.jr_model.specs.Plan.{SubJob}
use Rattle.jr_model.proofs.ExamplePlans.{no_verify}

-- a random clone with so many cells of this size, with a map or without, whose blocks have one size
random : IoType → ℕ → ℕ → Bool → ℕ → SubJob
random io_type cell cells has_map size = record {
  job = codes "w";
  clone = 0;
  phase = 0;
  file = 0;
  start = 0;
  cell = cell;
  cells = cells;
  io_type = io_type;
  read_percent = 50;
  read_split = (size, 100) ∷ [];
  write_split = (size, 100) ∷ [];
  has_map = has_map;
  seed = 1;
  depth = 1;
  passes = 1;
  method = no_verify;
  checks_writes = false;
  backlog = 0;
  is_fatal = false;
  declines = false;
  direct = false;
}

-- four words a draw: nothing for its direction, size and filler, and these for its place
place_words : List ℕ → List ℕ
place_words [] = []
place_words (place ∷ places) = 0 ∷ 0 ∷ place ∷ 0 ∷ place_words places

-- where its draws begin, in bytes
offsets : List Draw → List ℕ
offsets draws = map (λ (d : Draw). d.piece.offset) draws

-- four cells of 4096 with a map
mapped_writes : offsets (draws_over (random io.RandWrite 4096 4 true 4096) (place_words (2 ∷ 2 ∷ 3 ∷ 6 ∷ []))) ≡ 8192 ∷ 12288 ∷ 0 ∷ 4096 ∷ []
unfolding random place_words offsets
mapped_writes = refl

-- and no draw after these
mapped_writes_end : offsets (draws_over (random io.RandWrite 4096 4 true 4096) (place_words (2 ∷ 2 ∷ 3 ∷ 6 ∷ 1 ∷ []))) ≡ 8192 ∷ 12288 ∷ 0 ∷ 4096 ∷ []
unfolding random place_words offsets
mapped_writes_end = refl

-- eight cells of 1024 of which cell 3 is taken, before the first draw of a pass
one_taken : PassProgress
one_taken = record { number = 0; places = mapped (with_cells (no_cells 8) 3 1); reads = 0; writes = 1 }

-- a draw of 4096 bytes from cell 1 on is cut there
cut_at_taken : draws_from (random io.RandWrite 1024 8 true 4096) one_taken (place_words (1 ∷ [])) ≡ record { number = 0; dir = Write; piece = record { file = 0; offset = 1024; len = 2048 }; seed = 0 } ∷ []
unfolding random place_words one_taken
cut_at_taken = refl

-- without a map a cell comes again, and the pass ends once so many cells are drawn as there are
unmapped_writes : offsets (draws_over (random io.RandWrite 4096 4 false 4096) (place_words (2 ∷ 2 ∷ 2 ∷ 0 ∷ 1 ∷ []))) ≡ 8192 ∷ 8192 ∷ 8192 ∷ 0 ∷ []
unfolding random place_words offsets
unmapped_writes = refl

-- one cell: the map's only choice
only_cell : free_cell_from (no_cells 1) 0 ≡ Some 0
only_cell = refl
