-- Believed: a set of cells, as a flag for each cell: true where it is taken (fio's manual, "norandommap": the random map).
use Rattle.std.specs.Prelude.{ℕ, ◌+◌, min, Bool, true, false, not, List, ◌++◌, Option, take, drop, replicate, count_by, position}
use Rattle.std.specs.List.{prefix_len}
use Rattle.std.specs.Option.{option_map, option_or}

-- the least cell that isn't taken
abbrev pub first_free : List Bool → Option ℕ
first_free taken = position not taken

-- the least free cell from r on; where there is none, the least free cell
abbrev pub free_cell_from : List Bool → ℕ → Option ℕ
free_cell_from taken r = option_or (option_map (λ k. r + k) (first_free (drop r taken))) (first_free taken)

-- how many cells from x on are free without a gap, at most want
abbrev pub free_run : List Bool → ℕ → ℕ → ℕ
free_run taken x want = min want (prefix_len not (drop x taken))

-- the set with the m cells from x on
abbrev pub with_cells : List Bool → ℕ → ℕ → List Bool
with_cells taken x m = take x taken ++ replicate m true ++ drop (x + m) taken

-- no cell of n
abbrev pub no_cells : ℕ → List Bool
no_cells n = replicate n false

-- how many cells are free
abbrev pub free_count : List Bool → ℕ
free_count taken = count_by not taken
