-- Internal: the levels of words of a map of cells, and what each says of the level below.
use Rattle.std.specs.Prelude.{◌≡◌, ℕ, ◌+◌, ◌/◌, ◌^◌, ◌≤◌, Bool, true, List, length, map, slice_index_or}
use Rattle.std.specs.List.{range_with_len}
use Rattle.jr_model.specs.CellSet.{free_count}
use Rattle.jr_map.specs.declared.levels.Levels.{Levels}
use Rattle.jr_map.specs.Words.{is_set, Summarizes}

-- how many words so many bits need
abbrev pub words_for : ℕ → ℕ
words_for bits = (bits + 63) / 64

-- a flag for each cell, by the lowest level
unfoldable pub flags_of : List ℕ → ℕ → List Bool
flags_of words cells = map (is_set words) (range_with_len 0 cells)

-- each upper level has the words that the level below needs, and the last has one
pub record HasShape (levels : Levels) : Type 0 where
  pub second : length levels.second.items ≡ words_for (length levels.lowest.items)
  pub third : length levels.third.items ≡ words_for (length levels.second.items)
  pub top : length levels.top.items ≡ words_for (length levels.third.items)
  pub one : length levels.top.items ≤ 1

-- a bit of an upper level is set exactly where its word below is full or isn't there
pub record IsSummed (levels : Levels) : Type 0 where
  pub second : Summarizes levels.lowest.items levels.second.items
  pub third : Summarizes levels.second.items levels.third.items
  pub top : Summarizes levels.third.items levels.top.items

-- a bit of the lowest level is set exactly where its cell is taken or lies at the number of cells or above
pub record MarksCells (words : List ℕ) (taken : List Bool) : Type 0 where
  pub each : (p : ℕ) → is_set words p ≡ slice_index_or taken p true

-- what the words of a map keep
pub record IsCellMap (levels : Levels) (cells left : ℕ) : Type 0 where
  pub least : 1 ≤ cells
  pub most : cells ≤ 2 ^ 24
  pub words : length levels.lowest.items ≡ words_for cells
  pub shape : HasShape levels
  pub marked : MarksCells levels.lowest.items (flags_of levels.lowest.items cells)
  pub summed : IsSummed levels
  pub count : left ≡ free_count (flags_of levels.lowest.items cells)
