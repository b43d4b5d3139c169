-- Believed: the cells of a file's map in a page: which bytes they have, the worst that happened to one of them (as `jr_report_maps` has it), and
-- the first bad verdict over one of them; and what a cell says of itself (of this project).
use Rattle.std.specs.Prelude.{◌≡◌, ◌<◌, ℕ, ◌+◌, ◌-◌, ◌*◌, ◌/◌, ◌%◌, min, List, [], ◌++◌, length, slice_index_or, Option, Some, None, codes, decimal}
use Rattle.std.specs.Int.{div_ceil}
use Rattle.jr_model.specs.declared.events.Event.{Event}
use Rattle.jr_model.specs.Plan.{Plan}
use Rattle.jr_model.specs.Report.{field, what_text}
use Rattle.jr_report_page.specs.declared.cells.Cell.{Cell}
use Rattle.jr_report_maps.specs.declared.fates.Fate.{Fate}
use Rattle.jr_report_maps.specs.declared.fates.Fate.TheVariants.{Untouched, Read, Good, Skipped, Unchecked, Void, Fault, Bad}
use Rattle.jr_report_maps.specs.declared.maps.FileMap.{FileMap}
use Rattle.jr_report_maps.specs.Firsts.{first_bad}
use Rattle.jr_report_maps.specs.Maps.{cell_size, fate_of}
use Rattle.jr_desk_totals.specs.declared.tallies.Bad.{Bad as Miscompared}

-- the cell at a place of a map, by the first bad verdicts over its cells
pub record IsCellAt (map : FileMap) (firsts : List (Option Miscompared)) (end k : ℕ) (cell : Cell) : Type 0 where
  pub place : cell.place ≡ k
  pub begin : cell.begin ≡ min (k * map.size) end
  pub behind : cell.end ≡ min (k * map.size + map.size) end
  pub fate : (d : Fate) → cell.fate ≡ slice_index_or map.fates.items k d
  pub first : (d : Option Miscompared) → cell.first ≡ slice_index_or firsts k d

pub record AreCellsBy (map : FileMap) (firsts : List (Option Miscompared)) (end n : ℕ) (cells : List Cell) : Type 0 where
  pub count : length cells ≡ n
  pub each : (k : ℕ) (d : Cell) → k < n → IsCellAt map firsts end k (slice_index_or cells k d)

-- the cell of so many bytes at a place of a file's first `end` bytes
pub record IsCellOf (plan : Plan) (history : List Event) (bads : List Miscompared) (file end size k : ℕ) (cell : Cell) : Type 0 where
  pub place : cell.place ≡ k
  pub begin : cell.begin ≡ min (k * size) end
  pub behind : cell.end ≡ min (k * size + size) end
  pub fate : cell.fate ≡ fate_of plan history file size k
  pub first : cell.first ≡ first_bad plan bads file size k

-- all of them, of the least multiple of 512 bytes of which `most` are enough
pub record AreCellsOf (plan : Plan) (history : List Event) (bads : List Miscompared) (file end most : ℕ) (cells : List Cell) : Type 0 where
  pub count : length cells ≡ div_ceil end (cell_size most end)
  pub each : (k : ℕ) (d : Cell) → k < length cells
      → IsCellOf plan history bads file end (cell_size most end) k (slice_index_or cells k d)

-- what is drawn for a cell
abbrev pub sign_of : Fate → List ℕ
sign_of Untouched = codes "n"
sign_of Read = codes "r"
sign_of Good = codes "g"
sign_of Skipped = codes "s"
sign_of Unchecked = codes "u"
sign_of Void = codes "v"
sign_of Fault = codes "F"
sign_of Bad = codes "B"

abbrev pub fate_word : Fate → List ℕ
fate_word Untouched = codes "untouched"
fate_word Read = codes "read only"
fate_word Good = codes "good"
fate_word Skipped = codes "skipped"
fate_word Unchecked = codes "unchecked"
fate_word Void = codes "void"
fate_word Fault = codes "fault"
fate_word Bad = codes "bad"

-- a bad verdict, with the fields that its line in a report has
abbrev pub bad_fields : Miscompared → List ℕ
bad_fields bad =
    field (codes "clone") bad.write.clone ++ field (codes "pass") bad.write.pass ++ field (codes "number") bad.write.number
    ++ field (codes "offset") bad.piece.offset ++ field (codes "length") bad.piece.len ++ codes " what=" ++ what_text bad.what

abbrev pub first_text : Option Miscompared → List ℕ
first_text None = []
first_text (Some bad) = codes ":" ++ bad_fields bad

-- the place of a cell in a grid of 64 columns, 10 units wide and high
unfoldable pub at_text : ℕ → List ℕ
at_text place = codes "\" x=\"" ++ decimal (place % 64 * 10) ++ codes "\" y=\"" ++ decimal (place / 64 * 10) ++ codes "\">"

unfoldable pub use_text : List ℕ → ℕ → List ℕ
use_text sign place = codes "<use href=\"#" ++ sign ++ at_text place

-- which bytes it has, and what happened there
unfoldable pub tip_text : Cell → List ℕ
tip_text cell =
    codes "bytes " ++ decimal cell.begin ++ codes " to " ++ decimal (cell.end - 1) ++ codes ": "
    ++ fate_word cell.fate ++ first_text cell.first

abbrev pub cell_text : Cell → List ℕ
cell_text cell =
    use_text (sign_of cell.fate) cell.place ++ codes "<title>" ++ tip_text cell ++ codes "</title></use>\n"
