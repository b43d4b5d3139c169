-- Internal: the ends of writes by the parts of files that they lie over, so that few are looked at for one block.
use Rattle.std.specs.Prelude.{ℕ, ◌+◌, ◌/◌, ◌%◌, ◌==◌, nat_lt, nat_le, Bool, ◌&&◌, nat_eq, List, [], Option, Some, None}
use Rattle.std.specs.HashMap.{get}
use Rattle.std.specs.Int.{div_ceil}
use Rattle.std.specs.Global.{Vec}
use Rattle.jr_model.specs.declared.blocks.Piece.{Piece}
use Rattle.jr_model.specs.declared.limits.TheConstants.{SECTOR}
use Rattle.jr_replay_history.specs.declared.marks.WriteEnd.{WriteEnd}
use Rattle.jr_replay_history.specs.declared.parts.Parts.{Parts}
use Rattle.jr_replay_history.specs.declared.parts.TheConstants.{PART}

-- the part of its file in which a block of 512 bytes lies
abbrev pub part_of : ℕ → ℕ
part_of block = block / (PART / SECTOR)

-- the first part that a piece lies over, and how many it does
abbrev pub first_part : Piece → ℕ
first_part piece = piece.offset / PART

abbrev pub part_count : Piece → ℕ
part_count piece = div_ceil (piece.offset % PART + piece.len) PART

-- the end of a write whose piece lies over this part of the file
abbrev pub is_over_part : ℕ → ℕ → WriteEnd → Bool
is_over_part file part end =
    (file == end.piece.file)
    && (nat_le (first_part end.piece) part && nat_lt part (first_part end.piece + part_count end.piece))

-- one part of one file
abbrev pub same_part : ℕ × ℕ → ℕ × ℕ → Bool
same_part a b = nat_eq a.0 b.0 && nat_eq a.1 b.1

-- the ends that are kept under a part
abbrev pub ends_at : Parts → ℕ × ℕ → List WriteEnd
ends_at parts key = kept (get same_part parts.ends key)
  where
    kept : Option (Vec WriteEnd) → List WriteEnd
    kept None = []
    kept (Some ends) = ends.items
