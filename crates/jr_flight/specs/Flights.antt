-- Believed: what is in flight, as the entries of a map from I/O numbers to I/Os in the order of the numbers; which pieces are
-- clear of it; and which I/Os a write races (fio's manual, "serialize_overlap"; that it holds over all jobs, and the word race,
-- are of this project).
use Rattle.std.specs.Prelude.{ℕ, Bool, true, false, not, ◌&&◌, ◌||◌, ◌==◌, List, map, Option, Some, None, if◌then◌else◌}
use Rattle.std.specs.List.{list_any}
use Rattle.std.specs.Map.{lookup}
use Rattle.std.specs.BTreeMap.{is_at}
use Rattle.std.specs.Ordering.{nat_cmp}
use Rattle.jr_model.specs.declared.blocks.Dir.{Dir}
use Rattle.jr_model.specs.declared.blocks.Dir.TheVariants.{Read, Write}
use Rattle.jr_model.specs.declared.blocks.Piece.{Piece}
use Rattle.jr_model.specs.Pieces.{pieces_overlap}
use Rattle.jr_flight.specs.declared.ios.Ended.{Ended}
use Rattle.jr_flight.specs.declared.ios.Io.{Io}

-- the I/O that flies under this number
abbrev pub flying_io : ℕ → List (ℕ × Ended) → Option Ended
flying_io id entries = lookup (is_at (nat_cmp id)) entries

-- it has raced so far; where nothing flies, nothing has
abbrev pub raced_so_far : Option Ended → Bool
raced_so_far None = false
raced_so_far (Some ended) = ended.raced

-- it writes
abbrev pub writes : Dir → Bool
writes Read = false
writes Write = true

-- the two overlap, and one of them writes
abbrev pub conflicts : Dir → Piece → Io → Bool
conflicts dir piece io = (writes dir || writes io.dir) && pieces_overlap io.piece piece

-- an I/O over the piece has to wait for the other: the two conflict, and neither clone declines to wait
abbrev pub waits_for : Bool → Dir → Piece → Io → Bool
waits_for declines dir piece io = not (declines || io.declines) && conflicts dir piece io

-- it has to wait for nothing in flight
abbrev pub is_clear : Bool → Dir → Piece → List (ℕ × Ended) → Bool
is_clear declines dir piece entries = not (list_any (λ (entry : ℕ × Ended). waits_for declines dir piece entry.1.io) entries)

-- the I/O writes where the piece lies
abbrev pub writes_over : Piece → Io → Bool
writes_over piece io = writes io.dir && pieces_overlap io.piece piece

-- an I/O in flight, but for one of the same number, writes over this one
abbrev pub is_raced : Io → List (ℕ × Ended) → Bool
is_raced io entries = list_any (λ (entry : ℕ × Ended). not (entry.0 == io.id) && writes_over io.piece entry.1.io) entries

-- where this one writes over an I/O in flight, but for one of the same number, that raced
abbrev pub marked : Io → List (ℕ × Ended) → List (ℕ × Ended)
marked io entries =
    map (λ (entry : ℕ × Ended).
    if entry.0 == io.id then entry
    else (entry.0, record { io = entry.1.io; raced = entry.1.raced || writes_over entry.1.io.piece io })) entries
