-- Internal: what is in flight is kept twice, by number and by place, and the two agree.
use Rattle.std.specs.Prelude.{ℕ, ◌≡◌, ◌≤◌, ◌-◌, ◌==◌, ◌&&◌, ◌||◌, Bool, false, not, List, map, Option, Some, None, IfSome, if◌then◌else◌}
use Rattle.std.specs.List.{list_any}
use Rattle.std.specs.Ordering.{nat_cmp, ordering_then}
use Rattle.std.specs.declared.cmp.Ordering.{Ordering}
use Rattle.std.specs.declared.ops.Bound.TheVariants.{Included, Excluded}
use Rattle.std.specs.BTreeMap.{BTreeMap, get, IsOrdered}
use Rattle.std.specs.BTreeMap.Range.{entries_between}
use Rattle.jr_model.specs.declared.blocks.Piece.{Piece}
use Rattle.jr_model.specs.Pieces.{piece_end}
use Rattle.jr_flight.specs.declared.ios.Ended.{Ended}
use Rattle.jr_flight.specs.declared.ios.Io.{Io}
use Rattle.jr_flight.specs.Flights.{writes, writes_over}

-- a file, an offset and a number
abbrev pub Place : Type 0
Place = ℕ × ℕ × ℕ

-- where an I/O stands
abbrev pub place_of : Io → Place
place_of io = (io.piece.file, io.piece.offset, io.id)

-- by file, then by offset, then by number
abbrev pub place_cmp : Place → Place → Ordering
place_cmp a b = ordering_then (ordering_then (nat_cmp a.0 b.0) (nat_cmp a.1 b.1)) (nat_cmp a.2 b.2)

-- the first place of an I/O of at most so many bytes that may overlap the piece
abbrev pub near_from : Piece → ℕ → Place
near_from piece longest = (piece.file, piece.offset - longest, 0)

-- and the first one behind the piece
abbrev pub near_end : Piece → Place
near_end piece = (piece.file, piece_end piece, 0)

-- what stands between the two
abbrev pub near_piece : Piece → ℕ → List (Place × Io) → List (Place × Io)
near_piece piece longest entries = entries_between place_cmp (Included (near_from piece longest)) (Excluded (near_end piece)) entries

-- the I/O, where its piece begins at this place
abbrev pub if_standing : Place → Option Ended → Option Io
if_standing at None = None
if_standing at (Some ended) = if (ended.io.piece.file == at.0) && (ended.io.piece.offset == at.1) then Some ended.io else None

-- an I/O under its own number, of at most so many bytes
pub record IsMeasured (longest id : ℕ) (ended : Ended) : Type 0 where
  pub own : ended.io.id ≡ id
  pub short : ended.io.piece.len ≤ longest

-- both maps are in the order of their keys, and they agree: at a place stands what flies under its number, where that begins
-- there, and nothing else
pub record IsIndexed (ids : BTreeMap ℕ Ended) (places : BTreeMap Place Io) (longest : ℕ) : Type 0 where
  pub ordered : IsOrdered nat_cmp ids
  pub sorted : IsOrdered place_cmp places
  pub measured : (id : ℕ) → IfSome (get nat_cmp ids id) (IsMeasured longest id)
  pub placed : (at : Place) → get place_cmp places at ≡ if_standing at (get nat_cmp ids at.2)

-- a write flies only where one was put in
abbrev pub IsWrote : BTreeMap ℕ Ended → Bool → Type 0
IsWrote ids wrote = (id : ℕ) → IfSome (get nat_cmp ids id) (λ ended. wrote ≡ false → writes ended.io.dir ≡ false)

-- an I/O that raced before or races now
abbrev pub raced_if : Bool → Ended → Ended
raced_if races ended = record { io = ended.io; raced = ended.raced || races }

-- what flies under this number raced
abbrev pub raced_under : ℕ → List (ℕ × Ended) → List (ℕ × Ended)
raced_under id entries = map (λ (entry : ℕ × Ended). (entry.0, raced_if (entry.0 == id) entry.1)) entries

-- what stands at the place has another number, and the I/O writes over it
abbrev pub hits : Io → Place × Io → Bool
hits io other = not (other.0.2 == io.id) && writes_over other.1.piece io

-- at one of these places the I/O hits what has this number
abbrev pub hits_under : Io → List (Place × Io) → ℕ → Bool
hits_under io others id = list_any (λ (other : Place × Io). hits io other && (id == other.0.2)) others

-- what it hits at these places raced
abbrev pub raced_at : Io → List (Place × Io) → List (ℕ × Ended) → List (ℕ × Ended)
raced_at io others entries = map (λ (entry : ℕ × Ended). (entry.0, raced_if (hits_under io others entry.0) entry.1)) entries
