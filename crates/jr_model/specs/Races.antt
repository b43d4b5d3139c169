-- Believed: which I/Os raced: a write overlapped them while both flew (fio's manual, "serialize_overlap"; the word is of this
-- project).
use Rattle.std.specs.Prelude.{ℕ, ◌==◌, Bool, false, ◌&&◌, ◌||◌, List, [], ◌∷◌, ◌++◌, length, slice_get, Option, Some, None, if◌then◌else◌}
use Rattle.std.specs.List.{list_any}
use Rattle.jr_model.specs.declared.blocks.Piece.{Piece}
use Rattle.jr_model.specs.declared.events.Event.{Event}
use Rattle.jr_model.specs.History.{Started, started, started_by, flies, in_flight, is_write}
use Rattle.jr_model.specs.Pieces.{pieces_overlap}

-- the other one writes where the piece lies
abbrev pub writes_over : Piece → Started → Bool
writes_over piece other = is_write other.kind && pieces_overlap other.piece piece

abbrev pub writes_over_io : Option Started → Started → Bool
writes_over_io None other = false
writes_over_io (Some io) other = writes_over io.piece other

-- what starts after the history makes I/O io race: it is io, and a write is in flight where io lies; or io is in flight, and it
-- is a write where io lies
abbrev pub races_by : List Event → ℕ → Option Started → Bool
races_by history io None = false
races_by history io (Some new) =
    let ios = started history in
    if length ios == io then list_any (writes_over new.piece) (in_flight history)
    else (writes_over_io (slice_get ios io) new && flies history io)

-- one of these events makes I/O io race, where the others happened before
abbrev pub races_after : List Event → List Event → ℕ → Bool
races_after before [] io = false
races_after before (event ∷ events) io = races_by before io (started_by event) || races_after (before ++ event ∷ []) events io

-- a write overlapped the I/O while both flew
abbrev pub has_raced : List Event → ℕ → Bool
has_raced history io = races_after [] history io
