-- Believed: the intact writes as a list of entries in the order of the writes, and what it becomes where a write of a
-- piece is settled or a piece is unsettled (of this project).
use Rattle.std.specs.Prelude.{Bool, not, List, Option, Some, None, filter, if◌then◌else◌}
use Rattle.std.specs.Map.{lookup}
use Rattle.std.specs.BTreeMap.{insert_entry, is_at}
use Rattle.jr_model.specs.declared.blocks.Piece.{Piece}
use Rattle.jr_model.specs.declared.contents.Expected.{Expected}
use Rattle.jr_model.specs.declared.events.WriteId.{WriteId}
use Rattle.jr_model.specs.History.{write_order}
use Rattle.jr_model.specs.Pieces.{pieces_overlap}
use Rattle.jr_writes.specs.declared.logs.Logged.{Logged}

-- what the entries have of a write
abbrev pub logged : List (WriteId × Logged) → WriteId → Option Logged
logged entries write = lookup (is_at (write_order write)) entries

-- it shares no byte with the piece
abbrev pub lies_apart : Piece → Logged → Bool
lies_apart piece entry = not (pieces_overlap piece entry.piece)

-- this one, where it shares no byte with the piece
abbrev pub if_apart : Piece → Option Logged → Option Logged
if_apart piece None = None
if_apart piece (Some entry) = if lies_apart piece entry then Some entry else None

-- the entries that share no byte with the piece
abbrev pub unsettled : List (WriteId × Logged) → Piece → List (WriteId × Logged)
unsettled entries piece = filter (λ e. lies_apart piece e.1) entries

-- the same, and the write of the piece
abbrev pub settled : List (WriteId × Logged) → WriteId → Piece → Expected → List (WriteId × Logged)
settled entries write piece expected =
    insert_entry write_order (unsettled entries piece) write (record { piece = piece; expected = expected })
