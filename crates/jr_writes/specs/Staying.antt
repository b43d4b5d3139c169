-- Internal: what of the kept writes stays where a piece is settled or unsettled.
use Rattle.std.specs.Prelude.{Option, Some, None, if◌then◌else◌}
use Rattle.jr_model.specs.declared.blocks.Piece.{Piece}
use Rattle.jr_model.specs.declared.events.WriteId.{WriteId}
use Rattle.jr_writes.specs.declared.kept.Kept.{Kept}
use Rattle.jr_writes.specs.Index.{stays}

-- this one of a write, where it stays
abbrev pub if_stays : Option WriteId → Piece → WriteId → Option Kept → Option Kept
if_stays kept piece write None = None
if_stays kept piece write (Some entry) = if stays kept piece (write, entry) then Some entry else None

-- what is kept of a write, where it stays
abbrev pub left_of : Option WriteId → Piece → (WriteId → Option Kept) → WriteId → Option Kept
left_of kept piece entry_of write = if_stays kept piece write (entry_of write)
