-- Internal: the lines of a ledger's writes, found by their names.
use Rattle.std.specs.Prelude.{◌≡◌, ℕ, Bool, nat_eq, ◌&&◌, List, Option}
use Rattle.std.specs.HashMap.{get}
use Rattle.jr_model.specs.declared.events.WriteId.{WriteId}
use Rattle.jr_ledger.specs.declared.lines.LedgerLine.{LedgerLine}
use Rattle.jr_after.specs.Ledgers.{line_of}
use Rattle.jr_after_chunks.specs.declared.places.LinePlaces.{LinePlaces}

-- one name, as keys are compared
abbrev pub same_name : WriteId → WriteId → Bool
same_name a b = nat_eq a.clone b.clone && (nat_eq a.pass b.pass && nat_eq a.number b.number)

-- the place that is kept for a write
abbrev pub place_of : LinePlaces → WriteId → Option ℕ
place_of places write = get same_name places.places write

-- for each write the place of its first line is kept
abbrev pub ArePlacesIn : LinePlaces → List LedgerLine → Type 0
ArePlacesIn places lines = (write : WriteId) → place_of places write ≡ line_of lines write
