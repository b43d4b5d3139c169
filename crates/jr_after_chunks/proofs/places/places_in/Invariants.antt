use Rattle.std.proofs.Common.{◌≡◌, ◌≤◌, length, drop}
use Rattle.jr_model.specs.declared.events.WriteId.{WriteId}
use Rattle.jr_after.specs.Ledgers.{line_of}
use Rattle.jr_after.proofs.LedgerLemmas.{shifted}
use Rattle.jr_after_chunks.specs.LinesFound.{place_of}
use Rattle.jr_after_chunks.proofs.places.places_in.Given as goal

-- those of the lines that were looked at
abbrev pub invariant-loop-count : goal.invariant-loop-count
invariant-loop-count l =
    (l.count ≤ length l.lines) × ((write : WriteId) → place_of l.places write ≡ shifted l.count (line_of (drop l.count l.lines) write))

abbrev pub decreases-loop-count : goal.decreases-loop-count
decreases-loop-count l = l.count
