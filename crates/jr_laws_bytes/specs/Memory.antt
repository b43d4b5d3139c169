-- Believed: a memory that keeps what was written last.
use Rattle.std.specs.Prelude.{◌≡◌, ◌-◌, ◌*◌, ℕ, true, List, Some, slice_get}
use Rattle.jr_model.specs.declared.limits.TheConstants.{SECTOR}
use Rattle.jr_model.specs.declared.events.Event.{Event}
use Rattle.jr_model.specs.declared.events.WriteId.{WriteId}
use Rattle.jr_model.specs.Honest.{written_in}
use Rattle.jr_model.specs.LastWrite.{last_write}
use Rattle.jr_model.specs.Plan.{Plan, FileSpec}
use Rattle.jr_model.specs.Replies.{FileBytes, covers, stored}

-- the memory has all bytes of the plan's files, from the least start to the greatest end of a region
abbrev pub CoversFiles : Plan → List FileBytes → Type 0
CoversFiles plan memory =
    (file : ℕ) (spec : FileSpec)
    → slice_get plan.files file ≡ Some spec
    → covers memory file spec.low (spec.high - spec.low) ≡ true

-- each block that has a last write is there, with the bytes that this write put into it
abbrev pub HoldsLastWrites : Plan → List Event → List FileBytes → Type 0
HoldsLastWrites plan history memory =
    (file block : ℕ) (write : WriteId)
    → last_write history file block ≡ Some write
    → (covers memory file (block * SECTOR) SECTOR ≡ true)
    × (stored memory file (block * SECTOR) SECTOR ≡ written_in plan write block)
