-- Internal: what is kept of a history beside itself: which I/Os raced, by their numbers.
use Rattle.std.specs.Prelude.{◌≡◌, ℕ, nat_eq, Bool, true, ◌&&◌, List, is_none, is_some}
use Rattle.std.specs.HashSet.{HashSet, contains}
use Rattle.jr_model.specs.declared.events.Event.{Event}
use Rattle.jr_model.specs.declared.events.Started.{Started}
use Rattle.jr_model.specs.History.{outcome_of}
use Rattle.jr_model.specs.Races.{has_raced, writes_over}

-- these are all that raced
abbrev pub AreRaced : {S : Type 0} → List Event → HashSet ℕ S → Type 0
AreRaced history raced = (io : ℕ) → contains nat_eq raced io ≡ has_raced history io

-- of those that ended these raced
abbrev pub AreEndedRaced : {S : Type 0} → List Event → HashSet ℕ S → Type 0
AreEndedRaced history raced =
    (io : ℕ) → is_some (outcome_of history io) ≡ true → contains nat_eq raced io ≡ has_raced history io

-- what starts writes where the I/O with its number lies, which is in flight
abbrev pub is_overlaid : List Event → Started → ℕ × Started → Bool
is_overlaid history new numbered = writes_over numbered.1.piece new && is_none (outcome_of history numbered.0)

-- the same, where it is of this number
abbrev pub is_overlaid_at : List Event → Started → ℕ → ℕ × Started → Bool
is_overlaid_at history new io numbered = nat_eq numbered.0 io && is_overlaid history new numbered
