-- Worked rows: syncs that are under way at once, and which of them are recorded when. The newest call comes first.
use Rattle.std.proofs.Common.{◌≡◌, List, [], ◌∷◌, true, false, refl}
use Rattle.jr_ledger.specs.declared.lines.SyncId.{SyncId}
use Rattle.jr_ledger.specs.Laws.{recorded_by}
use Rattle.jr_ledger.specs.Syncs.{SyncEvent, asked, returned, may_be_recorded}

one : SyncId
one = record { file = 0; number = 0 }

two : SyncId
two = record { file = 0; number = 1 }

other : SyncId
other = record { file = 1; number = 0 }

both : List SyncEvent
both = asked two ∷ asked one ∷ []

-- the second returns first, and waits for the first
waits : recorded_by (returned two true ∷ both) ≡ []
unfolding one two both
waits = refl

both_return : recorded_by (returned one true ∷ returned two true ∷ both) ≡ two ∷ one ∷ []
unfolding one two both
both_return = refl

first_fails : recorded_by (returned one false ∷ returned two true ∷ both) ≡ []
unfolding one two both
first_fails = refl

fails_first : recorded_by (returned two true ∷ returned one false ∷ both) ≡ []
unfolding one two both
fails_first = refl

-- a sync that began since isn't waited for
later_one : recorded_by (returned one true ∷ asked (record { file = 0; number = 2 }) ∷ returned two true ∷ both) ≡ two ∷ []
unfolding one two both
later_one = refl

-- nor is one of another file
other_file : recorded_by (returned one true ∷ asked other ∷ asked one ∷ []) ≡ one ∷ []
unfolding one other
other_file = refl

-- by the definition
may_not_yet : may_be_recorded (returned two true ∷ both) two ≡ false
unfolding one two both
may_not_yet = refl

may_now : may_be_recorded (returned one true ∷ returned two true ∷ both) two ≡ true
unfolding one two both
may_now = refl

may_never : may_be_recorded (returned one false ∷ returned two true ∷ both) two ≡ false
unfolding one two both
may_never = refl
