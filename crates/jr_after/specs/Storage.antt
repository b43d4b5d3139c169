-- Believed: what a storage did and what was noted in the ledger, up to a cut, and what a chunk may hold after it (of this project).
use Rattle.std.specs.Prelude.{◌≡◌, ℕ, ◌==◌, Bool, true, false, not, ◌&&◌, ◌||◌, List, [], ◌∷◌, Option, Some, None, if◌then◌else◌}
use Rattle.std.specs.List.{list_any}
use Rattle.jr_model.specs.declared.events.WriteId.{WriteId}
use Rattle.jr_model.specs.History.{same_write}
use Rattle.jr_ledger.specs.declared.lines.LedgerLine.{LedgerLine}
use Rattle.jr_ledger.specs.declared.lines.LedgerLine.TheVariants as line
use Rattle.jr_ledger.specs.declared.lines.SyncId.{SyncId}
use Rattle.jr_after.specs.Ledgers.{same_sync}

-- what happens, one thing after another: a write is asked for, it ends whole; a sync is asked for, it returns well; a line is noted
pub data Moment : Type 0 where
  asked : WriteId → Moment
  ended : WriteId → Moment
  sync_asked : SyncId → Moment
  sync_returned : SyncId → Moment
  noted : LedgerLine → Moment

abbrev pub is_asked : WriteId → Moment → Bool
is_asked write (asked other) = same_write write other
is_asked write (ended other) = false
is_asked write (sync_asked sync) = false
is_asked write (sync_returned sync) = false
is_asked write (noted l) = false

abbrev pub is_ended : WriteId → Moment → Bool
is_ended write (ended other) = same_write write other
is_ended write (asked other) = false
is_ended write (sync_asked sync) = false
is_ended write (sync_returned sync) = false
is_ended write (noted l) = false

abbrev pub is_sync_asked : SyncId → Moment → Bool
is_sync_asked sync (sync_asked other) = same_sync sync other
is_sync_asked sync (asked write) = false
is_sync_asked sync (ended write) = false
is_sync_asked sync (sync_returned other) = false
is_sync_asked sync (noted l) = false

abbrev pub is_sync_returned : SyncId → Moment → Bool
is_sync_returned sync (sync_returned other) = same_sync sync other
is_sync_returned sync (asked write) = false
is_sync_returned sync (ended write) = false
is_sync_returned sync (sync_asked other) = false
is_sync_returned sync (noted l) = false

-- the line of this sync's begin
abbrev pub is_begin_of : SyncId → LedgerLine → Bool
is_begin_of sync (line.Begun other) = same_sync sync other
is_begin_of sync (line.Written write) = false
is_begin_of sync (line.Returned other) = false

abbrev pub is_begin : SyncId → Moment → Bool
is_begin sync (noted l) = is_begin_of sync l
is_begin sync (asked write) = false
is_begin sync (ended write) = false
is_begin sync (sync_asked other) = false
is_begin sync (sync_returned other) = false

-- no write that meets this one was asked for since this one was; the newest moment comes first
abbrev pub meets_asked : (WriteId → WriteId → Bool) → WriteId → Moment → Bool
meets_asked meets write (asked other) = meets write other
meets_asked meets write (ended other) = false
meets_asked meets write (sync_asked sync) = false
meets_asked meets write (sync_returned sync) = false
meets_asked meets write (noted l) = false

abbrev pub is_latest : (WriteId → WriteId → Bool) → WriteId → List Moment → Bool
is_latest meets write [] = true
is_latest meets write (m ∷ past) =
    if is_asked write m then true else (not (meets_asked meets write m) && is_latest meets write past)

-- what may be noted after this past: a write that ended whole, while no write that meets it was asked for since; a sync that wasn't noted
-- before; the return of one that returned well
abbrev pub may_note : (WriteId → WriteId → Bool) → List Moment → LedgerLine → Bool
may_note meets past (line.Written write) = list_any (is_ended write) past && is_latest meets write past
may_note meets past (line.Begun sync) = not (list_any (is_begin sync) past)
may_note meets past (line.Returned sync) = list_any (is_sync_returned sync) past

-- what may come next: what ends was asked for, and a sync is asked for once its line was noted
abbrev pub may_come : (WriteId → WriteId → Bool) → List Moment → Moment → Bool
may_come meets past (asked write) = true
may_come meets past (ended write) = list_any (is_asked write) past
may_come meets past (sync_asked sync) = list_any (is_begin sync) past
may_come meets past (sync_returned sync) = list_any (is_sync_asked sync) past
may_come meets past (noted l) = may_note meets past l

-- these moments may follow a past, whose newest moment comes first
abbrev pub is_course : (WriteId → WriteId → Bool) → List Moment → List Moment → Bool
is_course meets past [] = true
is_course meets past (m ∷ moments) = may_come meets past m && is_course meets (m ∷ past) moments

-- the lines that were noted
abbrev pub lines_noted : List Moment → List LedgerLine
lines_noted [] = []
lines_noted (noted l ∷ moments) = l ∷ lines_noted moments
lines_noted (asked write ∷ moments) = lines_noted moments
lines_noted (ended write ∷ moments) = lines_noted moments
lines_noted (sync_asked sync ∷ moments) = lines_noted moments
lines_noted (sync_returned sync ∷ moments) = lines_noted moments

-- a sync of the file was asked for, and returned well after that
abbrev pub is_synced : ℕ → List Moment → Bool
is_synced file [] = false
is_synced file (sync_asked sync ∷ moments) =
    ((sync.file == file) && list_any (is_sync_returned sync) moments) || is_synced file moments
is_synced file (asked write ∷ moments) = is_synced file moments
is_synced file (ended write ∷ moments) = is_synced file moments
is_synced file (sync_returned sync ∷ moments) = is_synced file moments
is_synced file (noted l ∷ moments) = is_synced file moments

-- the write ended before such a sync was asked for: it is durable
abbrev pub is_durable : ℕ → WriteId → List Moment → Bool
is_durable file write [] = false
is_durable file write (ended other ∷ moments) = (same_write write other && is_synced file moments) || is_durable file write moments
is_durable file write (asked other ∷ moments) = is_durable file write moments
is_durable file write (sync_asked sync ∷ moments) = is_durable file write moments
is_durable file write (sync_returned sync ∷ moments) = is_durable file write moments
is_durable file write (noted l ∷ moments) = is_durable file write moments

-- the write `later` was asked for after `first`
abbrev pub asks_after : WriteId → WriteId → List Moment → Bool
asks_after first later [] = false
asks_after first later (m ∷ moments) = (is_asked first m && list_any (is_asked later) moments) || asks_after first later moments

-- what a chunk of the file, with these writes over it, may hold after these moments and a cut: a write over it that was asked for, but none
-- after which a durable write over it was asked for; or what stood there before, where no write over it is durable
abbrev pub MayHold : (WriteId → Bool) → ℕ → List Moment → Option WriteId → Type 0
MayHold is_over file moments None = (other : WriteId) → is_over other ≡ true → is_durable file other moments ≡ false
MayHold is_over file moments (Some write) =
    (is_over write ≡ true) × (list_any (is_asked write) moments ≡ true)
    × ((other : WriteId) → is_over other ≡ true → is_durable file other moments ≡ true → asks_after write other moments ≡ false)
