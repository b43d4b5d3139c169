-- Believed: which syncs may be recorded, after what happened to syncs so far (of this project). The system tells of what it lost once for each
-- open file: of syncs that are under way at once one may be told of it, and the others return well.
use Rattle.std.specs.Prelude.{ℕ, ◌==◌, Bool, true, false, not, ◌&&◌, ◌||◌, List, [], ◌∷◌}
use Rattle.std.specs.List.{list_any, list_all}
use Rattle.jr_ledger.specs.declared.lines.SyncId.{SyncId}

-- a sync is about to be asked for; it has returned, well or with a failure
pub data SyncEvent : Type 0 where
  asked : SyncId → SyncEvent
  returned : SyncId → Bool → SyncEvent

abbrev pub same_sync : SyncId → SyncId → Bool
same_sync a b = (a.file == b.file) && (a.number == b.number)

abbrev pub is_return_of : SyncId → SyncEvent → Bool
is_return_of sync (asked other) = false
is_return_of sync (returned other well) = same_sync sync other

abbrev pub is_good_return_of : SyncId → SyncEvent → Bool
is_good_return_of sync (asked other) = false
is_good_return_of sync (returned other well) = well && same_sync sync other

abbrev pub is_failure_in : ℕ → SyncEvent → Bool
is_failure_in file (asked sync) = false
is_failure_in file (returned sync well) = not well && (sync.file == file)

-- what happened so far is a list, whose newest event comes first
abbrev pub has_returned : List SyncEvent → SyncId → Bool
has_returned past sync = list_any (is_return_of sync) past

-- if a sync of the file was asked for here, it is one of these
abbrev pub is_asked_among : (SyncId → Bool) → ℕ → SyncEvent → Bool
is_asked_among those file (asked sync) = not (sync.file == file) || those sync
is_asked_among those file (returned sync well) = true

-- the sync returned well, when all that had been asked for of its file are of those
abbrev pub is_backed : (SyncId → Bool) → List SyncEvent → SyncId → Bool
is_backed those [] sync = false
is_backed those (e ∷ past) sync =
    (is_good_return_of sync e && list_all (is_asked_among those sync.file) past) || is_backed those past sync

-- the sync returned well; each of its file that was asked for before that, as all that were under way then, has returned; and none has failed
abbrev pub may_be_recorded : List SyncEvent → SyncId → Bool
may_be_recorded past sync = not (list_any (is_failure_in sync.file) past) && is_backed (has_returned past) past sync
