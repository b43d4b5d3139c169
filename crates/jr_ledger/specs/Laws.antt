-- Claimed: no sync is recorded that may have lost anything (of this project).
use Rattle.std.specs.Prelude.{◌≡◌, true, List, [], ◌∷◌}
use Rattle.std.specs.List.{list_any}
use Rattle.jr_ledger.specs.declared.lines.SyncId.{SyncId}
use Rattle.jr_ledger.specs.Syncs.{SyncEvent, asked, returned, same_sync, may_be_recorded}
use Rattle.jr_ledger.specs.SyncSteps.{SyncsState, no_syncs, begun, ended, recorded, settled}

-- what is kept after these calls, of which the newest comes first
abbrev pub syncs_after : List SyncEvent → SyncsState
syncs_after [] = no_syncs
syncs_after (asked sync ∷ past) = begun (syncs_after past) sync
syncs_after (returned sync well ∷ past) = settled (ended (syncs_after past) sync well)

-- which syncs the newest of these calls has recorded
abbrev pub recorded_by : List SyncEvent → List SyncId
recorded_by [] = []
recorded_by (asked sync ∷ past) = []
recorded_by (returned sync well ∷ past) = recorded (ended (syncs_after past) sync well)

-- whatever is called: a sync that is recorded returned well, those of its file that were under way then have all returned since, and no sync of
-- the file has failed
abbrev pub OnlySoundRecorded : Type 0
OnlySoundRecorded =
    (past : List SyncEvent) (sync : SyncId)
    → list_any (same_sync sync) (recorded_by past) ≡ true
    → may_be_recorded past sync ≡ true
