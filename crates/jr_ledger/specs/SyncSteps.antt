-- Claimed: what is kept of the syncs of a run, and how a call changes it.
use Rattle.std.specs.Prelude.{ℕ, ◌==◌, Bool, not, List, [], ◌∷◌, ◌++◌, map, filter, if◌then◌else◌}
use Rattle.std.specs.List.{list_any}
use Rattle.jr_ledger.specs.declared.lines.SyncId.{SyncId}
use Rattle.jr_ledger.specs.declared.syncs.Hold.{Hold}
use Rattle.jr_ledger.specs.Syncs.{same_sync}

-- the syncs that are under way; those that returned well and wait for others; for which each of them waits; the files of which one has failed
pub record SyncsState : Type 0 where
  pub under_way : List SyncId
  pub waiting : List SyncId
  pub holds : List Hold
  pub failed : List ℕ

abbrev pub no_syncs : SyncsState
no_syncs = record { under_way = []; waiting = []; holds = []; failed = [] }

abbrev pub has_failed : SyncsState → ℕ → Bool
has_failed syncs file = list_any (λ (other : ℕ). file == other) syncs.failed

abbrev pub is_of : ℕ → SyncId → Bool
is_of file sync = sync.file == file

-- one more is asked for
abbrev pub begun : SyncsState → SyncId → SyncsState
begun syncs sync = record {
  under_way = syncs.under_way ++ sync ∷ [];
  waiting = syncs.waiting;
  holds = syncs.holds;
  failed = syncs.failed;
}

-- it isn't under way any more, and nothing waits for it
abbrev pub is_other : SyncId → SyncId → Bool
is_other sync other = not (same_sync sync other)

abbrev pub is_other_hold : SyncId → Hold → Bool
is_other_hold sync hold = not (same_sync sync hold.other)

abbrev pub without : SyncsState → SyncId → SyncsState
without syncs sync = record {
  under_way = filter (is_other sync) syncs.under_way;
  waiting = syncs.waiting;
  holds = filter (is_other_hold sync) syncs.holds;
  failed = syncs.failed;
}

-- it has failed: none of its file that waits is recorded
abbrev pub is_elsewhere : ℕ → SyncId → Bool
is_elsewhere file sync = not (file == sync.file)

abbrev pub spoilt : SyncsState → ℕ → SyncsState
spoilt syncs file = record {
  under_way = syncs.under_way;
  waiting = filter (is_elsewhere file) syncs.waiting;
  holds = syncs.holds;
  failed = syncs.failed ++ file ∷ [];
}

-- it has returned well: it waits for the others of its file that are under way
abbrev pub hold_of : SyncId → SyncId → Hold
hold_of sync other = record { waiting = sync; other = other }

abbrev pub awaiting : SyncsState → SyncId → SyncsState
awaiting syncs sync = record {
  under_way = syncs.under_way;
  waiting = syncs.waiting ++ sync ∷ [];
  holds = syncs.holds ++ map (hold_of sync) (filter (is_of sync.file) syncs.under_way);
  failed = syncs.failed;
}

-- it has returned
abbrev pub ended : SyncsState → SyncId → Bool → SyncsState
ended syncs sync well =
    let left = without syncs sync in
    if well then (if has_failed left sync.file then left else awaiting left sync) else spoilt left sync.file

-- those that wait for nothing any more are recorded
abbrev pub is_hold_of : SyncId → Hold → Bool
is_hold_of sync hold = same_sync sync hold.waiting

abbrev pub is_held : List Hold → SyncId → Bool
is_held holds sync = list_any (is_hold_of sync) holds

abbrev pub is_free : List Hold → SyncId → Bool
is_free holds sync = not (is_held holds sync)

abbrev pub recorded : SyncsState → List SyncId
recorded syncs = filter (is_free syncs.holds) syncs.waiting

abbrev pub settled : SyncsState → SyncsState
settled syncs = record {
  under_way = syncs.under_way;
  waiting = filter (is_held syncs.holds) syncs.waiting;
  holds = syncs.holds;
  failed = syncs.failed;
}
