-- Claimed: the report of a run in which nothing goes wrong.
use Rattle.std.specs.Prelude.{◌≡◌, ℕ, nat_lt, Bool, true, false, not, ◌&&◌, List, Option, Some, None, slice_get, is_some, fold, if◌then◌else◌}
use Rattle.std.specs.List.{list_any, list_all}
use Rattle.jr_model.specs.declared.blocks.Piece.{Piece}
use Rattle.jr_model.specs.declared.events.Event.{Event}
use Rattle.jr_model.specs.declared.events.Event.TheVariants.{Issue, Probe, Skip, End, Verdict}
use Rattle.jr_model.specs.declared.events.IssueKind.TheVariants as issue
use Rattle.jr_model.specs.declared.events.Started.{Started}
use Rattle.jr_model.specs.declared.events.WriteId.{WriteId}
use Rattle.jr_model.specs.declared.workloads.Draw.{Draw}
use Rattle.jr_model.specs.Draws.{draws_of_job}
use Rattle.jr_model.specs.History.{started, outcome_of, in_flight, is_write, kind_for}
use Rattle.jr_model.specs.LastWrite.{covers_block, last_write}
use Rattle.jr_model.specs.Legal.{is_legal, is_complete, is_fault, is_bad, may_happen}
use Rattle.jr_model.specs.Pieces.{pieces_overlap}
use Rattle.jr_model.specs.Plan.{Plan, SubJob, clone_of}
use Rattle.jr_model.specs.Quiet.{quiet_report}
use Rattle.jr_model.specs.Report.{report_of}
use Rattle.jr_model.specs.Rounds.{Pass, pass_of, group_of, group_index}
use Rattle.jr_plan.specs.Files.{are_apart}
use Rattle.jr_model.specs.PlanFacts.{IsPlanned}
use Rattle.jr_model.specs.Races.{has_raced}
use Rattle.jr_laws_quiet.specs.Declining.{none_declines}

-- the event is no fault and no bad verdict
abbrev pub is_calm : Event → Bool
is_calm (End worker io outcome) = not (is_fault outcome)
is_calm (Verdict worker io verdict) = not (is_bad verdict)
is_calm (Issue worker kind write piece) = true
is_calm (Probe worker write piece) = true
is_calm (Skip worker write) = true

-- nothing goes wrong: no I/O or check ends failed or short, and no verdict is bad
abbrev pub is_quiet : List Event → Bool
is_quiet history = list_all is_calm history

-- what an event makes of the write of the block that was issued last
abbrev pub issued_over : ℕ → ℕ → Option WriteId → Event → Option WriteId
issued_over file block last (Issue worker kind write piece) =
    if is_write (kind_for kind) && covers_block piece file block then Some write else last
issued_over file block last (Probe worker write piece) = last
issued_over file block last (Skip worker write) = last
issued_over file block last (End worker io outcome) = last
issued_over file block last (Verdict worker io verdict) = last

-- the write of the block that was issued last, whether or not it has ended
abbrev pub last_issued : List Event → ℕ → ℕ → Option WriteId
last_issued history file block = fold (issued_over file block) None history

-- it writes the block
abbrev pub writes_block : ℕ → ℕ → Started → Bool
writes_block file block io = is_write io.kind && covers_block io.piece file block

-- the other is a later draw of the pass, and overlaps this one
abbrev pub later_over : Draw → Draw → Bool
later_over draw other = nat_lt draw.number other.number && pieces_overlap draw.piece other.piece

-- no later one of these draws overlaps the draw
abbrev pub is_last_in : List Draw → Draw → Bool
is_last_in draws draw = not (list_any (later_over draw) draws)

-- no later write of its group overlaps the write
abbrev pub stays_last : Pass → Draw → Bool
stays_last pass draw = is_last_in (group_of pass (group_index pass draw.number)) draw

-- nothing raced in the history
abbrev pub NothingRaced : List Event → Type 0
NothingRaced history = (io : ℕ) → has_raced history io ≡ false

-- where no clone declines, nothing races
abbrev pub NothingRaces : Type 0
NothingRaces =
    (plan : Plan) (history : List Event) (io : ℕ)
    → IsPlanned plan
    → none_declines plan ≡ true
    → is_legal plan history ≡ true
    → has_raced history io ≡ false

-- a write is issued once all that it overlaps has ended, where no clone declines
abbrev pub WriteWaits : Type 0
WriteWaits =
    (plan : Plan) (history : List Event) (worker : ℕ) (write : WriteId) (piece : Piece) (id : ℕ) (io : Started)
    → IsPlanned plan
    → none_declines plan ≡ true
    → may_happen plan history (Issue worker issue.Write write piece) ≡ true
    → slice_get (started history) id ≡ Some io
    → pieces_overlap io.piece piece ≡ true
    → is_some (outcome_of history id) ≡ true

-- so where nothing goes wrong and no write of a block is in flight, the block's last write is the one issued last
abbrev pub LastIsLatest : Type 0
LastIsLatest =
    (plan : Plan) (history : List Event) (file block : ℕ)
    → IsPlanned plan
    → none_declines plan ≡ true
    → is_legal plan history ≡ true
    → is_quiet history ≡ true
    → list_any (writes_block file block) (in_flight history) ≡ false
    → last_write history file block ≡ last_issued history file block

-- so where no two clones have one file, the writes that are checked are those that no later write of their group
-- overlaps, and the others are skipped
abbrev pub ChecksStayLast : Type 0
ChecksStayLast =
    (plan : Plan) (history : List Event) (worker : ℕ) (write : WriteId) (piece : Piece) (job : SubJob) (draw : Draw)
    → IsPlanned plan
    → none_declines plan ≡ true
    → are_apart plan.clones ≡ true
    → is_legal plan history ≡ true
    → is_quiet history ≡ true
    → clone_of plan write.clone ≡ Some job
    → slice_get (draws_of_job job write.pass) write.number ≡ Some draw
    → (may_happen plan history (Probe worker write piece) ≡ true → stays_last (pass_of job write.pass) draw ≡ true)
    × (may_happen plan history (Skip worker write) ≡ true → stays_last (pass_of job write.pass) draw ≡ false)

-- where no clone declines and no two have one file, all complete runs in which nothing goes wrong have one report, that of the draws
abbrev pub QuietReport : Type 0
QuietReport =
    (plan : Plan) (history : List Event)
    → IsPlanned plan
    → none_declines plan ≡ true
    → are_apart plan.clones ≡ true
    → is_legal plan history ≡ true
    → is_complete plan history ≡ true
    → is_quiet history ≡ true
    → report_of plan history ≡ quiet_report plan
