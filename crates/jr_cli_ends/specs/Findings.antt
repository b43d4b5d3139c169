-- Believed: what is told of a run beside its report: its status, and the report as JSON (of this project).
use Rattle.std.specs.Prelude.{◌≡◌, ℕ, Bool, true, not, List, ◌++◌, map, codes}
use Rattle.serde_json.specs.Written.{compact_text}
use Rattle.jr_model.specs.declared.events.Event.{Event}
use Rattle.jr_model.specs.declared.totals.Totals.{Totals}
use Rattle.jr_model.specs.Legal.{is_complete, is_legal}
use Rattle.jr_model.specs.Plan.{Plan}
use Rattle.jr_model.specs.Report.{all_totals, in_order, miscompares}
use Rattle.jr_report_faults.specs.declared.faults.Faults.{Faults}
use Rattle.jr_report_faults.specs.Faults.{AreFaultsOf}
use Rattle.jr_report_json.specs.Json.{Notes, RunEnd, json_of}
use Rattle.jr_desk_totals.specs.declared.tallies.Bad.{Bad}
use Rattle.jr_desk_totals.specs.Bads.{miscompare_of}
use Rattle.jr_cli_words.specs.declared.words.TheConstants.{LOGIC, RELEASE}
use Rattle.jr_cli_ends.specs.declared.storage.Storage.{Storage}
use Rattle.jr_cli_ends.specs.Status.{status_of, status_with}

-- a plan, and a history of it
pub record RunOf : Type 0 where
  pub plan : Plan
  pub history : List Event

-- how the run of this history ended, of whose files the system said this
abbrev pub end_of : RunOf → Storage → RunEnd
end_of run storage = record {
  version = RELEASE.now;
  logic = LOGIC.now;
  status = status_with (status_of (all_totals run.plan run.history)) (not (is_complete run.plan run.history)) storage.is_stored;
  is_interrupted = not (is_complete run.plan run.history);
  cached = storage.cached;
  direct = storage.direct;
  is_stored = storage.is_stored;
}

-- its report as a line of JSON
abbrev pub json_line : RunOf → Notes → Storage → List ℕ
json_line run notes storage = compact_text (json_of (end_of run storage) run.plan run.history notes) ++ codes "\n"

-- the totals, the bad verdicts as they were given and by their writes, and the faults of a legal history, and whether it is complete
pub record AreFindings (plan : Plan) (history : List Event) (counted : List Totals) (given : List Bad) (arranged : List Bad) (kept : Faults) (whole : Bool) : Type 0 where
  pub legal : is_legal plan history ≡ true
  pub totals : counted ≡ all_totals plan history
  pub bads : map miscompare_of given ≡ miscompares history
  pub sorted : map miscompare_of arranged ≡ in_order plan (miscompares history)
  pub faults : AreFaultsOf plan history kept
  pub complete : whole ≡ is_complete plan history
