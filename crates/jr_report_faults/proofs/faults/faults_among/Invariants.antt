use Rattle.std.proofs.Common.{◌≤◌, take}
use Rattle.std.specs.Prelude.{filter_map}
use Rattle.jr_model.specs.History.{started}
use Rattle.jr_report_faults.specs.Faults.{AreFirst, fault_by}
use Rattle.jr_report_faults.proofs.faults.faults_among.Given as goal

-- the faults of the events so far
abbrev pub invariant-loop-event : goal.invariant-loop-event
invariant-loop-event l = record {
  kept : AreFirst l.plan (filter_map (fault_by (started l.history)) (take l.event-index l.history)) l.faults;
  few : l.faults.more ≤ l.event-index;
}
