use Rattle.std.proofs.Common.{length, take}
use Rattle.jr_report_maps.specs.Marked.{AreMarksIn}
use Rattle.jr_report_maps.proofs.files.marks_of.Given as goal

abbrev pub invariant-loop-event : goal.invariant-loop-event
invariant-loop-event l = AreMarksIn l.plan l.history (length l.plan.files) (take l.event-index l.history) l.files.items
