use Rattle.std.proofs.Common.{[]}
use Rattle.jr_report_maps.specs.Marked.{AreMarksIn}
use Rattle.jr_report_maps.proofs.files.no_marks.Given as goal

abbrev pub invariant-loop-file : goal.invariant-loop-file
invariant-loop-file l = AreMarksIn l.plan l.history l._file-index [] l.files.items
