use Rattle.std.proofs.Common.{take}
use Rattle.jr_replay_history.specs.Marks.{IsMarked}
use Rattle.jr_replay_history.proofs.ledgers.marks_of.Given as goal

abbrev pub invariant-loop-event : goal.invariant-loop-event
invariant-loop-event l = IsMarked l.ios (take l.event-index l.events) l.marks
