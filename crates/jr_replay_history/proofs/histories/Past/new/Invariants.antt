use Rattle.std.proofs.Common.{◌≡◌, take}
use Rattle.jr_replay_history.proofs.histories.Past.new.Given as goal

abbrev pub invariant-loop-event : goal.invariant-loop-event
invariant-loop-event l = l.past ≡ take l.event-index l.events
