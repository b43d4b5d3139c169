use Rattle.std.proofs.Common.{◌≡◌, drop}
use Rattle.jr_model.specs.History.{outcome_of}
use Rattle.jr_replay_history.proofs.events.outcome_of.Given as goal

abbrev pub invariant-loop-event : goal.invariant-loop-event
invariant-loop-event l = outcome_of (drop l.event-index l.history) l.io ≡ outcome_of l.history l.io
