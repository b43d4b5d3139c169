use Rattle.std.proofs.Common.{◌≤◌, take}
use Rattle.jr_desk.proofs.Running.{HasPlayed}
use Rattle.jr_desk.proofs.plays.Player.answer_all.Given as goal

-- the player made the steps so far
abbrev pub invariant-loop-step : goal.invariant-loop-step
invariant-loop-step l = record {
  played : HasPlayed l.fn.self.desk.plan (take l.step-index l.steps) l.replies.items l.self;
  calls : l.self.engine.calls ≤ l.step-index;
}
