use Rattle.std.proofs.Common.{◌≡◌, ◌-◌, ◌*◌, length, true, false}
use Rattle.jr_model.specs.History.{started}
use Rattle.jr_model.specs.Machine.{work_of}
use Rattle.jr_model.specs.PlanFacts.{IsPlanned}
use Rattle.jr_crew_books.specs.Books.{dones_of}
use Rattle.jr_crew.specs.Crews.{AreCallsFor}
use Rattle.jr_crew.specs.Runs.{IsFresh}
use Rattle.jr_crew.proofs.Serially.{IsSerialSoFar}
use Rattle.jr_crew.proofs.Turning.{IsSoFar}
use Rattle.jr_crew.proofs.serial.run_serial_asked.Given as goal

-- the desk is that of the plan, the run so far keeps what is to hold between two turns, and the engine's calls are what was completed
abbrev pub invariant-turns : goal.invariant-turns
invariant-turns g l = record {
  planned : IsPlanned l.fn.plan;
  plan : l.desk.plan ≡ l.fn.plan;
  going : l.desk.is_stopped ≡ false;
  sofar : IsSoFar l.fn.plan l.desk.history ((goal.Engine-dyn g l.fn.engine.now).state l.fn.engine.now.1) ((goal.Engine-dyn g l.engine.now).state l.engine.now.1);
  called : AreCallsFor true ((goal.Engine-dyn g l.fn.engine.now).state l.fn.engine.now.1) (dones_of l.fn.plan true l.desk.history 0) ((goal.Engine-dyn g l.engine.now).state l.engine.now.1);
  serial : IsFresh l.fn.plan ((goal.Engine-dyn g l.fn.engine.now).state l.fn.engine.now.1) → IsSerialSoFar l.fn.plan l.desk.history ((goal.Engine-dyn g l.engine.now).state l.engine.now.1);
}

-- each turn but the last starts one more of what the plan can start
abbrev pub decreases-turns : goal.decreases-turns
decreases-turns g l = 2 * work_of l.fn.plan - length (started l.desk.history)
