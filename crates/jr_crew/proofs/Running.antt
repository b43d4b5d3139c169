-- What a run needs between two turns, and what its last turn leaves.
use Rattle.std.proofs.Common.{◌≡◌, ◌-◌, ◌*◌, ◌^◌, ◌<◌, ◌≤◌, List, [], length, false, true, refl, sym, subst, arith}
use Rattle.jr_model.specs.declared.events.Event.{Event}
use Rattle.jr_model.specs.History.{started}
use Rattle.jr_model.specs.Legal.{is_legal, is_complete}
use Rattle.jr_model.specs.Machine.{work_of}
use Rattle.jr_model.specs.Plan.{Plan}
use Rattle.jr_model.specs.Replies.{EngineState}
use Rattle.jr_model.specs.PlanFacts.{IsPlanned}
use Rattle.jr_laws_steps.proofs.CountLaws.{started_few}
use Rattle.jr_laws_steps.proofs.StartedFew.{started_small}
use Rattle.jr_crew_books.specs.Books.{dones_of}
use Rattle.jr_desk.specs.DeskState.{DeskState}
use Rattle.jr_crew.specs.Crews.{AreCallsFor}
use Rattle.jr_crew.specs.Runs.{IsCovering}
use Rattle.jr_crew.specs.Turns.{IsBetweenTurns, IsTurn, IsLastTurn}
use Rattle.jr_crew.specs.Whole.{IsEndedRun, IsRun}
use Rattle.jr_crew.proofs.Settling.{none_settled, settled_rests, settled_judged}
use Rattle.jr_crew.proofs.Turning.{IsSoFar, turn_keeps, turn_starts, last_keeps}

-- nothing happened so far
pub first_sofar : (plan : Plan) (history : List Event) (engine : EngineState) → history ≡ [] → IsSoFar plan history engine engine
first_sofar plan history engine none =
    let first : IsSoFar plan [] engine engine = record {
      legal = refl;
      settled = none_settled;
      alone = refl;
      unraced = λ io. refl;
      ends = refl;
      calls = omega arith;
      failures = omega arith;
      known = refl;
      script = refl;
      tied = λ (covering : IsCovering plan engine). record { read_back = []; tied = refl; covers = covering.covers };
    } in
    subst (λ (h : List Event). IsSoFar plan h engine engine) (sym none) first

-- the desk is ready for a turn
pub between : (desk : DeskState) (plan : Plan) (old engine : EngineState) → IsPlanned plan → desk.plan ≡ plan → desk.is_stopped ≡ false → IsSoFar plan desk.history old engine → IsBetweenTurns desk
between desk plan old engine planned same going sofar = record {
  planned = subst (λ (p : Plan). IsPlanned p) (sym same) planned;
  legal = subst (λ (p : Plan). is_legal p desk.history ≡ true) (sym same) sofar.legal;
  settled = sofar.settled;
  going = going;
}

-- and the engine for a call
pub few_calls : (plan : Plan) (history : List Event) (old engine : EngineState) → IsPlanned plan → old.calls ≤ 2 ^ 63 → IsSoFar plan history old engine → engine.calls < 2 ^ 64 - 1
few_calls plan history old engine planned most sofar =
    omega (arith, most, sofar.calls, sofar.ends, started_small plan history planned sofar.legal)

-- a turn of the desk whose plan this is
module _ (plan own : Plan) (history after : List Event) (old engine next : EngineState) (planned : IsPlanned plan) (same : own ≡ plan) (sofar : IsSoFar plan history old engine) where
  this_turn : IsTurn own history after engine next → IsTurn plan history after engine next
  this_turn turn = subst (λ (p : Plan). IsTurn p history after engine next) same turn

  -- keeps what holds so far
  pub goes_on : IsTurn own history after engine next → IsSoFar plan after old next
  goes_on turn = turn_keeps plan history old engine next planned sofar after (this_turn turn)

  -- and leaves less to start
  pub leaves_less : IsTurn own history after engine next → 2 * work_of plan - length (started after) < 2 * work_of plan - length (started history)
  leaves_less turn =
      omega (arith, turn_starts plan history old engine next planned sofar after (this_turn turn), started_few plan after planned (goes_on turn).legal)

  -- the last turn keeps it too
  pub comes_to_end : IsLastTurn own history after engine next → IsSoFar plan after old next
  comes_to_end last =
      let here : IsLastTurn plan history after engine next = subst (λ (p : Plan). IsLastTurn p history after engine next) same last in
      last_keeps plan history old engine next planned sofar after here.chosen here.engine

-- between two turns all that was started has come to its end
pub ended_run : (plan : Plan) (history : List Event) (old engine : EngineState) → IsSoFar plan history old engine → AreCallsFor true old (dones_of plan true history 0) engine → IsEndedRun plan history old engine
ended_run plan history old engine sofar called = record {
  legal = sofar.legal;
  settled = record { flown = settled_rests history sofar.settled; judged = settled_judged history sofar.settled };
  alone = sofar.alone;
  unraced = sofar.unraced;
  called = called;
  calls = sofar.calls;
  failures = sofar.failures;
  tied = λ covering. let tied = sofar.tied covering in (tied.read_back, tied.tied);
}

-- where it is complete it is a whole run
pub whole_run : (plan : Plan) (history : List Event) (old engine : EngineState) → IsEndedRun plan history old engine → is_complete plan history ≡ true → IsRun plan history old engine
whole_run plan history old engine ended complete = record {
  legal = ended.legal;
  complete = complete;
  alone = ended.alone;
  unraced = ended.unraced;
  called = ended.called;
  calls = ended.calls;
  failures = ended.failures;
  tied = ended.tied;
}

-- a run that is left halfway isn't complete
pub left_incomplete : {A : Type 0} (plan own : Plan) (history : List Event) → own ≡ plan → is_complete own history ≡ false → is_complete plan history ≡ true → A
left_incomplete plan own history same left complete =
    let kept : is_complete plan history ≡ false = subst (λ (p : Plan). is_complete p history ≡ false) same left in
    cc
