use Rattle.std.proofs.Common.{sym, subst}
use Rattle.std.specs.Prelude.{IfOk}
use Rattle.jr_model.specs.declared.steps.Step.{Step}
use Rattle.jr_model.specs.declared.steps.StepReply.TheVariants.{Stopped}
use Rattle.jr_model.specs.Machine.{machine_step}
use Rattle.jr_desk.specs.Plays.{GoesOn, state_of}
use Rattle.jr_desk.proofs.Playing.{stop_goes_on}
use Rattle.jr_desk.proofs.plays.Player.answer.Goals as goal

pub returns-in-Take : goal.returns-in-Take
returns-in-Take c =
    let player = c.args.self.now in
    subst (λ (step : Step). IfOk c.take.result (λ reply. GoesOn player (machine_step player.desk.plan (state_of player) step) reply c.take.new.self))
    (sym c.in-Take.is) c.take.ensures

pub returns-in-End : goal.returns-in-End
returns-in-End c =
    let player = c.args.self.now in
    subst (λ (step : Step). IfOk c.end.result (λ reply. GoesOn player (machine_step player.desk.plan (state_of player) step) reply c.end.new.self))
    (sym c.in-End.is) c.end.ensures

pub returns-in-Judge : goal.returns-in-Judge
returns-in-Judge c =
    let player = c.args.self.now in
    subst (λ (step : Step). IfOk c.judge.result (λ reply. GoesOn player (machine_step player.desk.plan (state_of player) step) reply c.judge.new.self))
    (sym c.in-Judge.is) c.judge.ensures

pub returns-in-Stop : goal.returns-in-Stop
returns-in-Stop c =
    let player = c.args.self.now in
    subst (λ (step : Step). GoesOn player (machine_step player.desk.plan (state_of player) step) Stopped (record player { desk = c.stop.new.self }))
    (sym c.in-Stop.is) (stop_goes_on player c.stop.new.self c.requires.ready c.stop.ensures)
