use Rattle.std.proofs.Common.{map, sym}
use Rattle.std.proofs.lemmas.List.{append-nil}
use Rattle.std.proofs.lemmas.Result.{IfOk-from_err}
use Rattle.jr_crew.proofs.Telling.{told_on}
use Rattle.jr_crew.proofs.held.Shared.hand_in.Goals as goal

pub loop-one-init : goal.loop-one-init
loop-one-init g c = sym (append-nil (map (λ one. one.served.now) c.args.told.now.items))

pub loop-one-preserved : goal.loop-one-preserved
loop-one-preserved g c =
    told_on (λ one. one.served.now) (λ one. one.served.now) c.args.told.now.items c.loop-one.told.items c.push.new.all.items c.in_ok-said.said
    c.args.settled.now c.loop-one.one-index c.one-item.result c.loop-one-test.true c.one-item.is c.in_ok-said.ensures c.in_ok-push.ensures.ok
    c.loop-one.invariant

pub returns-in_err-said-clause-told : goal.returns-in_err-said-clause-told
returns-in_err-said-clause-told g c = IfOk-from_err c.from_residual.result _ c.from_residual.ensures.0

pub returns-in_err-said-clause-next : goal.returns-in_err-said-clause-next
returns-in_err-said-clause-next g c = IfOk-from_err c.from_residual.result _ c.from_residual.ensures.0

pub returns-in_err-push-clause-told : goal.returns-in_err-push-clause-told
returns-in_err-push-clause-told g c = IfOk-from_err c.from_residual-in_err-push.result _ c.from_residual-in_err-push.ensures.0

pub returns-in_err-push-clause-next : goal.returns-in_err-push-clause-next
returns-in_err-push-clause-next g c = IfOk-from_err c.from_residual-in_err-push.result _ c.from_residual-in_err-push.ensures.0

pub returns-in_err-step-clause-told : goal.returns-in_err-step-clause-told
returns-in_err-step-clause-told g c = IfOk-from_err c.from_residual-in_err-step.result _ c.from_residual-in_err-step.ensures.0

pub returns-in_err-step-clause-next : goal.returns-in_err-step-clause-next
returns-in_err-step-clause-next g c = IfOk-from_err c.from_residual-in_err-step.result _ c.from_residual-in_err-step.ensures.0
