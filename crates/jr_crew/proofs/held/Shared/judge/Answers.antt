use Rattle.std.proofs.Common.{◌++◌, map, sym, ap, ◌∙◌, arith}
use Rattle.std.proofs.lemmas.List.{append-nil, take_all}
use Rattle.std.proofs.lemmas.Result.{IfOk-from_err}
use Rattle.jr_crew.proofs.Telling.{told_on}
use Rattle.jr_crew.proofs.held.Shared.judge.Goals as goal

pub loop-one-init : goal.loop-one-init
loop-one-init g c = sym (append-nil (map (λ one. one.served.now) c.args.told.now.items))

pub loop-one-preserved : goal.loop-one-preserved
loop-one-preserved g c =
    told_on (λ one. one.served.now) (λ one. one.served.now) c.args.told.now.items c.loop-one.told.items c.push.new.all.items c.in_ok-said.said
    c.args.settled.now c.loop-one.one-index c.one-item.result c.loop-one-test.true c.one-item.is c.in_ok-said.ensures c.in_ok-push.ensures.ok
    c.loop-one.invariant

pub returns-in_err-said : goal.returns-in_err-said
returns-in_err-said g c = IfOk-from_err c.from_residual.result _ c.from_residual.ensures.0

pub returns-in_err-push : goal.returns-in_err-push
returns-in_err-push g c = IfOk-from_err c.from_residual-in_err-push.result _ c.from_residual-in_err-push.ensures.0

pub returns : goal.returns
returns g c =
    c.loop-one.invariant
    ∙ ap (λ ones. map (λ one. one.served.now) c.args.told.now.items ++ map (λ one. one.served.now) ones)
    (take_all c.loop-one.one-index c.args.settled.now (omega (arith, c.loop-one-test.false)))
