use Rattle.std.proofs.Common.{◌≡◌, ◌+◌, List, ◌∷◌, [], ◌++◌, refl, take, sym, ◌∙◌, ap, subst, arith}
use Rattle.std.proofs.lemmas.List.{take_more}
use Rattle.jr_model.specs.declared.steps.Step.{Step}
use Rattle.jr_model.specs.declared.steps.StepReply.{StepReply}
use Rattle.jr_desk.proofs.Running.{HasPlayed, ready_on, played_all, played_on, first_played}
use Rattle.jr_desk.proofs.plays.Player.answer_all.Goals as goal

pub answer-requires-clause-ready : goal.answer-requires-clause-ready
answer-requires-clause-ready c =
    ready_on c.args.self.now.desk.plan (take c.loop-step.step-index c.args.steps.now) c.loop-step.replies.items c.loop-step.self
    c.requires.planned c.loop-step.invariant.played

pub loop-step-init : goal.loop-step-init
loop-step-init c =
    let player = c.args.self.now in
    let plan = player.desk.plan in record {
      played =
          subst (λ (replies : List StepReply). HasPlayed plan [] replies player) (sym c.new-replies.ensures.items)
          (first_played plan player c.requires.planned c.requires.first refl c.requires.reads);
      calls = omega (arith, c.requires.calls);
    }

pub loop-step-preserved : goal.loop-step-preserved
loop-step-preserved c =
    let plan = c.args.self.now.desk.plan in
    let so = c.loop-step.invariant in
    let i = c.loop-step.step-index in
    let steps = c.args.steps.now in
    let goes = c.in_ok-reply.ensures in
    let more : take (i + 1) steps ≡ take i steps ++ c.step-item.result ∷ [] =
    take_more steps i c.step-item.result c.loop-step-test.true
    ∙ ap (λ (step : Step). take i steps ++ step ∷ []) (sym c.step-item.is) in record {
      played =
          subst (λ (done : List Step). HasPlayed plan done c.push.new.self.items c.answer.new.self)
          (sym more)
          (subst (λ (replies : List StepReply). HasPlayed plan (take i steps ++ c.step-item.result ∷ []) replies c.answer.new.self) (sym c.in_ok-push.ensures.items)
          (played_on plan (take i steps) c.loop-step.replies.items c.loop-step.self c.answer.new.self c.step-item.result c.in_ok-reply.reply so.played goes));
      calls = omega (arith, so.calls, goes.calls);
    }

pub returns-clause-replies : goal.returns-clause-replies
returns-clause-replies c =
    (played_all c.args.self.now.desk.plan c.args.steps.now c.loop-step.step-index c.loop-step.replies.items c.loop-step.self c.loop-step-test.false c.loop-step.invariant.played).0

pub returns-clause-desk : goal.returns-clause-desk
returns-clause-desk c =
    (played_all c.args.self.now.desk.plan c.args.steps.now c.loop-step.step-index c.loop-step.replies.items c.loop-step.self c.loop-step-test.false c.loop-step.invariant.played).1
