use Rattle.std.proofs.Common.{sym, List, subst}
use Rattle.jr_engines.specs.Answers.{AnswerParts}
use Rattle.jr_crew_channel.specs.Passes.{pass_state}
use Rattle.jr_crew_threads.specs.Judging.{AreChecksOf}
use Rattle.jr_crew_threads.proofs.PartLemmas.{judged_on}
use Rattle.jr_crew.proofs.verifier.work.Goals as goal

pub returns-then-not-goes_on : goal.returns-then-not-goes_on
returns-then-not-goes_on g c =
    judged_on _ _ c.loop.book.items c.judge.new.book.items c.deref.result.now c.loop.invariant c.gather.ensures.taker
    (subst (λ (answers : List AnswerParts). AreChecksOf (pass_state c.gather.new.channel.pass).taken answers) (sym c.deref.ensures.value)
    c.in_ok-goes_on.ensures.checks)
    c.in_ok-judge.ensures

pub loop-preserved : goal.loop-preserved
loop-preserved g c =
    judged_on _ _ c.loop.book.items c.judge.new.book.items c.deref.result.now c.loop.invariant c.gather.ensures.taker
    (subst (λ (answers : List AnswerParts). AreChecksOf (pass_state c.gather.new.channel.pass).taken answers) (sym c.deref.ensures.value)
    c.in_ok-goes_on.ensures.checks)
    c.in_ok-judge.ensures
