use Rattle.std.proofs.Common.{◌≡◌, true, sym, ◌∙◌, ap}
use Rattle.std.proofs.lemmas.Bool.{false≢true}
use Rattle.jr_model.specs.declared.steps.DeskFault.TheVariants.{Memory}
use Rattle.jr_desk.specs.Plays.{judge_reply, judged_desk}
use Rattle.jr_desk.specs.Refusals.{judge_fault}
use Rattle.jr_desk.proofs.Playing.{none_said, fault_said}
use Rattle.jr_desk.proofs.plays.judged.Goals as goal

pub returns-in-Ok-clause-reply : goal.returns-in-Ok-clause-reply
returns-in-Ok-clause-reply c =
    let ruled = rw c.rule.ensures at c.in-Ok.ensures.refused in
    ap judge_reply (sym (none_said (judge_fault c.args.desk.now c.args.served.now.ticket.id true) _ (ruled true c.requires.own)))

pub returns-in-Ok-clause-desk : goal.returns-in-Ok-clause-desk
returns-in-Ok-clause-desk c =
    let ruled = rw c.rule.ensures at c.in-Ok.ensures.refused in
    (rw c.rule.ensures at c.in-Ok.ensures.ok)
    ∙ ap (judged_desk c.args.desk.now c.args.by c.args.served.now)
    (sym (none_said (judge_fault c.args.desk.now c.args.served.now.ticket.id true) _ (ruled true c.requires.own)))

pub returns-in-Err : goal.returns-in-Err
returns-in-Err c =
    let refused = rw c.rule.ensures at c.in-Err.ensures.refused in
    let wants = rw c.rule.ensures at c.in-Err.ensures.taken_in in
    let other = λ (h : c.in-Err.fault ≡ Memory). let ne = rw h at c.ne.ensures in false≢true (sym ne ∙ c.if-ne.true) in
    let said = fault_said (judge_fault c.args.desk.now c.args.served.now.ticket.id true) c.in-Err.fault (refused true c.requires.own) (wants c.requires.own) other in
    record {
      reply = ap judge_reply (sym said);
      desk = c.in-Err.ensures.err ∙ ap (judged_desk c.args.desk.now c.args.by c.args.served.now) (sym said);
    }
