use Rattle.std.proofs.Common.{◌≡◌, true, false, sym, ◌∙◌, ap, subst}
use Rattle.std.specs.Prelude.{None}
use Rattle.jr_model.specs.declared.tickets.Ticket.{Ticket}
use Rattle.jr_model.specs.History.{outcome_of, is_judged, ended_whole}
use Rattle.jr_engines.specs.Answers.{AnswerParts}
use Rattle.jr_desk_tickets.specs.Kept.{IsOwn}
use Rattle.jr_desk.specs.Refusals.{judge_fault}
use Rattle.jr_desk.proofs.Refusing.{judge_accepts}
use Rattle.jr_desk.proofs.desk.Desk.judge.Goals as goal

pub returns-in_err-check_judgeable-clause-taken_in : goal.returns-in_err-check_judgeable-clause-taken_in
returns-in_err-check_judgeable-clause-taken_in c own free =
    let desk = c.args.self.now in
    let same : c.ticket.result.now ≡ c.args.ruling.now.ticket = c.ticket.ensures.value ∙ ap (λ (a : AnswerParts). a.ticket) c.served.ensures.value in
    absurd (c.in_err-check_judgeable.ensures.taken_in
    (subst (λ (t : Ticket). IsOwn desk.plan desk.history t) (sym same) own)
    (subst (λ (t : Ticket). judge_fault desk t.id true ≡ None) (sym same) free))

pub judge_own-requires-clause-own : goal.judge_own-requires-clause-own
judge_own-requires-clause-own c =
    subst (λ (t : Ticket). IsOwn c.args.self.now.plan c.args.self.now.history t)
    (c.ticket.ensures.value ∙ ap (λ (a : AnswerParts). a.ticket) c.served.ensures.value) c.in_ok-check_judgeable.ensures.own

pub judge_own-requires-clause-whole : goal.judge_own-requires-clause-whole
judge_own-requires-clause-whole c =
    subst (λ (t : Ticket). ended_whole (outcome_of c.args.self.now.history t.id) ≡ true)
    (c.ticket.ensures.value ∙ ap (λ (a : AnswerParts). a.ticket) c.served.ensures.value) c.in_ok-check_judgeable.ensures.whole

pub judge_own-requires-clause-unjudged : goal.judge_own-requires-clause-unjudged
judge_own-requires-clause-unjudged c =
    subst (λ (t : Ticket). is_judged c.args.self.now.history t.id ≡ false)
    (c.ticket.ensures.value ∙ ap (λ (a : AnswerParts). a.ticket) c.served.ensures.value) c.in_ok-check_judgeable.ensures.unjudged

pub returns-in_err-judge_own-clause-refused : goal.returns-in_err-judge_own-clause-refused
returns-in_err-judge_own-clause-refused c =
    judge_accepts _ c.args.self.now c.ticket.result.now c.args.ruling.now.ticket _
    (c.ticket.ensures.value ∙ ap (λ (a : AnswerParts). a.ticket) c.served.ensures.value) c.in_ok-check_judgeable.ensures.refused

pub returns-clause-refused : goal.returns-clause-refused
returns-clause-refused c =
    judge_accepts _ c.args.self.now c.ticket.result.now c.args.ruling.now.ticket _
    (c.ticket.ensures.value ∙ ap (λ (a : AnswerParts). a.ticket) c.served.ensures.value) c.in_ok-check_judgeable.ensures.refused
