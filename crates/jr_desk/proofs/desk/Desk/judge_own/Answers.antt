use Rattle.std.proofs.Common.{◌≡◌, List, ◌∷◌, [], ◌++◌, length, true, false, arith, refl, sym, ◌∙◌, ap, subst}
use Rattle.jr_model.specs.declared.events.Event.{Event}
use Rattle.jr_model.specs.declared.events.Event.TheVariants.{Verdict}
use Rattle.jr_model.specs.declared.events.Verdict.{Verdict as GivenVerdict}
use Rattle.jr_model.specs.declared.tickets.Ticket.{Ticket}
use Rattle.jr_model.specs.History.{outcome_of, is_judged, is_judged_kind, ended_whole}
use Rattle.jr_model.specs.Legal.{is_legal, may_happen}
use Rattle.jr_model.specs.Judgement.{verdict_of}
use Rattle.jr_model.specs.Machine.{said_of}
use Rattle.jr_model.specs.PlanFacts.{IsPlanned}
use Rattle.jr_model.specs.Races.{has_raced}
use Rattle.jr_header.specs.Served.{answer_verdict}
use Rattle.jr_engines.specs.Answers.{AnswerParts}
use Rattle.jr_desk_tickets.specs.Kept.{IsOwn}
use Rattle.jr_desk.specs.DeskState.{DeskState}
use Rattle.jr_model.proofs.OptionLemmas.{on_error}
use Rattle.jr_desk_state.specs.declared.board.Board.{Board}
use Rattle.jr_desk_state.proofs.Keeping.{may_judge}
use Rattle.jr_desk.proofs.Boxed.{lent_may}
use Rattle.jr_desk.proofs.Refusing.{judged_probe}
use Rattle.jr_desk.proofs.desk.Desk.judge_own.Goals as goal

pub judge-requires-clause-may : goal.judge-requires-clause-may
judge-requires-clause-may c =
    let desk = c.args.self.now in
    let ruling = c.args.ruling.now in
    let t = c.ticket-ticket.result.now in
    let same : t ≡ ruling.ticket = c.ticket-ticket.ensures.value ∙ ap (λ (a : AnswerParts). a.ticket) c.served.ensures.value in
    let own : IsOwn desk.plan desk.history t = subst (λ (x : Ticket). IsOwn desk.plan desk.history x) (sym same) c.requires.own in
    let unjudged : is_judged desk.history t.id ≡ false = subst (λ (x : Ticket). is_judged desk.history x.id ≡ false) (sym same) c.requires.unjudged in
    let whole : ended_whole (outcome_of desk.history t.id) ≡ true = subst (λ (x : Ticket). ended_whole (outcome_of desk.history x.id) ≡ true) (sym same) c.requires.whole in
    let planned : IsPlanned desk.plan = subst (λ (d : DeskState). IsPlanned d.plan) c.self.view_is c.self.invariant.planned in
    let legal : is_legal desk.plan desk.history ≡ true = subst (λ (d : DeskState). is_legal d.plan d.history ≡ true) c.self.view_is c.self.invariant.legal in
    let probe : is_judged_kind t.kind ≡ true =
    ap (λ (x : Ticket). is_judged_kind x.kind) same ∙ judged_probe ruling.ticket.kind ruling.outcome c.served.ensures.to_judge in
    let len : length ruling.bytes ≡ t.piece.len = c.served.ensures.room ∙ ap (λ (x : Ticket). x.piece.len) (sym same) in
    let given : c.said_of-said.result ≡ said_of (has_raced desk.history ruling.ticket.id) (answer_verdict ruling) =
    c.said_of-said.ensures.verdict c.requires.whole c.requires.unjudged in
    let raced = has_raced desk.history t.id in
    let said : said_of raced (verdict_of t.method t.write t.piece t.expected ruling.bytes) ≡ c.said_of-said.result =
    ap (λ (x : Ticket). said_of (has_raced desk.history x.id) (verdict_of x.method x.write x.piece x.expected ruling.bytes)) same ∙ sym given in
    let event = Verdict c.args.by t.id c.said_of-said.result in
    lent_may c.self.inside.plan c.self.inside.board.value c.deref_mut.result.now event c.deref_mut.ensures.value
    (subst (λ (d : DeskState). may_happen d.plan d.history event ≡ true) (sym c.self.view_is)
    (subst (λ (v : GivenVerdict). may_happen desk.plan desk.history (Verdict c.args.by t.id v) ≡ true) said
    (may_judge desk.plan desk.history t c.args.by ruling.bytes raced refl planned legal own unjudged whole probe (omega (arith, len)))))

pub returns-clause-ok : goal.returns-clause-ok
returns-clause-ok c =
    let inside = c.self.inside in
    let said = c.said_of-said.result in
    let same = c.ticket-ticket.ensures.value ∙ ap (λ (a : AnswerParts). a.ticket) c.served.ensures.value in
    ap (λ (history : List Event). record { plan = inside.plan; history = history; is_stopped = inside.is_stopped })
    (c.in_ok-judge.ensures.ok
    ∙ ap (λ (b : Board). b.history.items ++ Verdict c.args.by c.ticket-ticket.result.now.id said ∷ []) c.deref_mut.ensures.value)
    ∙ ap (λ (d : DeskState). record d { history = d.history ++ Verdict c.args.by c.ticket-ticket.result.now.id said ∷ [] }) c.self.view_is
    ∙ ap (λ (t : Ticket). record c.args.self.now { history = c.args.self.now.history ++ Verdict c.args.by t.id said ∷ [] }) same

pub returns-clause-said : goal.returns-clause-said
returns-clause-said c = c.said_of-said.ensures.verdict c.requires.whole c.requires.unjudged

pub returns-clause-says : goal.returns-clause-says
returns-clause-says c = c.said_of-said.ensures.says

pub returns-in_err-judge-clause-err : goal.returns-in_err-judge-clause-err
returns-in_err-judge-clause-err c =
    let inside = c.self.inside in
    on_error _ _
    (ap (λ (history : List Event). record { plan = inside.plan; history = history; is_stopped = inside.is_stopped })
    (c.in_err-judge.ensures.err ∙ ap (λ (b : Board). b.history.items) c.deref_mut.ensures.value)
    ∙ c.self.view_is)
