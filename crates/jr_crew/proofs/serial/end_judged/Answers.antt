use Rattle.std.proofs.Common.{◌≡◌, List, [], ◌∷◌, ◌++◌, Bool, true, false, cond, refl, sym, ◌∙◌, ap, subst, append_assoc}
use Rattle.jr_model.specs.declared.events.Event.{Event}
use Rattle.jr_model.specs.declared.events.Event.TheVariants.{End, Verdict}
use Rattle.jr_model.specs.declared.events.Verdict.{Verdict as GivenVerdict}
use Rattle.jr_model.specs.Machine.{said_of}
use Rattle.jr_model.specs.Races.{has_raced}
use Rattle.jr_model.proofs.RaceLaws.{raced_other}
use Rattle.jr_engines.specs.Answers.{AnswerParts}
use Rattle.jr_header.specs.Served.{answer_verdict, is_to_judge}
use Rattle.jr_desk.specs.DeskState.{DeskState}
use Rattle.jr_crew.specs.Turns.{ended_by, judged_by}
use Rattle.jr_crew.proofs.serial.end_judged.Goals as goal

-- the history after the end of an answer
abbrev after_end : DeskState → AnswerParts → List Event
after_end old answer = old.history ++ End answer.ticket.worker answer.ticket.id answer.outcome ∷ []

-- what a check that didn't race appends
appended : (old : DeskState) (answer : AnswerParts) (said : GivenVerdict) → said ≡ said_of (has_raced (after_end old answer) answer.ticket.id) (answer_verdict answer) → is_to_judge answer ≡ true → has_raced old.history answer.ticket.id ≡ false → after_end old answer ++ Verdict 0 answer.ticket.id said ∷ [] ≡ old.history ++ ended_by answer
appended old answer said says judged unraced =
    let e = End answer.ticket.worker answer.ticket.id answer.outcome in
    let raced : has_raced (after_end old answer) answer.ticket.id ≡ false = raced_other old.history e answer.ticket.id refl ∙ unraced in
    let given : said ≡ answer_verdict answer = says ∙ ap (λ (b : Bool). said_of b (answer_verdict answer)) raced in
    let verdict : Verdict 0 answer.ticket.id said ∷ [] ≡ judged_by answer =
    ap (λ (v : GivenVerdict). Verdict 0 answer.ticket.id v ∷ []) given
    ∙ sym (ap (λ (b : Bool). cond b (Verdict 0 answer.ticket.id (answer_verdict answer) ∷ []) []) judged) in
    append_assoc old.history (e ∷ []) (Verdict 0 answer.ticket.id said ∷ [])
    ∙ ap (λ (rest : List Event). old.history ++ e ∷ rest) verdict

-- what the desk is told of a ruling is what it is told of the answer that was ruled
settles : (old new : DeskState) (ruled answer : AnswerParts) (said : GivenVerdict) → ruled ≡ answer → new ≡ record old { history = after_end old ruled ++ Verdict 0 ruled.ticket.id said ∷ [] } → said ≡ said_of (has_raced (after_end old ruled) ruled.ticket.id) (answer_verdict ruled) → is_to_judge answer ≡ true → has_raced old.history answer.ticket.id ≡ false → new ≡ record old { history = old.history ++ ended_by answer }
settles old new ruled answer said same is says judged unraced =
    subst (λ (a : AnswerParts). new ≡ record old { history = after_end old a ++ Verdict 0 a.ticket.id said ∷ [] }) same is
    ∙ ap (λ (h : List Event). record old { history = h })
    (appended old answer said
    (subst (λ (a : AnswerParts). said ≡ said_of (has_raced (after_end old a) a.ticket.id) (answer_verdict a)) same says) judged unraced)

pub returns-in-Ok-clause-ok : goal.returns-in-Ok-clause-ok
returns-in-Ok-clause-ok c =
    settles c.args.desk.now c.end_judged.new.self c.rule-ruling.result c.args.served.now _ c.rule-ruling.ensures
    c.in-Ok.ensures.ok.0 c.in-Ok.ensures.ok.1 c.requires.whole c.requires.open.unraced
