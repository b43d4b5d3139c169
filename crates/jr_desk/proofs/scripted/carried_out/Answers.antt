use Rattle.std.proofs.Common.{◌≡◌, ℕ, List, refl, sym, ◌∙◌, ap, subst}
use Rattle.jr_model.specs.declared.tickets.Ticket.{Ticket}
use Rattle.jr_model.specs.Replies.{EngineState}
use Rattle.jr_engines.specs.Answers.{AnswerParts, Answers}
use Rattle.jr_engines.specs.States.{scripted_state}
use Rattle.jr_header.specs.Served.{asked_with}
use Rattle.jr_desk.proofs.scripted.carried_out.Goals as goal
use Rattle.jr_desk.proofs.scripted.carried_out.OwnLists.{own-1, readsᵐ-state-1-1}
use borrow.Rule.Reborrow.{re_n}

same_states : (t : Ticket) (buffer : List ℕ) (answer : AnswerParts) (old lent new back : EngineState) → lent ≡ old → back ≡ new → Answers lent t buffer answer back → Answers old t buffer answer new
same_states t buffer answer old lent new back before after answers =
    subst (λ (e : EngineState). Answers e t buffer answer new) before
    (subst (λ (e : EngineState). Answers lent t buffer answer e) after answers)

-- the engine's state is the same where it is lent as any engine, and where it comes back
pub returns : goal.returns
returns c =
    let t = c.args.ticket in
    let lent = readsᵐ-state-1-1 (re_n c.serve-arg-1.given c.args.engine) in
    let back = ap (λ z. (own-1.entry z.now.0).1.state z.now.1) (sym c.engine-1.given.1)
    ∙ readsᵐ-state-1-1 c.engine-1.given.0
    ∙ ap scripted_state (sym (c.engine-2-1.given.1 refl)) in
    same_states t (asked_with t.kind t c.args.buffer.items) c.serve.result _ _ _ _ lent back c.serve.ensures
