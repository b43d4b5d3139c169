-- A check that ended whole leaves its round; at any other end the clone stands where it stood.
use Rattle.std.proofs.Common.{rules, ◌≡◌, true, false, refl, sym, ◌∙◌, ap, subst}
use Rattle.std.specs.Prelude.{Some}
use Rattle.jr_model.specs.declared.events.Event.TheVariants.{End}
use Rattle.jr_model.specs.declared.events.Outcome.{Outcome}
use Rattle.jr_model.specs.declared.events.Outcome.TheVariants.{Whole, Failed, Short}
use Rattle.jr_model.specs.declared.events.WriteId.{WriteId}
use Rattle.jr_model.specs.History.{is_probe, ended_whole}
use Rattle.jr_model.specs.Plan.{clone_of}
use Rattle.jr_model.proofs.PlanLemmas.{own_place}
use Rattle.jr_laws_steps.specs.Nexts.{IsNext, grown}
use Rattle.jr_desk_state.specs.Standings.{IsStanding}
use Rattle.jr_desk_state.proofs.StandingMoves.{stays_end_fault, stays_end_halted, stays_end_issue}
use Rattle.jr_desk_state.proofs.ending.check_off.Goals as goal
use Rattle.jr_desk_state.proofs.ending.check_off.Goals.{else-eq-via-then-eq+then-eq-2+else-not-is_halted, else-eq-via-then-eq+else-eq-2, else-eq-via-else-eq}

whole_is : (outcome : Outcome) → ended_whole (Some outcome) ≡ true → outcome ≡ Whole
whole_is Whole h = refl
whole_is Failed h = cc
whole_is (Short n) h = cc

pub returns-then-not-is_halted-clause-kept : goal.returns-then-not-is_halted-clause-kept
returns-then-not-is_halted-clause-kept c plan history job worker id io next at kind write planned halted was =
    let whole : ended_whole (Some c.args.outcome) ≡ true = search rules in
    let probe : is_probe c.args.ticket.now.kind ≡ true = search rules in
    let is : c.args.outcome ≡ Whole = whole_is c.args.outcome whole in
    subst (λ (o : Outcome). IsStanding (grown history (End worker id o)) job c.checked.new.self) (sym is)
    (c.checked.ensures.kept plan history job worker id io (subst (λ (o : Outcome). IsNext plan history (End worker id o)) is next) at
    (ap is_probe kind ∙ probe) write (sym (ap (λ (w : WriteId). clone_of plan w.clone) write) ∙ planned)
    (sym halted ∙ c.if-not-is_halted.true) was)

pub returns-else-eq-clause-kept : goal.returns-else-eq-clause-kept
returns-else-eq-clause-kept c plan history job worker id io next at kind write planned halted was =
    let there = own_place plan io.write.clone job next.planned planned in
    elim c.else-eq.branch [
      | else-eq-via-then-eq+then-eq-2+else-not-is_halted w ↦
          stays_end_halted plan history job c.args.standing.now was worker id c.args.outcome io next there at
          (sym halted ∙ w.if-not-is_halted.false)
      | else-eq-via-then-eq+else-eq-2 w ↦
          let broken : ended_whole (Some c.args.outcome) ≡ false = search rules in
          stays_end_fault plan history job c.args.standing.now was worker id c.args.outcome io next there at broken
      | else-eq-via-else-eq w ↦
          let other : is_probe c.args.ticket.now.kind ≡ false = search rules in
          stays_end_issue plan history job c.args.standing.now was worker id c.args.outcome io next there at (ap is_probe kind ∙ other)
    ]
