-- What is in flight under the number is what began last, or one of the others.
use Rattle.std.proofs.Common.{◌≡◌, Some, sym, ap, ◌∙◌}
use Rattle.std.proofs.lemmas.Option.{same_Some}
use Rattle.jr_flight.specs.declared.ios.Ended.{Ended}
use Rattle.jr_desk_state.proofs.flying.Flying.has_raced.Goals as goal
use Rattle.jr_desk_state.proofs.flying.Flying.has_raced.Goals.{in_default-via-in-Some+else-ended-id, in_default-via-in_default}
use Rattle.jr_desk_state.proofs.FlyingMoves.{raced_begun, raced_other_flying}

pub returns-in-Some : goal.returns-in-Some
returns-in-Some c plan history was flying =
    raced_begun plan history c.args.id c.in-Some.ended c.args.self.now c.in-Some.is c.if-ended-id.true was flying

pub returns-in_default : goal.returns-in_default
returns-in_default c plan history was flying =
    let other : (ended : Ended) → c.args.self.now.begun ≡ Some ended → ended.io.id ≡ c.args.id → ⊥ =
    elim c.in_default.branch [
      | in_default-via-in-Some+else-ended-id w ↦
          λ ended is same. w.if-ended-id.false (ap (λ (x : Ended). x.io.id) (same_Some w.in-Some.ended ended (sym w.in-Some.is ∙ is)) ∙ same)
      | in_default-via-in_default w ↦ λ ended is same. w.in_default.not-Some ended is
    ] in
    c.raced.ensures ∙ raced_other_flying plan history c.args.id c.args.self.now other was flying
