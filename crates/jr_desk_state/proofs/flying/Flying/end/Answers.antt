-- What ends is what began last, or one of the others.
use Rattle.std.proofs.Common.{◌≡◌, List, ℕ, Some, sym, ap, subst, ◌∙◌}
use Rattle.std.proofs.lemmas.Option.{same_Some}
use Rattle.jr_model.specs.declared.events.Event.TheVariants.{End}
use Rattle.jr_flight.specs.declared.ios.Ended.{Ended}
use Rattle.jr_laws_steps.specs.Nexts.{grown}
use Rattle.jr_desk_state.specs.Flyings.{IsFlying}
use Rattle.jr_desk_state.proofs.flying.Flying.end.Goals as goal
use Rattle.jr_desk_state.proofs.flying.Flying.end.Goals.{in_default-via-in-Some+else-ended-id, in_default-via-in_default}
use Rattle.jr_desk_state.proofs.FlyingMoves.{flying_end_begun, flying_end_other}

pub returns-in-Some : goal.returns-in-Some
returns-in-Some c plan history worker outcome next was =
    flying_end_begun plan history worker c.args.id outcome c.in-Some.ended c.args.self.now c.in-Some.is c.if-ended-id.true was

pub returns-in_default : goal.returns-in_default
returns-in_default c plan history worker outcome next was =
    let other : (ended : Ended) → c.args.self.now.begun ≡ Some ended → ended.io.id ≡ c.args.id → ⊥ =
    elim c.in_default.branch [
      | in_default-via-in-Some+else-ended-id w ↦
          λ ended is same. w.if-ended-id.false (ap (λ (x : Ended). x.io.id) (same_Some w.in-Some.ended ended (sym w.in-Some.is ∙ is)) ∙ same)
      | in_default-via-in_default w ↦ λ ended is same. w.in_default.not-Some ended is
    ] in
    subst
    (λ (es : List (ℕ × Ended)).
    IsFlying plan (grown history (End worker c.args.id outcome)) (record { flight = es; begun = c.args.self.now.begun }))
    (sym c.end-ended.ensures.entries) (flying_end_other plan history worker c.args.id outcome c.args.self.now other was)
