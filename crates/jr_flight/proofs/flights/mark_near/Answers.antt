use Rattle.std.proofs.Common.{◌≡◌, List, [], sym, ◌∙◌, ap}
use Rattle.std.specs.Map.Iter.{deref_pair}
use Rattle.std.proofs.lemmas.Map.Iter.{rest_all}
use Rattle.jr_flight.specs.declared.ios.Io.{Io}
use Rattle.jr_flight.specs.Places.{Place, near_piece}
use Rattle.jr_flight.proofs.MarkLemmas.{raced_in_turn, turn_hit, turn_of_own, turn_missed, raced_at_in_turn}
use Rattle.jr_flight.proofs.flights.mark_near.Goals as goal
use Rattle.jr_flight.proofs.flights.mark_near.Goals.{else-at-io-via-then-at-io+else-writes_over, else-at-io-via-else-at-io}

pub returns : goal.returns
returns c =
    let io = c.args.io.now in
    let left : c.loop-at.at-iterator ≡ [] = rest_all deref_pair _ _ _ c.in-None.is c.next.ensures.steps in
    ap (λ (others : List (Place × Io)). raced_in_turn io others c.loop-at.ids.entries) (sym left)
    ∙ c.loop-at.invariant
    ∙ raced_at_in_turn io (near_piece io.piece c.args.longest c.args.places.now.entries) c.args.ids.now.entries

pub loop-at-preserved-then-writes_over : goal.loop-at-preserved-then-writes_over
loop-at-preserved-then-writes_over c =
    let io = c.args.io.now in
    ap (raced_in_turn io c.next.new.self) c.set_raced.ensures
    ∙ turn_hit io (c.in-Some.at.now, c.in-Some.other.now) c.next.new.self c.loop-at.at-iterator c.loop-at.ids.entries c.if-at-io.true
    (sym c.if-writes_over.ensures) c.in-Some.ensures.steps
    ∙ c.loop-at.invariant

pub loop-at-preserved : goal.loop-at-preserved
loop-at-preserved c =
    let io = c.args.io.now in
    let other : Place × Io = (c.in-Some.at.now, c.in-Some.other.now) in
    elim c.else-at-io.branch [
      | else-at-io-via-then-at-io+else-writes_over w ↦
          turn_missed io other c.next.new.self c.loop-at.at-iterator c.loop-at.ids.entries (sym w.if-writes_over.ensures) c.in-Some.ensures.steps
          ∙ c.loop-at.invariant
      | else-at-io-via-else-at-io w ↦
          turn_of_own io other c.next.new.self c.loop-at.at-iterator c.loop-at.ids.entries w.if-at-io.false c.in-Some.ensures.steps
          ∙ c.loop-at.invariant
    ]
