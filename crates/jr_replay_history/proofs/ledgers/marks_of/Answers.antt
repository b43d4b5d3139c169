use Rattle.std.proofs.Common.{List, take, sym, subst, arith, length-take}
use Rattle.std.proofs.lemmas.List.{take_all, take_more}
use Rattle.jr_model.specs.declared.events.Event.{Event}
use Rattle.jr_replay_history.specs.Marks.{IsMarked}
use Rattle.jr_replay_history.proofs.MarkLemmas.{few_issued, marked_more}
use Rattle.jr_replay_history.proofs.ledgers.marks_of.Goals as goal

pub mark-requires : goal.mark-requires
mark-requires c = λ key.
    let before : List Event = take c.loop-event.event-index c.args.events.now in
    let few = few_issued c.args.ios.now before c.loop-event.marks key c.loop-event.invariant in
    let size = length-take c.loop-event.event-index c.args.events.now in
    omega (arith, few, size)

pub loop-event-init : goal.loop-event-init
loop-event-init c = c.new-marks.ensures c.args.ios.now

pub loop-event-preserved : goal.loop-event-preserved
loop-event-preserved c =
    let before : List Event = take c.loop-event.event-index c.args.events.now in
    subst (λ (events : List Event). IsMarked c.args.ios.now events c.mark.new.marks)
    (sym (take_more c.args.events.now c.loop-event.event-index _ c.loop-event-test.true))
    (marked_more c.args.ios.now before _ c.loop-event.marks c.mark.new.marks c.loop-event.invariant c.in_ok-mark.ensures)

pub returns : goal.returns
returns c =
    subst (λ (events : List Event). IsMarked c.args.ios.now events c.loop-event.marks)
    (take_all c.loop-event.event-index c.args.events.now (omega arith))
    c.loop-event.invariant
