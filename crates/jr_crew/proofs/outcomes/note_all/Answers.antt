use Rattle.std.proofs.Common.{Bool, ◌∙◌, ap}
use Rattle.std.specs.Prelude.{◌&&◌}
use Rattle.jr_header.specs.Served.{is_to_judge}
use Rattle.jr_crew.proofs.Worked.{done_next, said_by}
use Rattle.jr_crew.proofs.outcomes.note_all.Goals as goal

pub loop-one-preserved : goal.loop-one-preserved
loop-one-preserved c =
    let one = c.one-item.result in
    let judged = one.judged ∙ ap (λ (here : Bool). here && is_to_judge one.served.now) (c.is_same_flag.ensures c.if-not-is_same_flag.false) in
    done_next c.args.inline (λ told. told.served.now) c.args.told.now c.loop-one.one-index one _ c.loop-one.book c.push.new.self _
    c.loop-one-test.true c.one-item.is c.loop-one.invariant
    (record { ticket = c.ticket.ensures.value; outcome = c.outcome.ensures.value; verdict = said_by c.args.inline one.served.now one.said judged one.saying })
    c.in_ok-push.ensures.ok
