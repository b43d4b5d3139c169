use Rattle.std.proofs.Common.{ap}
use Rattle.std.proofs.lemmas.List.Elements.{All-push, All-same}
use Rattle.jr_model.specs.declared.tickets.Ticket.{Ticket}
use Rattle.jr_crew_threads.specs.Judging.{IsSaidOfOne}
use Rattle.jr_crew_threads.proofs.PartLemmas.{check_at}
use Rattle.jr_crew.proofs.outcomes.note_said.Goals as goal

pub loop-one-preserved : goal.loop-one-preserved
loop-one-preserved c parcels checks old =
    let one = c.one-item.result in
    All-same (IsSaidOfOne parcels) c.push.new.all.items _ c.in_ok-push.ensures.ok
    (All-push (IsSaidOfOne parcels) c.loop-one.book.items _ (c.loop-one.invariant parcels checks old) (record {
      answer = one.served.now;
      among = check_at (λ told. told.served.now) parcels c.args.told.now c.loop-one.one-index one c.loop-one-test.true c.one-item.is checks;
      number = ap (λ (t : Ticket). t.id) c.ticket.ensures.value;
      says = one.saying c.in-Some.verdict c.in-Some.is;
    }))
