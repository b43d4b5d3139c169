use Rattle.std.proofs.Common.{subst}
use Rattle.jr_crew.specs.Working.{CanStart}
use Rattle.jr_crew.proofs.Worked.{taken}
use Rattle.jr_crew.proofs.held.Shared.take_share.Goals as goal

pub returns-then-taken-share-clause-next : goal.returns-then-taken-share-clause-next
returns-then-taken-share-clause-next g c =
    taken c.loop-taken.tickets.items c.push.new.all.items c.in-Ticket.ticket c.loop-taken.invariant
    (subst CanStart c.in-Ticket.is c.in_ok-ticket.ensures.can)
    c.in_ok-push-in-Ticket.ensures.ok

pub loop-taken-preserved : goal.loop-taken-preserved
loop-taken-preserved g c =
    taken c.loop-taken.tickets.items c.push.new.all.items c.in-Ticket.ticket c.loop-taken.invariant
    (subst CanStart c.in-Ticket.is c.in_ok-ticket.ensures.can)
    c.in_ok-push-in-Ticket.ensures.ok
