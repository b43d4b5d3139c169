use Rattle.std.proofs.Common.{sym, ◌∙◌}
use Rattle.jr_desk.proofs.Playing.{end_stranger, end_twice, end_open}
use Rattle.jr_desk.proofs.plays.Player.open_ticket.Goals as goal

pub returns-in_default-clause-refused : goal.returns-in_default-clause-refused
returns-in_default-clause-refused c =
    end_stranger c.args.self.now c.args.io (sym c.is_stopped.ensures ∙ c.if-is_stopped.false) (sym c.ticket_at.ensures ∙ c.in_default.is)

pub returns-then-has_ended-clause-refused : goal.returns-then-has_ended-clause-refused
returns-then-has_ended-clause-refused c =
    end_twice c.args.self.now c.args.io _ (sym c.is_stopped.ensures ∙ c.if-is_stopped.false) (sym c.ticket_at.ensures ∙ c.in-Some.is)
    (sym c.has_ended.ensures ∙ c.if-has_ended.true)

pub returns-clause-open : goal.returns-clause-open
returns-clause-open c =
    end_open c.args.self.now c.args.io _ (sym c.is_stopped.ensures ∙ c.if-is_stopped.false) (sym c.ticket_at.ensures ∙ c.in-Some.is)
    (sym c.has_ended.ensures ∙ c.if-has_ended.false)
