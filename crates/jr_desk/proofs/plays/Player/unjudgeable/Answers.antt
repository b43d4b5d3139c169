use Rattle.std.proofs.Common.{sym, ◌∙◌}
use Rattle.jr_desk.proofs.Playing.{none_there, some_there, judge_stranger, judge_wrong_kind}
use Rattle.jr_desk.proofs.plays.Player.unjudgeable.Goals as goal

pub returns-then-is_none : goal.returns-then-is_none
returns-then-is_none c =
    judge_stranger c.args.self.now c.args.io (sym c.is_stopped.ensures ∙ c.if-is_stopped.false)
    (sym c.ticket_at.ensures ∙ none_there c.ticket_at.result c.if-is_none.ensures)

pub returns-else-is_none : goal.returns-else-is_none
returns-else-is_none c =
    let there = some_there c.ticket_at.result c.if-is_none.ensures in
    judge_wrong_kind c.args.self.now c.args.io there.0 c.requires.ready c.requires.nothing (sym c.is_stopped.ensures ∙ c.if-is_stopped.false)
    (sym c.ticket_at.ensures ∙ there.1)
