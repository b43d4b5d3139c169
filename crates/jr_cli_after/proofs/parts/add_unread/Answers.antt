use Rattle.std.proofs.Common.{◌≡◌, ◌++◌, subst}
use Rattle.std.specs.Prelude.{OnOk}
use Rattle.jr_model.specs.Plan.{Plan}
use Rattle.jr_cli_after.specs.Found.{unread_line}
use Rattle.jr_cli_after.proofs.Adding.{unread_when_ok}
use Rattle.jr_cli_after.proofs.parts.add_unread.Goals as goal

pub returns : goal.returns
returns c =
    unread_when_ok c.add_unread.result c.args.judge.now c.args.chunk.now c.args.bytes.now c.args.told.now c.add_unread.new.self c.add_unread.ensures.found c.add_unread.ensures.count
    (subst (λ (p : Plan). OnOk c.add_unread.result (c.add_unread.new.self.unread.lines ≡ c.args.told.now.unread.lines ++ unread_line p c.args.chunk.now)) c.plan.ensures c.add_unread.ensures.lines)
    c.add_unread.ensures.chunks
