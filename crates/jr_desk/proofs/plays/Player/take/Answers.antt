use Rattle.jr_desk.proofs.Playing.{take_goes_on}
use Rattle.jr_desk.proofs.plays.Player.take.Goals as goal

pub returns-in-Ok : goal.returns-in-Ok
returns-in-Ok c =
    let said = c.in-Ok.ensures in
    take_goes_on c.args.self.now c.args.worker c.take.new.self c.in-Ok.take c.reply_for.result c.requires c.reply_for.ensures said.plan said.stop said.stopped said.taken
