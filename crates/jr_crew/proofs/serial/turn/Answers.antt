use Rattle.jr_crew.proofs.Handing.{never_waits, handed_io, handed_probe, handed_open, turn_of}
use Rattle.jr_crew.proofs.serial.turn.Goals as goal

pub unreachable-requires : goal.unreachable-requires
unreachable-requires g c =
    let said = rw c.in-Ok-Wait.field-0-is at c.in-Ok-Wait.ensures in
    never_waits c.args.desk.now.plan c.args.desk.now.history c.take.new.self.history c.requires.between.settled
    (said.taken c.requires.between.going) said.waits

pub carry_out-requires-clause-open : goal.carry_out-requires-clause-open
carry_out-requires-clause-open g c =
    let said = rw c.in-Ok-Io.field-0-is at c.in-Ok-Io.ensures in
    handed_open c.args.desk.now c.take.new.self c.in-Ok-Io.ticket c.requires.between
    (handed_io c.args.desk.now.plan c.args.desk.now.history c.take.new.self.history c.in-Ok-Io.ticket (said.taken c.requires.between.going))
    c.take.ensures.plan c.take.ensures.stop said.fits said.own

pub carry_out-requires-in-Ok-Probe-clause-open : goal.carry_out-requires-in-Ok-Probe-clause-open
carry_out-requires-in-Ok-Probe-clause-open g c =
    let said = rw c.in-Ok-Probe.field-0-is at c.in-Ok-Probe.ensures in
    handed_open c.args.desk.now c.take.new.self c.in-Ok-Probe.ticket c.requires.between
    (handed_probe c.args.desk.now.plan c.args.desk.now.history c.take.new.self.history c.in-Ok-Probe.ticket (said.taken c.requires.between.going))
    c.take.ensures.plan c.take.ensures.stop said.fits said.own

pub returns-in_ok-carry_out-in-Ok-Probe-clause-turn : goal.returns-in_ok-carry_out-in-Ok-Probe-clause-turn
returns-in_ok-carry_out-in-Ok-Probe-clause-turn g c =
    let said = rw c.in-Ok-Probe.field-0-is at c.in-Ok-Probe.ensures in
    turn_of c.args.desk.now.plan c.args.desk.now.history c.take.new.self.history c.carry_out-in-Ok-Probe.new.desk.history c.in-Ok-Probe.ticket _ _
    (handed_probe c.args.desk.now.plan c.args.desk.now.history c.take.new.self.history c.in-Ok-Probe.ticket (said.taken c.requires.between.going))
    c.in_ok-carry_out-in-Ok-Probe.ensures.ok
