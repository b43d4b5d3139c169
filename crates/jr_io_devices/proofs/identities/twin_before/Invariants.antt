use Rattle.jr_io_devices.specs.Identities.{IsNewAmong}
use Rattle.jr_io_devices.proofs.identities.twin_before.Given as goal

abbrev pub invariant-loop-first : goal.invariant-loop-first
invariant-loop-first l = IsNewAmong l.files l.first l.place
