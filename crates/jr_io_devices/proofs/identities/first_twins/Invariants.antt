use Rattle.jr_io_devices.specs.Identities.{AreApart}
use Rattle.jr_io_devices.proofs.identities.first_twins.Given as goal

abbrev pub invariant-loop-second : goal.invariant-loop-second
invariant-loop-second l = AreApart l.files l.second
