use Rattle.std.proofs.Common.{◌*◌, min}
use Rattle.jr_map.specs.Words.{is_set, Adds}
use Rattle.jr_map.proofs.words.set_bits.Given as goal

abbrev pub invariant-loop-i : goal.invariant-loop-i
invariant-loop-i l = Adds is_set l.initial.words l.words l.start (min l.end (64 * l.i))
