use Rattle.std.proofs.Common.{◌≡◌, take, string_bytes}
use Rattle.jr_system.specs.Signs.{signs_of}
use Rattle.jr_system.proofs.signs.signs_of.Given as goal

abbrev pub invariant-loop-fate : goal.invariant-loop-fate
invariant-loop-fate l = string_bytes l.signs ≡ signs_of (take l.fate-index l.row)
