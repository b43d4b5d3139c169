use Rattle.std.proofs.Common.{◌≡◌, take, map}
use Rattle.jr_cli_after.specs.Sharing.{found_of}
use Rattle.jr_cli_after.proofs.found.found_in_turn.Given as goal

-- those so far
abbrev pub invariant-loop-part : goal.invariant-loop-part
invariant-loop-part l = l.found.items ≡ map found_of (take l.part-index l.parts)
