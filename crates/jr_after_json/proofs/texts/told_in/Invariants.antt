use Rattle.std.proofs.Common.{◌≡◌, flat_map, take}
use Rattle.jr_after_json.specs.Json.{told_in}
use Rattle.jr_after_json.proofs.texts.told_in.Given as goal

abbrev pub invariant-loop-one : goal.invariant-loop-one
invariant-loop-one l = l.told.items ≡ flat_map told_in (take l.one-index l.found)
