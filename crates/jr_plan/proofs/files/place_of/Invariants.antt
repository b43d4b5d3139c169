use Rattle.std.proofs.Common.{◌≡◌, ◌+◌, drop}
use Rattle.jr_plan.specs.Files.{file_place}
use Rattle.jr_plan.proofs.files.place_of.Given as goal

-- no file so far has the name
abbrev pub invariant-loop-i : goal.invariant-loop-i
invariant-loop-i l = l.i + file_place (drop l.i l.files) l.name ≡ file_place l.files l.name
