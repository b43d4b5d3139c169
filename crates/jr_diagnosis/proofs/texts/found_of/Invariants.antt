use Rattle.std.proofs.Common.{◌≡◌, drop, map}
use Rattle.jr_diagnosis.specs.Rulings.{told}
use Rattle.jr_diagnosis.specs.Texts.{told_of_write}
use Rattle.jr_diagnosis.proofs.texts.found_of.Given as goal

-- it is among those still to come
abbrev pub invariant-loop-found : goal.invariant-loop-found
invariant-loop-found l = told_of_write (map told (drop l.found-index l.all)) l.write ≡ told_of_write (map told l.all) l.write
