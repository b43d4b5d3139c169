-- Believed: by which sign a map shows what happened to a part of a file (of this project).
use Rattle.std.specs.Prelude.{ℕ, List, map}
use Rattle.jr_report_maps.specs.declared.fates.Fate.{Fate}
use Rattle.jr_report_maps.specs.declared.fates.Fate.TheVariants as fate

-- `.` untouched, `r` read, `g` good, `s` skipped, `u` unchecked, `v` void, `F` fault, `B` bad
abbrev pub sign_of : Fate → ℕ
sign_of fate.Untouched = 46
sign_of fate.Read = 114
sign_of fate.Good = 103
sign_of fate.Skipped = 115
sign_of fate.Unchecked = 117
sign_of fate.Void = 118
sign_of fate.Fault = 70
sign_of fate.Bad = 66

-- a row of a map
abbrev pub signs_of : List Fate → List ℕ
signs_of row = map sign_of row
