use Rattle.jr_report_outputs.specs.Spots.{MeetsNone}
use Rattle.jr_report_outputs.proofs.spots.met_by.Given as goal

-- none of the places so far is the spot
abbrev pub invariant-loop-place : goal.invariant-loop-place
invariant-loop-place l = MeetsNone l.spot l.others l.place
