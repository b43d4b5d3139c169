use Rattle.jr_laws_quiet.proofs.quiet.nothing_races.Goals as goal
use Rattle.jr_laws_quiet.proofs.Races.{unraced}

pub returns : goal.returns
returns c = λ plan history io planned none legal. unraced plan (λ i job at. (planned.drafted.placed i job at).number) none history legal io
