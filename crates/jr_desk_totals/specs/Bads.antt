-- Believed: a bad verdict that is kept of a run, as its report has it (of this project).
use Rattle.jr_model.specs.Report.{Miscompare}
use Rattle.jr_desk_totals.specs.declared.tallies.Bad.{Bad}

abbrev pub miscompare_of : Bad → Miscompare
miscompare_of bad = record { write = bad.write; piece = bad.piece; what = bad.what }
