-- Believed: the first of some bad verdicts that is over a byte of a cell of a map (of this project).
use Rattle.std.specs.Prelude.{ℕ, Bool, List, Option}
use Rattle.std.specs.List.{find}
use Rattle.jr_model.specs.Plan.{Plan}
use Rattle.jr_report_maps.specs.BadBlocks.{is_bad_at}
use Rattle.jr_desk_totals.specs.declared.tallies.Bad.{Bad}
use Rattle.jr_desk_totals.specs.Bads.{miscompare_of}

abbrev pub is_bad_over : Plan → ℕ → ℕ → ℕ → Bad → Bool
is_bad_over plan file size cell bad = is_bad_at plan file size cell (miscompare_of bad)

abbrev pub first_bad : Plan → List Bad → ℕ → ℕ → ℕ → Option Bad
first_bad plan bads file size cell = find (is_bad_over plan file size cell) bads
