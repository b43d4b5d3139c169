-- Believed: what the clones of a job did in a round whose clones are parts of them (of this project).
use Rattle.std.specs.Prelude.{ℕ, ◌==◌, List, [], ◌∷◌, map, if◌then◌else◌}
use Rattle.std.specs.List.{range_with_len}
use Rattle.jr_model.specs.declared.totals.Totals.{Totals}
use Rattle.jr_rounds.specs.Sums.{sum_of}

-- those of these totals that are of parts of clone c, where each part is of this clone
abbrev pub of_original : ℕ → List ℕ → List Totals → List Totals
of_original c [] totals = []
of_original c (original ∷ originals) [] = []
of_original c (original ∷ originals) (t ∷ totals) =
    if original == c then t ∷ of_original c originals totals else of_original c originals totals

-- the sums of each of so many clones
abbrev pub totals_by_original : ℕ → List ℕ → List Totals → List Totals
totals_by_original clones originals totals = map (λ c. sum_of (of_original c originals totals)) (range_with_len 0 clones)
