-- The lines of what is left of the clones and their totals.
use Rattle.std.proofs.Common.{◌≡◌, ℕ, ◌+◌, ◌<◌, ◌≤◌, min, List, [], ◌∷◌, ◌++◌, length, get_or, drop, refl}
use Rattle.std.specs.Prelude.{Some, slice_get}
use Rattle.jr_model.specs.declared.totals.Totals.{Totals}
use Rattle.jr_model.specs.Plan.{SubJob}
use Rattle.jr_model.specs.Report.{lines_of, totals_line}
use Rattle.jr_desk_totals.proofs.SideBySide.{next_of_both, none_of_both}

-- the next line, and those after it
pub lines_of_more : (jobs : List SubJob) (totals : List Totals) (i : ℕ) (job : SubJob) (d : Totals) → slice_get jobs i ≡ Some job
    → i < length totals
    → lines_of (drop i jobs) (drop i totals) ≡ totals_line job (get_or totals i d) ++ lines_of (drop (i + 1) jobs) (drop (i + 1) totals)
lines_of_more = next_of_both lines_of (λ job t rest. totals_line job t ++ rest) (λ job jobs t totals. refl)

-- there are none past the shorter of the two
pub lines_of_none : (jobs : List SubJob) (totals : List Totals) (i : ℕ) → min (length jobs) (length totals) ≤ i
    → lines_of (drop i jobs) (drop i totals) ≡ []
lines_of_none = none_of_both lines_of [] (λ totals. refl) without
  where
    without : (jobs : List SubJob) → lines_of jobs [] ≡ []
    without [] = refl
    without (job ∷ jobs) = refl
