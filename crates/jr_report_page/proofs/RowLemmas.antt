-- Rows, one after another.
use Rattle.std.proofs.Common.{◌≡◌, ℕ, ◌+◌, ◌<◌, ◌≤◌, min, List, [], ◌∷◌, ◌++◌, length, get_or, drop, refl, ap, ◌∙◌, append_assoc}
use Rattle.std.specs.Prelude.{Some, slice_get}
use Rattle.jr_model.specs.declared.totals.Totals.{Totals}
use Rattle.jr_model.specs.Plan.{SubJob}
use Rattle.jr_desk_totals.proofs.SideBySide.{next_of_both, none_of_both}
use Rattle.jr_report_json.proofs.Members.{five_more}
use Rattle.jr_report_page.specs.Rows.{totals_row, totals_rows}

-- the next row of totals, and those after it
pub totals_more : (jobs : List SubJob) (totals : List Totals) (i : ℕ) (job : SubJob) (d : Totals) → slice_get jobs i ≡ Some job → i < length totals
    → totals_rows (drop i jobs) (drop i totals) ≡ totals_row job (get_or totals i d) ++ totals_rows (drop (i + 1) jobs) (drop (i + 1) totals)
totals_more = next_of_both totals_rows (λ job t rest. totals_row job t ++ rest) (λ job jobs t totals. refl)

-- there are none past the shorter of the two
pub totals_none : (jobs : List SubJob) (totals : List Totals) (i : ℕ) → min (length jobs) (length totals) ≤ i → totals_rows (drop i jobs) (drop i totals) ≡ []
totals_none = none_of_both totals_rows [] (λ totals. refl) without
  where
    without : (jobs : List SubJob) → totals_rows jobs [] ≡ []
    without [] = refl
    without (job ∷ jobs) = refl

-- six of them
pub added_six : (t0 t1 t2 t3 t4 t5 t6 a b c d e f : List ℕ) → t1 ≡ t0 ++ a → t2 ≡ t1 ++ b → t3 ≡ t2 ++ c → t4 ≡ t3 ++ d → t5 ≡ t4 ++ e
    → t6 ≡ t5 ++ f → t6 ≡ t0 ++ (a ++ b ++ c ++ d ++ e ++ f)
added_six t0 t1 t2 t3 t4 t5 t6 a b c d e f e1 e2 e3 e4 e5 e6 =
    e6
    ∙ ap (λ (t : List ℕ). t ++ f) (five_more t0 t1 t2 t3 t4 t5 a b c d e e1 e2 e3 e4 e5)
    ∙ simp append_assoc

-- seven of them
pub added_seven : (t0 t1 t2 t3 t4 t5 t6 t7 a b c d e f g : List ℕ) → t1 ≡ t0 ++ a → t2 ≡ t1 ++ b → t3 ≡ t2 ++ c → t4 ≡ t3 ++ d → t5 ≡ t4 ++ e
    → t6 ≡ t5 ++ f → t7 ≡ t6 ++ g → t7 ≡ t0 ++ (a ++ b ++ c ++ d ++ e ++ f ++ g)
added_seven t0 t1 t2 t3 t4 t5 t6 t7 a b c d e f g e1 e2 e3 e4 e5 e6 e7 =
    e7
    ∙ ap (λ (t : List ℕ). t ++ g) (added_six t0 t1 t2 t3 t4 t5 t6 a b c d e f e1 e2 e3 e4 e5 e6)
    ∙ simp append_assoc
