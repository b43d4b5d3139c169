-- The lines of bad verdicts, one after another.
use Rattle.std.proofs.Common.{◌≡◌, ℕ, List, ◌++◌, sym, ap, ◌∙◌, append_assoc}
use Rattle.std.specs.Prelude.{flat_map, map}
use Rattle.std.proofs.lemmas.List.Folds.{flat_map-map}
use Rattle.jr_model.specs.declared.events.Event.{Event}
use Rattle.jr_model.specs.declared.totals.Totals.{Totals}
use Rattle.jr_model.specs.Plan.{Plan}
use Rattle.jr_model.specs.Report.{all_totals, in_order, miscompare_line, miscompares, report_of, totals_lines}
use Rattle.jr_report_lines.specs.Miscompares.{bad_line}
use Rattle.jr_desk_totals.specs.declared.tallies.Bad.{Bad}
use Rattle.jr_desk_totals.specs.Bads.{miscompare_of}

-- the parts of a line, one after another
pub chained : (t0 t1 t2 t3 t4 t5 t6 m a b w k n : List ℕ) → t1 ≡ t0 ++ m → t2 ≡ t1 ++ a → t3 ≡ t2 ++ b → t4 ≡ t3 ++ w → t5 ≡ t4 ++ k → t6 ≡ t5 ++ n → t6 ≡ t0 ++ m ++ a ++ b ++ w ++ k ++ n
chained t0 t1 t2 t3 t4 t5 t6 m a b w k n e1 e2 e3 e4 e5 e6 =
    e6 ∙ ap (λ (t : List ℕ). t ++ n) (e5 ∙ ap (λ (t : List ℕ). t ++ k) (e4 ∙ ap (λ (t : List ℕ). t ++ w) (e3 ∙ ap (λ (t : List ℕ). t ++ b) (e2 ∙ ap (λ (t : List ℕ). t ++ a) e1))))

-- and in another grouping
pub regrouped : (t m c p u f g o l w k n : List ℕ) → t ++ m ++ (c ++ p ++ u) ++ (f ++ g ++ o ++ l) ++ w ++ k ++ n ≡ t ++ (m ++ c ++ p ++ u ++ f ++ g ++ o ++ l ++ w ++ k ++ n)
regrouped t m c p u f g o l w k n = simp append_assoc

-- the lines of all clones, and those of the bad verdicts in order
pub report_lines : (plan given : Plan) (history : List Event) (totals : List Totals) (bads : List Bad) (start whole : List ℕ) → given ≡ plan
    → totals ≡ all_totals plan history → start ≡ totals_lines given totals
    → map miscompare_of bads ≡ in_order plan (miscompares history) → whole ≡ start ++ flat_map (bad_line given) bads
    → whole ≡ report_of plan history
report_lines plan given history totals bads start whole same counted first sorted last =
    last
    ∙ ap (λ (t : List ℕ). t ++ flat_map (bad_line given) bads) first
    ∙ ap (λ (p : Plan). totals_lines p totals ++ flat_map (bad_line p) bads) same
    ∙ ap (λ (ts : List Totals). totals_lines plan ts ++ flat_map (bad_line plan) bads) counted
    ∙ ap (λ (t : List ℕ). totals_lines plan (all_totals plan history) ++ t)
    (sym (flat_map-map (miscompare_line plan) miscompare_of bads) ∙ ap (flat_map (miscompare_line plan)) sorted)
