-- A chunk is a fault where the counts say so.
use Rattle.std.proofs.Common.{◌≡◌, ℕ, ◌+◌, List, [], ◌∷◌, true, false, refl, ap, ◌∙◌, zero-add}
use Rattle.std.specs.Prelude.{Bool, cond, not, ◌==◌, ◌&&◌, ◌||◌}
use Rattle.std.specs.List.{list_any}
use Rattle.std.proofs.lemmas.List.Sums.{sum_by-cons}
use Rattle.jr_model.proofs.NumberLemmas.{one_more_is_some}
use Rattle.jr_after_report.specs.declared.lines.Judged.{Judged}
use Rattle.jr_after_report.specs.Counting.{is_lost, is_broken, is_fault, counts_of}

and_false : (b : Bool) → not (b && false) ≡ true
and_false true = refl
and_false false = refl

fault_step : (p q : Bool) (m n : ℕ) (any : Bool) → not ((m == 0) && (n == 0)) ≡ any → not ((cond p 1 0 + m == 0) && (cond q 1 0 + n == 0)) ≡ ((p || q) || any)
fault_step true q m n any h = ap (λ (b : Bool). not (b && (cond q 1 0 + n == 0))) (one_more_is_some m)
fault_step false true m n any h = ap (λ (b : Bool). not ((0 + m == 0) && b)) (one_more_is_some n) ∙ and_false (0 + m == 0)
fault_step false false m n any h =
    ap (λ (k : ℕ). not ((k == 0) && (0 + n == 0))) (zero-add m) ∙ ap (λ (k : ℕ). not ((m == 0) && (k == 0))) (zero-add n) ∙ h

counted_one : (lost broken : ℕ) (m n : ℕ) → lost ≡ m → broken ≡ n → not ((lost == 0) && (broken == 0)) ≡ not ((m == 0) && (n == 0))
counted_one lost broken m n e f = ap (λ (k : ℕ). not ((k == 0) && (broken == 0))) e ∙ ap (λ (k : ℕ). not ((m == 0) && (k == 0))) f

abbrev lost_number : Judged → ℕ
lost_number one = cond (is_lost one.finding) 1 0

abbrev broken_number : Judged → ℕ
broken_number one = cond (is_broken one.finding) 1 0

pub faults_counted : (found : List Judged) → not (((counts_of found).lost == 0) && ((counts_of found).broken == 0)) ≡ list_any is_fault found
faults_counted [] = refl
faults_counted (one ∷ found) =
    counted_one _ _ (lost_number one + (counts_of found).lost) (broken_number one + (counts_of found).broken) (sum_by-cons lost_number one found) (sum_by-cons broken_number one found)
    ∙ fault_step (is_lost one.finding) (is_broken one.finding) (counts_of found).lost (counts_of found).broken (list_any is_fault found) (faults_counted found)
