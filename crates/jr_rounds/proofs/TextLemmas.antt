-- What is printed, piece by piece.
use Rattle.std.proofs.Common.{◌≡◌, ℕ, zero, suc, ◌+◌, ◌<◌, ◌≤◌, min, List, [], ◌∷◌, ◌++◌, length, get_or, drop, Option, Some, None}
use Rattle.std.proofs.Common.{slice_get, Bool, true, if◌then◌else◌, refl, ap, sym, ◌∙◌, arith, add-one, append-nil, append_assoc}
use Rattle.std.specs.Io.KnownBytes.{Appends}
use Rattle.jr_model.specs.declared.totals.Totals.{Totals}
use Rattle.jr_model.specs.declared.events.Event.{Event}
use Rattle.jr_model.specs.Plan.{Plan, SubJob}
use Rattle.jr_model.specs.Report.{report_of}
use Rattle.jr_rounds.specs.Rounds.{is_told, round_header, run_text, sums_line, sums_lines}

-- nothing is written
pub appends_nothing : (u : Option (List ℕ)) → Appends u u []
appends_nothing None = tt
appends_nothing (Some xs) = sym (append-nil xs)

-- two texts are written, one after the other
pub appends_both : (u v w : Option (List ℕ)) (a b : List ℕ) → Appends u v a → Appends v w b → Appends u w (a ++ b)
appends_both None v w a b x y = tt
appends_both (Some xs) None w a b x y = absurd x
appends_both (Some xs) (Some ys) None a b x y = absurd y
appends_both (Some xs) (Some ys) (Some zs) a b x y = y ∙ ap (λ (t : List ℕ). t ++ b) x ∙ append_assoc xs a b

-- what is printed of a round that is told
pub told_text : (number : ℕ) (plan : Plan) (history : List Event) (is_last : Bool) → is_told plan history is_last ≡ true
    → round_header number ++ report_of plan history ≡ run_text number plan history is_last
told_text number plan history is_last h =
    ap (λ (told : Bool). if told then round_header number ++ report_of plan history else []) (sym h)

-- the next line of the sums, and those after it
next_line : (n : ℕ) (jobs : List SubJob) (sums : List Totals) (i : ℕ) (job : SubJob) (d : Totals) → slice_get jobs i ≡ Some job
    → i < length sums → sums_lines n (drop i jobs) (drop i sums) ≡ sums_line n job (get_or sums i d) ++ sums_lines n (drop (suc i) jobs)
    (drop (suc i) sums)
next_line n [] sums i job d at within = cc
next_line n (first ∷ jobs) [] i job d at within = absurd (omega arith)
next_line n (first ∷ jobs) (t ∷ sums) zero job d at within =
    ap (λ (j : SubJob). sums_line n j t ++ sums_lines n jobs sums) (same first job at)
  where
    same : (a b : SubJob) → Some a ≡ Some b → a ≡ b
    same a b h = cc
next_line n (first ∷ jobs) (t ∷ sums) (suc i) job d at within = next_line n jobs sums i job d at (omega arith)

pub sums_line_more : (n : ℕ) (jobs : List SubJob) (sums : List Totals) (i : ℕ) (job : SubJob) (d : Totals) → slice_get jobs i ≡ Some job
    → i < length sums → sums_lines n (drop i jobs) (drop i sums) ≡ sums_line n job (get_or sums i d) ++ sums_lines n (drop (i + 1) jobs)
    (drop (i + 1) sums)
sums_line_more n jobs sums i job d at within = rw add-one (next_line n jobs sums i job d at within)

-- there are none past the shorter of the two
pub no_line_more : (n : ℕ) (jobs : List SubJob) (sums : List Totals) (i : ℕ) → min (length jobs) (length sums) ≤ i
    → sums_lines n (drop i jobs) (drop i sums) ≡ []
no_line_more n [] sums zero h = refl
no_line_more n [] sums (suc i) h = refl
no_line_more n (job ∷ jobs) [] zero h = refl
no_line_more n (job ∷ jobs) [] (suc i) h = nothing n (drop i jobs)
  where
    nothing : (n : ℕ) (rest : List SubJob) → sums_lines n rest [] ≡ []
    nothing n [] = refl
    nothing n (j ∷ rest) = refl
no_line_more n (job ∷ jobs) (t ∷ sums) zero h = absurd (omega arith)
no_line_more n (job ∷ jobs) (t ∷ sums) (suc i) h = no_line_more n jobs sums i (omega arith)
