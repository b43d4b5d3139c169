-- An array that is written item by item.
use Rattle.std.proofs.Common.{◌≡◌, ℕ, zero, suc, ◌+◌, ◌<◌, ◌≤◌, min, Bool, true, false, cond, Option, Some, None, arith, add-one}
use Rattle.std.proofs.Common.{List, [], ◌∷◌, ◌++◌, length, get_or, drop, map, filter, append_assoc, refl, sym, ap, subst, ◌∙◌}
use Rattle.std.specs.Prelude.{slice_get, String}
use Rattle.std.specs.declared.alloc.Global.{Global}
use Rattle.serde_json.specs.Data.{Data}
use Rattle.serde_json.specs.Written.{compact_text}
use Rattle.jr_model.specs.declared.totals.Totals.{Totals}
use Rattle.jr_model.specs.Plan.{SubJob}
use Rattle.jr_desk_totals.proofs.SideBySide.{next_of_both, none_of_both}
use Rattle.jr_report_faults.specs.Faults.{NamedFault}
use Rattle.jr_report_json.specs.Json.{clone_json, clones_json, fault_json, faults_json}
use Rattle.jr_report_json.specs.Rows.{item_text, reason_at, rest_text, texts_of, told_by}

-- the next item, and those after it
next_item : (place : ℕ) (d : Data) (ds : List Data) → rest_text place (d ∷ ds) ≡ item_text place d ++ rest_text (suc place) ds
next_item place d ds = sym (append_assoc _ (compact_text d) (rest_text (suc place) ds))

-- the clones that are left
pub clones_more : (jobs : List SubJob) (totals : List Totals) (i : ℕ) (job : SubJob) (d : Totals) → slice_get jobs i ≡ Some job → i < length totals
    → rest_text i (clones_json (drop i jobs) (drop i totals))
    ≡ item_text i (clone_json job (get_or totals i d)) ++ rest_text (i + 1) (clones_json (drop (i + 1) jobs) (drop (i + 1) totals))
clones_more jobs totals i job d at within =
    ap (λ (ds : List Data). rest_text i ds)
    (next_of_both clones_json (λ job t rest. clone_json job t ∷ rest) (λ job jobs t totals. refl) jobs totals i job d at within)
    ∙ rw add-one (next_item i (clone_json job (get_or totals i d)) (clones_json (drop (suc i) jobs) (drop (suc i) totals)))

-- there are none past the shorter of the two
pub clones_none : (jobs : List SubJob) (totals : List Totals) (i : ℕ) → min (length jobs) (length totals) ≤ i
    → clones_json (drop i jobs) (drop i totals) ≡ []
clones_none = none_of_both clones_json [] (λ totals. refl) without
  where
    without : (jobs : List SubJob) → clones_json jobs [] ≡ []
    without [] = refl
    without (job ∷ jobs) = refl

-- all that are left, each by its row
pub rows_more : {X : Type 0} (row : X → Data) (xs : List X) (i : ℕ) (x : X) → slice_get xs i ≡ Some x
    → rest_text i (map row (drop i xs)) ≡ item_text i (row x) ++ rest_text (i + 1) (map row (drop (i + 1) xs))
rows_more {X} row xs i x at = rw add-one (ap (λ (ds : List Data). rest_text i ds) (rows_suc xs i at) ∙ next_item i (row x) (map row (drop (suc i) xs)))
  where
    rows_suc : (xs : List X) (i : ℕ) → slice_get xs i ≡ Some x → map row (drop i xs) ≡ row x ∷ map row (drop (suc i) xs)
    rows_suc [] i at = cc
    rows_suc (first ∷ rest) zero at = ap (λ (y : X). row y ∷ map row rest) (same first x at)
      where
        same : (a b : X) → Some a ≡ Some b → a ≡ b
        same a b h = cc
    rows_suc (first ∷ rest) (suc i) at = rows_suc rest i at

-- all that are left, each by the row of its name
pub named_more : {X Y : Type 0} (row : Y → Data) (name : X → Y) (xs : List X) (i : ℕ) (d : X) → i < length xs
    → rest_text i (map row (map name (drop i xs))) ≡ item_text i (row (name (get_or xs i d))) ++ rest_text (i + 1) (map row (map name (drop (i + 1) xs)))
named_more {X} {Y} row name xs i d within =
    rw add-one (ap (λ (ds : List Data). rest_text i ds) (named_suc xs i within) ∙ next_item i (row (name (get_or xs i d))) (map row (map name (drop (suc i) xs))))
  where
    named_suc : (xs : List X) (i : ℕ) → i < length xs → map row (map name (drop i xs)) ≡ row (name (get_or xs i d)) ∷ map row (map name (drop (suc i) xs))
    named_suc [] i within = absurd (omega arith)
    named_suc (x ∷ rest) zero within = refl
    named_suc (x ∷ rest) (suc i) within = named_suc rest i (omega arith)

-- of any list some are items: those that are left
kept : {X Y : Type 0} (test : Y → Bool) (name : X → Y) (xs : List X) (i : ℕ) (d : X) (b : Bool) → i < length xs
    → test (name (get_or xs i d)) ≡ b
    → filter test (map name (drop i xs))
    ≡ cond b (name (get_or xs i d) ∷ filter test (map name (drop (suc i) xs))) (filter test (map name (drop (suc i) xs)))
kept test name [] i d b within is = absurd (omega arith)
kept test name (x ∷ xs) zero d b within is =
    let rest = filter test (map name xs) in ap (λ (b : Bool). cond b (name x ∷ rest) rest) is
kept test name (x ∷ xs) (suc i) d b within is = kept test name xs i d b (omega arith) is

-- the next is one
pub kept_more : {X Y : Type 0} (row : Y → Data) (test : Y → Bool) (name : X → Y) (xs : List X) (i place : ℕ) (d : X) → i < length xs
    → test (name (get_or xs i d)) ≡ true
    → rest_text place (map row (filter test (map name (drop i xs))))
    ≡ item_text place (row (name (get_or xs i d))) ++ rest_text (place + 1) (map row (filter test (map name (drop (i + 1) xs))))
kept_more {X} {Y} row test name xs i place d within is =
    rw (add-one i, add-one place) (ap (λ (ys : List Y). rest_text place (map row ys)) (kept test name xs i d true within is)
    ∙ next_item place (row (name (get_or xs i d))) (map row (filter test (map name (drop (suc i) xs)))))

-- the next isn't one
pub kept_less : {X Y : Type 0} (row : Y → Data) (test : Y → Bool) (name : X → Y) (xs : List X) (i : ℕ) (d : X) → i < length xs
    → test (name (get_or xs i d)) ≡ false
    → map row (filter test (map name (drop i xs))) ≡ map row (filter test (map name (drop (i + 1) xs)))
kept_less row test name xs i d within is =
    rw add-one (ap (map row) (kept test name xs i d false within is))

-- none is left past the last
pub none_past : {X : Type 0} (xs : List X) (i : ℕ) → length xs ≤ i → drop i xs ≡ []
none_past [] zero h = refl
none_past [] (suc i) h = refl
none_past (x ∷ xs) zero h = absurd (omega arith)
none_past (x ∷ xs) (suc i) h = none_past xs i (omega arith)

none_left : (i : ℕ) → drop {A = Option (List ℕ)} i [] ≡ []
none_left zero = refl
none_left (suc i) = refl

-- the faults that are left, with the reasons that are left
faults_suc : {X : Type 0} (name : X → NamedFault) (xs : List X) (reasons : List (Option (List ℕ))) (i : ℕ) (d : X) → i < length xs
    → faults_json (map name (drop i xs)) (drop i reasons)
    ≡ fault_json (name (get_or xs i d)) (reason_at reasons i) ∷ faults_json (map name (drop (suc i) xs)) (drop (suc i) reasons)
faults_suc name [] reasons i d within = absurd (omega arith)
faults_suc name (x ∷ xs) [] zero d within = refl
faults_suc name (x ∷ xs) (reason ∷ reasons) zero d within = refl
faults_suc name (x ∷ xs) [] (suc i) d within =
    let rest : faults_json (map name (drop i xs)) (drop i []) ≡ fault_json (name (get_or xs i d)) None ∷ faults_json (map name (drop (suc i) xs)) (drop (suc i) [])
    = faults_suc name xs [] i d (omega arith) in
    subst (λ (none : List (Option (List ℕ))). faults_json (map name (drop i xs)) none ≡ fault_json (name (get_or xs i d)) None ∷ faults_json (map name (drop (suc i) xs)) []) (none_left i) rest
faults_suc name (x ∷ xs) (reason ∷ reasons) (suc i) d within = faults_suc name xs reasons i d (omega arith)

pub faults_more : {X : Type 0} (name : X → NamedFault) (xs : List X) (reasons : List (Option (List ℕ))) (i : ℕ) (d : X) → i < length xs
    → rest_text i (faults_json (map name (drop i xs)) (drop i reasons))
    ≡ item_text i (fault_json (name (get_or xs i d)) (reason_at reasons i))
    ++ rest_text (i + 1) (faults_json (map name (drop (i + 1) xs)) (drop (i + 1) reasons))
faults_more name xs reasons i d within =
    rw add-one (ap (λ (ds : List Data). rest_text i ds) (faults_suc name xs reasons i d within)
    ∙ next_item i (fault_json (name (get_or xs i d)) (reason_at reasons i)) (faults_json (map name (drop (suc i) xs)) (drop (suc i) reasons)))

-- one item was written
pub written_more : (before after item left rest whole : List ℕ) → before ++ left ≡ whole → left ≡ item ++ rest → after ≡ before ++ item → after ++ rest ≡ whole
written_more before after item left rest whole so next is =
    ap (λ (t : List ℕ). t ++ rest) is ∙ append_assoc before item rest ∙ ap (λ (t : List ℕ). before ++ t) (sym next) ∙ so

-- the reason of a fault
pub reason_found : (reasons : List (Option (String Global))) (place : ℕ) → reason_at (texts_of reasons) place ≡ told_by (slice_get reasons place)
reason_found [] place = refl
reason_found (None ∷ reasons) zero = refl
reason_found (Some reason ∷ reasons) zero = refl
reason_found (reason ∷ reasons) (suc place) = reason_found reasons place

-- no fault is left past the last
pub faults_none : {X : Type 0} (name : X → NamedFault) (xs : List X) (reasons : List (Option (List ℕ))) (i : ℕ) → length xs ≤ i
    → faults_json (map name (drop i xs)) (drop i reasons) ≡ []
faults_none {X} name xs reasons i past =
    ap (λ (left : List X). faults_json (map name left) (drop i reasons)) (none_past xs i past) ∙ refl
