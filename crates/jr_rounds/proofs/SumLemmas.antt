-- The sums over rounds, as one more round is added.
use Rattle.std.proofs.Common.{◌≡◌, ℕ, zero, suc, ◌+◌, ◌<◌, List, [], ◌∷◌, ◌++◌, get_or, take, replicate, length, map, sum_by, slice_get}
use Rattle.std.proofs.Common.{slice_set, Some, arith, ap, subst, sym, ◌∙◌, refl, add-one, add-zero, zero-add, length-append}
use Rattle.std.proofs.lemmas.List.{length-replicate, take_more}
use Rattle.std.specs.Prelude.{filter_map}
use Rattle.std.specs.List.{range_with_len}
use Rattle.std.proofs.lemmas.List.Sums.{sum_by-append}
use Rattle.std.proofs.lemmas.List.Elements.{filter_map-append}
use Rattle.jr_model.specs.declared.totals.Totals.{Totals}
use Rattle.jr_rounds.specs.Adding.{added, all_added, nothing_done}
use Rattle.jr_rounds.specs.Sums.{AreSums, RoundSums, capped, of_clone, sum_of, sums_of}

-- one more count
capped_more : (f : Totals → ℕ) (all : List Totals) (t : Totals) → capped (sum_by f (all ++ t ∷ [])) ≡ capped (capped (sum_by f all) + f t)
capped_more f all t = omega (arith, sum_by-append f all (t ∷ []))

-- one more round
pub sum_of_more : (all : List Totals) (t : Totals) → sum_of (all ++ t ∷ []) ≡ added (sum_of all) t
sum_of_more all t =
    let reads = capped_more (λ (t : Totals). t.reads) all t in
    let rbytes = capped_more (λ (t : Totals). t.rbytes) all t in
    let writes = capped_more (λ (t : Totals). t.writes) all t in
    let wbytes = capped_more (λ (t : Totals). t.wbytes) all t in
    let checks = capped_more (λ (t : Totals). t.checks) all t in
    let good = capped_more (λ (t : Totals). t.good) all t in
    let bad = capped_more (λ (t : Totals). t.bad) all t in
    let skipped = capped_more (λ (t : Totals). t.skipped) all t in
    let void = capped_more (λ (t : Totals). t.void) all t in
    let faults = capped_more (λ (t : Totals). t.faults) all t in
    cc

-- one more of several
pub totals_more : (all : List Totals) (i : ℕ) (d : Totals) → i < length all → added (sum_of (take i all)) (get_or all i d) ≡ sum_of (take (i + 1) all)
totals_more all i d within = sym (ap sum_of (take_more all i d within) ∙ sum_of_more (take i all) (get_or all i d))

of_clone_more : (rounds : List (List Totals)) (totals : List Totals) (c : ℕ) (t : Totals) → slice_get totals c ≡ Some t
    → of_clone (rounds ++ totals ∷ []) c ≡ of_clone rounds c ++ t ∷ []
of_clone_more rounds totals c t at =
    filter_map-append (λ (all : List Totals). slice_get all c) rounds (totals ∷ [])
    ∙ ap (λ (rest : List Totals). of_clone rounds c ++ rest) (one t at)
  where
    one : (t : Totals) → slice_get totals c ≡ Some t → filter_map (λ (all : List Totals). slice_get all c) (totals ∷ []) ≡ t ∷ []
    one t at = rw at refl

-- what is added to each place of a range is added to its list
ranged :
    (ts : List Totals) (F G : ℕ → Totals) (a : ℕ) → ((k : ℕ) (t : Totals) → slice_get ts k ≡ Some t → F (a + k) ≡ added (G (a + k)) t)
    → map F (range_with_len a (length ts)) ≡ all_added (map G (range_with_len a (length ts))) ts
ranged [] F G a h = refl
ranged (t ∷ ts) F G a h =
    let first : F a ≡ added (G a) t = subst (λ (n : ℕ). F n ≡ added (G n) t) (add-zero a) (h 0 t refl) in
    let rest = ranged ts F G (a + 1) (λ k u at. subst (λ (n : ℕ). F n ≡ added (G n) u) (further a k) (h (suc k) u at)) in
    cc
  where
    further : (a k : ℕ) → a + suc k ≡ a + 1 + k
    further a k = omega arith

pub sums_of_more : (rounds : List (List Totals)) (totals : List Totals)
    → sums_of (length totals) (rounds ++ totals ∷ []) ≡ all_added (sums_of (length totals) rounds) totals
sums_of_more rounds totals =
    ranged totals (λ c. sum_of (of_clone (rounds ++ totals ∷ []) c)) (λ c. sum_of (of_clone rounds c)) 0 (λ k t at.
    ap sum_of (of_clone_more rounds totals (0 + k) t (subst (λ (n : ℕ). slice_get totals n ≡ Some t) (sym (zero-add k)) at))
    ∙ sum_of_more (of_clone rounds (0 + k)) t)

-- there are as many sums as before
pub length-all_added : (sums totals : List Totals) → length (all_added sums totals) ≡ length sums
length-all_added [] totals = refl
length-all_added (sum ∷ sums) [] = refl
length-all_added (sum ∷ sums) (t ∷ totals) = ap suc (length-all_added sums totals)

pub sums_more : (rounds : List (List Totals)) (old new : RoundSums) (totals : List Totals) → length totals ≡ length old.totals
    → new.rounds ≡ capped (old.rounds + 1) → new.totals ≡ all_added old.totals totals → AreSums rounds old
    → AreSums (rounds ++ totals ∷ []) new
sums_more rounds old new totals count number all h =
    let lengths : length totals ≡ length new.totals = count ∙ sym (length-all_added old.totals totals)
    ∙ ap (λ (s : List Totals). length s) (sym all) in
    let before : old.totals ≡ sums_of (length totals) rounds = h.totals ∙ ap (λ (n : ℕ). sums_of n rounds) (sym count) in
    record {
      number = omega (arith, number, h.number, length-append rounds (totals ∷ []));
      totals =
          all ∙ ap (λ (s : List Totals). all_added s totals) before ∙ sym (sums_of_more rounds totals)
          ∙ ap (λ (n : ℕ). sums_of n (rounds ++ totals ∷ [])) lengths;
    }

-- the sums of no round
none_from : (a n : ℕ) → replicate n nothing_done ≡ map (λ c. sum_of (of_clone [] c)) (range_with_len a n)
none_from a zero = refl
none_from a (suc n) = ap (λ (rest : List Totals). nothing_done ∷ rest) (none_from (a + 1) n)

pub sums_of_none : (n : ℕ) (sums : RoundSums) → sums.rounds ≡ 0 → sums.totals ≡ replicate n nothing_done → AreSums [] sums
sums_of_none n sums number all =
    let count : length sums.totals ≡ n = ap (λ (s : List Totals). length s) all ∙ length-replicate n nothing_done in
    record { number = number; totals = all ∙ none_from 0 n ∙ ap (λ (k : ℕ). sums_of k []) (sym count) }

-- what is added so far, and one place more
pub all_added_none : (sums : List Totals) → all_added sums [] ≡ sums
all_added_none [] = refl
all_added_none (sum ∷ sums) = refl

pub get_or-all_added : (sums totals : List Totals) (i : ℕ) (d : Totals) → get_or (all_added sums (take i totals)) i d ≡ get_or sums i d
get_or-all_added [] totals i d = refl
get_or-all_added (sum ∷ sums) totals zero d = refl
get_or-all_added (sum ∷ sums) [] (suc i) d = refl
get_or-all_added (sum ∷ sums) (t ∷ totals) (suc i) d = get_or-all_added sums totals i d

set-all_added : (sums totals : List Totals) (i : ℕ) (d e : Totals) → i < length totals → length totals ≡ length sums
    → slice_set (all_added sums (take i totals)) i (added (get_or sums i d) (get_or totals i e)) ≡ all_added sums (take (suc i) totals)
set-all_added [] [] i d e h count = absurd (omega arith)
set-all_added [] (t ∷ totals) i d e h count = absurd (omega arith)
set-all_added (sum ∷ sums) [] i d e h count = absurd (omega arith)
set-all_added (sum ∷ sums) (t ∷ totals) zero d e h count = ap (λ (rest : List Totals). added sum t ∷ rest) (sym (all_added_none sums))
set-all_added (sum ∷ sums) (t ∷ totals) (suc i) d e h count =
    ap (λ (rest : List Totals). added sum t ∷ rest) (set-all_added sums totals i d e (omega arith) (omega arith))

pub all_added_more : (sums totals : List Totals) (i : ℕ) (d e : Totals) → i < length totals → length totals ≡ length sums
    → slice_set
    (all_added sums (take i totals)) i (added (get_or (all_added sums (take i totals)) i d) (get_or totals i e)) ≡ all_added sums
    (take (i + 1) totals)
all_added_more sums totals i d e h count =
    rw (add-one, get_or-all_added sums totals i d) (set-all_added sums totals i d e h count)
