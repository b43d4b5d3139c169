-- The bad verdicts of a run that are sorted by their writes are those of its report: no two are on one write.
use Rattle.std.proofs.Common.{◌≡◌, ℕ, zero, suc, ◌+◌, ◌≤◌, Bool, true, false, cond, List, [], ◌∷◌, get_or, refl, sym, ◌∙◌, ap, subst, arith, IsPermutation}
use Rattle.std.specs.Prelude.{map, sum_by, ◌==◌, ◌&&◌}
use Rattle.std.specs.declared.cmp.Ordering.{Ordering}
use Rattle.std.specs.declared.cmp.Ordering.TheVariants.{Less, Equal, Greater}
use Rattle.std.specs.List.{AllByRecursion}
use Rattle.std.specs.List.Sorted.{IsSortedByKey, IsStrictlySortedBy}
use Rattle.std.specs.Ordering.{is_lt, nat_cmp, ordering_reverse, ordering_then}
use Rattle.std.proofs.lemmas.Bool.{and_from, both_ways, eq-eqb, false_from_ne_true}
use Rattle.std.proofs.lemmas.Cmp.{ranked, tied_itself}
use Rattle.std.proofs.lemmas.List.Sums.{sum_by-cons}
use Rattle.std.proofs.lemmas.List.Sorted.{IsPermutation-map, IsPermutation-sym, sum_by-IsPermutation}
use Rattle.jr_model.specs.declared.events.Event.{Event}
use Rattle.jr_model.specs.declared.events.WriteId.{WriteId}
use Rattle.jr_model.specs.History.{same_write, write_order}
use Rattle.jr_model.specs.Legal.{is_legal}
use Rattle.jr_model.specs.Plan.{Plan}
use Rattle.jr_model.specs.Report.{Miscompare, in_order, miscompares}
use Rattle.jr_model.proofs.Equality.{write_order_total, eq_write}
use Rattle.jr_model.specs.PlanFacts.{IsPlanned}
use Rattle.jr_report_lines.specs.InOrder.{by_write}
use Rattle.jr_report_lines.proofs.FlatMaps.{all_weaker}
use Rattle.jr_report_lines.proofs.Found.{all_distinct}
use Rattle.jr_report_lines.proofs.Reported.{sorted_lines}
use Rattle.jr_report_lines.proofs.Writes.{AreDistinct, NoneIsOn}
use Rattle.jr_desk_totals.specs.declared.tallies.Bad.{Bad}
use Rattle.jr_desk_totals.specs.Bads.{miscompare_of}

-- writes that are not in order the other way round, and are two, are in order

equal_number : (x y : ℕ) → nat_cmp x y ≡ Equal → x ≡ y
equal_number x y equal = ranked x y Equal (sym equal)

record AreEqual (o p : Ordering) : Type 0 where
  first : o ≡ Equal
  second : p ≡ Equal

then_equal : (o p : Ordering) → ordering_then o p ≡ Equal → AreEqual o p
then_equal Less p equal = cc
then_equal Equal p equal = record { first = refl; second = equal }
then_equal Greater p equal = cc

equal_write : (a b : WriteId) → write_order a b ≡ Equal → same_write a b ≡ true
equal_write a b equal =
    let outer = then_equal (nat_cmp a.clone b.clone) (ordering_then (nat_cmp a.pass b.pass) (nat_cmp a.number b.number)) equal in
    let inner = then_equal (nat_cmp a.pass b.pass) (nat_cmp a.number b.number) outer.second in
    let clone : (a.clone == b.clone) ≡ true = eq-eqb a.clone b.clone (equal_number a.clone b.clone outer.first) in
    let pass : (a.pass == b.pass) ≡ true = eq-eqb a.pass b.pass (equal_number a.pass b.pass inner.first) in
    let number : (a.number == b.number) ≡ true = eq-eqb a.number b.number (equal_number a.number b.number inner.second) in
    and_from ((a.clone == b.clone) && (a.pass == b.pass)) (a.number == b.number)
    (and_from (a.clone == b.clone) (a.pass == b.pass) clone pass) number

in_turn : (a b : WriteId) → is_lt (write_order b a) ≡ false → same_write a b ≡ false → write_order a b ≡ Less
in_turn a b up other = by (write_order a b) refl
  where
    by : (o : Ordering) → write_order a b ≡ o → write_order a b ≡ Less
    by Less is = is
    by Equal is = absurd (both_ways (same_write a b) other (equal_write a b is))
    by Greater is =
        let back : write_order b a ≡ Less = write_order_total.antisymm b a ∙ ap ordering_reverse is in
        absurd (both_ways (is_lt (write_order b a)) up (ap is_lt back))

-- how many bad verdicts are on a write

abbrev one_on : WriteId → Miscompare → ℕ
one_on write m = cond (same_write m.write write) 1 0

counted : (write : WriteId) (m : Miscompare) (b : Bool) → same_write m.write write ≡ b → one_on write m ≡ cond b 1 0
counted write m b is = ap {B = ℕ} (λ (c : Bool). cond c 1 0) is

none_on : (write : WriteId) (found : List Miscompare) → NoneIsOn write found → sum_by (one_on write) found ≡ 0
none_on write [] none = refl
none_on write (m ∷ found) none =
    let first : one_on write m ≡ 0 = counted write m false none.0 in
    let rest : sum_by (one_on write) found ≡ 0 = none_on write found none.1 in
    let all : sum_by (one_on write) (m ∷ found) ≡ one_on write m + sum_by (one_on write) found = sum_by-cons (one_on write) m found in
    omega (arith, first, rest, all)

one_more : (write : WriteId) (m : Miscompare) (found : List Miscompare) (b : Bool) → same_write m.write write ≡ b
    → NoneIsOn m.write found → sum_by (one_on write) found ≤ 1 → sum_by (one_on write) (m ∷ found) ≤ 1
one_more write m found true is none few =
    let all : sum_by (one_on write) (m ∷ found) ≡ one_on write m + sum_by (one_on write) found = sum_by-cons (one_on write) m found in
    let first : one_on write m ≡ 1 = counted write m true is in
    let rest : sum_by (one_on write) found ≡ 0 =
    none_on write found (subst (λ (w : WriteId). NoneIsOn w found) (eq_write m.write write is) none) in
    omega (arith, all, first, rest)
one_more write m found false is none few =
    let all : sum_by (one_on write) (m ∷ found) ≡ one_on write m + sum_by (one_on write) found = sum_by-cons (one_on write) m found in
    let first : one_on write m ≡ 0 = counted write m false is in
    omega (arith, all, first, few)

one_each : (write : WriteId) (found : List Miscompare) → AreDistinct found → sum_by (one_on write) found ≤ 1
one_each write [] distinct = omega arith
one_each write (m ∷ found) distinct =
    one_more write m found (same_write m.write write) refl distinct.0 (one_each write found distinct.1)

-- at most one is on each write
abbrev OneEach : List Miscompare → Type 0
OneEach found = (write : WriteId) → sum_by (one_on write) found ≤ 1

two_apart : (m n : Miscompare) (found : List Miscompare) → OneEach (m ∷ n ∷ found) → same_write m.write n.write ≡ false
two_apart m n found one = false_from_ne_true (same_write m.write n.write) both
  where
    both : same_write m.write n.write ≡ true → ⊥
    both same =
        let w = n.write in
        let first : one_on w m ≡ 1 = counted w m true same in
        let second : one_on w n ≡ 1 = counted w n true (equal_write w w (tied_itself write_order_total w)) in
        let all : sum_by (one_on w) (m ∷ n ∷ found) ≡ one_on w m + sum_by (one_on w) (n ∷ found) = sum_by-cons (one_on w) m (n ∷ found) in
        let more : sum_by (one_on w) (n ∷ found) ≡ one_on w n + sum_by (one_on w) found = sum_by-cons (one_on w) n found in
        let few : sum_by (one_on w) (m ∷ n ∷ found) ≤ 1 = one w in
        omega (arith, first, second, all, more, few)

one_behind : (m : Miscompare) (found : List Miscompare) → OneEach (m ∷ found) → OneEach found
one_behind m found one write =
    let all : sum_by (one_on write) (m ∷ found) ≡ one_on write m + sum_by (one_on write) found = sum_by-cons (one_on write) m found in
    let few : sum_by (one_on write) (m ∷ found) ≤ 1 = one write in
    omega (arith, all, few)

-- so what is sorted is sorted strictly

abbrev pub AreSorted : List Bad → Type 0
AreSorted bads = IsSortedByKey (λ (bad : Bad). bad.write) write_order bads

sorted_behind : (bad : Bad) (bads : List Bad) → AreSorted (bad ∷ bads) → AreSorted bads
sorted_behind bad bads up k d low within =
    let step : suc k + 1 ≡ suc (k + 1) = omega arith in
    subst (λ (j : ℕ). is_lt (write_order (get_or (bad ∷ bads) j d).write (get_or bads k d).write) ≡ false) step
    (up (suc k) d (omega arith) (omega (arith, within)))

strictly : (bads : List Bad) → AreSorted bads → OneEach (map miscompare_of bads) → IsStrictlySortedBy by_write (map miscompare_of bads)
unfolding IsStrictlySortedBy
strictly [] up one = tt
strictly (bad ∷ []) up one = (tt, tt)
strictly (bad ∷ next ∷ bads) up one =
    let behind = map miscompare_of (next ∷ bads) in
    let rest : IsStrictlySortedBy by_write behind =
    strictly (next ∷ bads) (sorted_behind bad (next ∷ bads) up) (one_behind (miscompare_of bad) behind one) in
    let less : write_order bad.write next.write ≡ Less =
    in_turn bad.write next.write (up zero bad (omega arith) (omega arith))
    (two_apart (miscompare_of bad) (miscompare_of next) (map miscompare_of bads) one) in
    let above : AllByRecursion (λ (m : Miscompare). write_order bad.write m.write ≡ Less) (map miscompare_of bads) =
    all_weaker (λ (m : Miscompare). write_order next.write m.write ≡ Less) (λ (m : Miscompare). write_order bad.write m.write ≡ Less)
    (λ (m : Miscompare) (after : write_order next.write m.write ≡ Less). write_order_total.trans bad.write next.write m.write less after)
    (map miscompare_of bads) rest.0 in
    ((less, above), rest)

pub sorted_by_writes : (plan : Plan) (history : List Event) (bads sorted : List Bad) → IsPlanned plan → is_legal plan history ≡ true
    → map miscompare_of bads ≡ miscompares history → IsPermutation bads sorted → AreSorted sorted
    → map miscompare_of sorted ≡ in_order plan (miscompares history)
sorted_by_writes plan history bads sorted planned legal kept same up =
    let found = miscompares history in
    let moved : IsPermutation found (map miscompare_of sorted) =
    subst (λ (ms : List Miscompare). IsPermutation ms (map miscompare_of sorted)) kept (IsPermutation-map miscompare_of bads sorted same) in
    let one : OneEach (map miscompare_of sorted) = λ (write : WriteId).
    let few : sum_by (one_on write) found ≤ 1 = one_each write found (all_distinct plan history planned legal) in
    let total : sum_by (one_on write) (map miscompare_of sorted) ≡ sum_by (one_on write) found =
    sum_by-IsPermutation (one_on write) found (map miscompare_of sorted) moved in
    omega (arith, few, total) in
    sorted_lines plan history (map miscompare_of sorted) planned legal (IsPermutation-sym found (map miscompare_of sorted) moved)
    (strictly sorted up one)
