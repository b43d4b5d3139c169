-- The bad verdicts on one write: which they are, and that there is at most one where no two are on one write.
use Rattle.std.proofs.Common.{◌≡◌, ◌<◌, Bool, true, false, cond, List, [], ◌∷◌, refl, sym, ◌∙◌, ap, subst}
use Rattle.std.specs.Prelude.{Some, None, filter_map}
use Rattle.std.specs.declared.cmp.Ordering.{Ordering}
use Rattle.std.specs.declared.cmp.Ordering.TheVariants.{Less}
use Rattle.std.specs.List.{AllByRecursion, cons_option}
use Rattle.std.specs.List.Sorted.{IsStrictlySortedBy}
use Rattle.std.specs.Ordering.{nat_cmp, ordering_then}
use Rattle.std.proofs.lemmas.Bool.{false_from_ne_true}
use Rattle.std.proofs.lemmas.Option.{same_Some}
use Rattle.jr_model.specs.declared.events.WriteId.{WriteId}
use Rattle.jr_model.specs.History.{same_write, write_order}
use Rattle.jr_model.specs.Report.{Miscompare, on_write}
use Rattle.jr_model.proofs.Equality.{eq_write}
use Rattle.jr_model.proofs.NumberLemmas.{less_of, equal_of}
use Rattle.jr_report_lines.specs.InOrder.{by_write}
use Rattle.jr_report_lines.proofs.FlatMaps.{all_filter_map}

-- the order of writes

abbrev by_clone : WriteId → WriteId → Ordering → Ordering
by_clone a b o = ordering_then o (ordering_then (nat_cmp a.pass b.pass) (nat_cmp a.number b.number))

pub clone_first : (a b : WriteId) → a.clone < b.clone → write_order a b ≡ Less
clone_first a b below =
    ap (by_clone a b) (less_of a.clone b.clone below)

pub pass_next : (a b : WriteId) → a.clone ≡ b.clone → a.pass < b.pass → write_order a b ≡ Less
pass_next a b clone below =
    ap (by_clone a b) (equal_of a.clone b.clone clone)
    ∙ ap (λ (o : Ordering). ordering_then o (nat_cmp a.number b.number)) (less_of a.pass b.pass below)

pub number_last : (a b : WriteId) → a.clone ≡ b.clone → a.pass ≡ b.pass → a.number < b.number → write_order a b ≡ Less
number_last a b clone pass below =
    ap (by_clone a b) (equal_of a.clone b.clone clone)
    ∙ ap (λ (o : Ordering). ordering_then o (nat_cmp a.number b.number)) (equal_of a.pass b.pass pass)
    ∙ less_of a.number b.number below

-- those on a write

on_it : (write : WriteId) (b : Bool) (m y : Miscompare) → same_write m.write write ≡ b → cond b (Some m) None ≡ Some y → y.write ≡ write
on_it write true m y same kept = ap (λ (x : Miscompare). x.write) (sym (same_Some m y kept)) ∙ eq_write m.write write same
on_it write false m y same kept = cc

pub all_on_it : (write : WriteId) (found : List Miscompare)
    → AllByRecursion (λ (m : Miscompare). m.write ≡ write) (filter_map (on_write write) found)
all_on_it write found =
    all_filter_map (λ (m : Miscompare). m.write ≡ write) (on_write write)
    (λ m y kept. on_it write (same_write m.write write) m y refl kept) found

-- one more that is on the write, or on another

pub more_on : (write : WriteId) (m : Miscompare) (found : List Miscompare) → same_write m.write write ≡ true
    → filter_map (on_write write) (m ∷ found) ≡ m ∷ filter_map (on_write write) found
more_on write m found same =
    ap {B = List Miscompare} (λ (b : Bool). cons_option (cond b (Some m) None) (filter_map (on_write write) found)) same

pub more_off : (write : WriteId) (m : Miscompare) (found : List Miscompare) → same_write m.write write ≡ false
    → filter_map (on_write write) (m ∷ found) ≡ filter_map (on_write write) found
more_off write m found other =
    ap {B = List Miscompare} (λ (b : Bool). cons_option (cond b (Some m) None) (filter_map (on_write write) found)) other

-- none is on the write
abbrev pub NoneIsOn : WriteId → List Miscompare → Type 0
NoneIsOn write found = AllByRecursion (λ (m : Miscompare). same_write m.write write ≡ false) found

-- no two are on one write
abbrev pub AreDistinct : List Miscompare → Type 0
AreDistinct [] = Unit {0}
AreDistinct (m ∷ found) = NoneIsOn m.write found × AreDistinct found

none_on : (write : WriteId) (found : List Miscompare) → NoneIsOn write found → filter_map (on_write write) found ≡ []
none_on write [] all = refl
none_on write (m ∷ found) all = more_off write m found all.0 ∙ none_on write found all.1

one_sorted : (m : Miscompare) → IsStrictlySortedBy by_write (m ∷ [])
unfolding IsStrictlySortedBy
one_sorted m = (tt, tt)

none_sorted : IsStrictlySortedBy by_write []
unfolding IsStrictlySortedBy
none_sorted = tt

pub on_it_sorted : (write : WriteId) (found : List Miscompare) → AreDistinct found
    → IsStrictlySortedBy by_write (filter_map (on_write write) found)
on_it_sorted write [] distinct = none_sorted
on_it_sorted write (m ∷ found) distinct = by (on_it_sorted write found distinct.1) (same_write m.write write) refl
  where
    by : IsStrictlySortedBy by_write (filter_map (on_write write) found) → (b : Bool) → same_write m.write write ≡ b
        → IsStrictlySortedBy by_write (filter_map (on_write write) (m ∷ found))
    by rest true same =
        let none : filter_map (on_write write) found ≡ [] =
        none_on write found (subst (λ (w : WriteId). NoneIsOn w found) (eq_write m.write write same) distinct.0) in
        subst (IsStrictlySortedBy by_write) (sym (more_on write m found same ∙ ap (λ (ms : List Miscompare). m ∷ ms) none)) (one_sorted m)
    by rest false other = subst (IsStrictlySortedBy by_write) (sym (more_off write m found other)) rest

-- writes that differ in a number are two

pub other_clone : (a b : WriteId) → (b.clone ≡ a.clone → ⊥) → same_write a b ≡ false
other_clone a b apart = false_from_ne_true (same_write a b) (λ same. apart (ap (λ (w : WriteId). w.clone) (sym (eq_write a b same))))

pub other_pass : (a b : WriteId) → (b.pass ≡ a.pass → ⊥) → same_write a b ≡ false
other_pass a b apart = false_from_ne_true (same_write a b) (λ same. apart (ap (λ (w : WriteId). w.pass) (sym (eq_write a b same))))

pub other_number : (a b : WriteId) → (b.number ≡ a.number → ⊥) → same_write a b ≡ false
other_number a b apart = false_from_ne_true (same_write a b) (λ same. apart (ap (λ (w : WriteId). w.number) (sym (eq_write a b same))))
