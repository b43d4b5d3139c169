-- Each step of the hand-over keeps its rule.
use Rattle.std.proofs.Common.{◌≡◌, ℕ, zero, suc, ◌+◌, ◌*◌, ◌-◌, ◌<◌, Bool, true, false, eqb-true, eq-eqb, ltb-true, lt-ltb, nat_lt, ◌==◌, if◌then◌else◌, length-append, List, [], ◌∷◌, ◌++◌, length, sum_by, flat_map, set, refl, sym, ap, ◌∙◌, subst, arith, append-nil, mul_assoc, mul_comm, add-mul, suc-mul, one-mul, mul-pos, ⊎_elim, IsPermutation, lit<}
use native.Mathlib.Nat.{mul_right_comm, zero-mul, eq_of_mul-eq-mul_right}
use Rattle.std.proofs.lemmas.List.Sums.{sum_by-append}
use Rattle.std.proofs.lemmas.List.Sorted.{IsPermutation-refl, sum_by-IsPermutation, length_permutation}
use Rattle.atomic_table.proofs.Lists.{at_set}
use mathlib.Core.Option.{some}
use lib.ListN.{get_elem?}
use Rattle.crossbeam_channel.specs.Fifo.{Pushes, Pops, Forks, Merges, Learns}
use Rattle.jr_crew_channel.specs.contracts.parcel.Parcel as parcel
use Rattle.jr_crew_channel.specs.declared.parcel.Parcel.{Parcel}
use Rattle.jr_crew_channel.specs.declared.parcel.PassState.{PassState}
use Rattle.jr_crew_channel.specs.PassStates.{PARTS, first_state, IsWhole, with_put, with_taken, cut_parts, cut_of, kept_of, given_of, joined_parts, joined_of_parts, joined_of, spent_state}
use Rattle.jr_crew_channel.specs.Shares.{IsShare, IsShared}
use Rattle.jr_crew_channel.specs.Balance.{all_put, all_taken, IsBalanced}
use Rattle.jr_crew_channel.proofs.Weights.{weigh_same, flat_map-set, flat_map-snoc}
use Rattle.jr_crew_channel.proofs.Portions.{portion, Alone, times, sum-times, sum-snoc, each-times, each-snoc}

-- what all views put weighs what they took and what the channel holds
abbrev WeighSame : (Parcel → ℕ) → List Parcel → List PassState → Type 0
WeighSame h items views = sum_by h (all_put views) ≡ sum_by h (all_taken views) + sum_by h items

weighs : (items : List Parcel) (views : List PassState) → IsPermutation (all_put views) (all_taken views ++ items) → (h : Parcel → ℕ) → WeighSame h items views
weighs items views p h =
    sym (sum_by-IsPermutation h (all_put views) (all_taken views ++ items) p) ∙ sum_by-append h (all_taken views) items

balances : (items : List Parcel) (views : List PassState) → ((h : Parcel → ℕ) → WeighSame h items views) → IsPermutation (all_put views) (all_taken views ++ items)
balances items views e =
    weigh_same (parcel.the_row).coded (all_put views) (all_taken views ++ items) (λ h. e h ∙ sym (sum_by-append h (all_taken views) items))

-- one view changes by as much as the channel does
changed : (old new : List Parcel) (views : List PassState) (i : ℕ) (v w : PassState) → get_elem? views i ≡ some v
    → ((h : Parcel → ℕ) → sum_by h w.put + sum_by h v.taken + sum_by h old ≡ sum_by h v.put + sum_by h w.taken + sum_by h new)
    → IsPermutation (all_put views) (all_taken views ++ old) → IsPermutation (all_put (set views i w)) (all_taken (set views i w) ++ new)
changed old new views i v w at e p =
    balances new (set views i w)
    (λ h. omega (arith, e h, weighs old views p h, flat_map-set (λ u. u.put) h views i v w at, flat_map-set (λ u. u.taken) h views i v w at))

-- a view that keeps its parts keeps its share
kept_share : (views : List PassState) (i : ℕ) (v w : PassState) → get_elem? views i ≡ some v → 0 < v.parts → w.parts ≡ v.parts → w.of ≡ v.of → IsShared views → IsShared (set views i w)
kept_share views i v w at has parts of s = let p = portion s.whole s.shares views i v s.each at in record {
  whole = s.whole;
  shares = set s.shares i p.share;
  positive = s.positive;
  all = omega (arith, p.all p.share, s.all);
  each = p.each w p.share (record {
    exact = rw (parts, of) p.is.exact;
    cut = rw of p.is.cut;
    idle = λ none. absurd (omega (arith, none, parts, has));
  });
}

pub begins : IsBalanced [] (first_state ∷ [])
begins = record {
  parcels = IsPermutation-refl [];
  parts = record {
    whole = PARTS;
    shares = PARTS ∷ [];
    positive = lit< tt;
    all = refl;
    each = (record { exact = refl; cut = lit< tt; idle = λ none. (refl, refl) }, tt);
  };
}

pub puts : (room i : ℕ) (v : PassState) (x : Parcel) → 0 < v.parts → Pushes IsBalanced room i v x (λ w. w ≡ with_put v x)
puts room i v x has items views fits b at = (
  with_put v x,
  record {
    parcels = changed items (items ++ x ∷ []) views i v (with_put v x) at (λ h. omega (arith, sum_by-append h v.put (x ∷ []), sum_by-append h items (x ∷ []))) b.parcels;
    parts = kept_share views i v (with_put v x) at has refl refl b.parts;
  },
  refl,
)

pub takes : (i : ℕ) (v : PassState) → 0 < v.parts → Pops IsBalanced i v (λ x w. w ≡ with_taken v x)
takes i v has x items views b at = (
  with_taken v x,
  record {
    parcels = changed (x ∷ items) items views i v (with_taken v x) at (λ h. omega (arith, sum_by-append h v.taken (x ∷ []), sum_by-append h (x ∷ []) items)) b.parcels;
    parts = kept_share views i v (with_taken v x) at has refl refl b.parts;
  },
  refl,
)

-- a share of parts that are cut further
more_parts : (whole share parts of : ℕ) → share * of ≡ parts * whole → share * (of * PARTS) ≡ parts * PARTS * whole
more_parts whole share parts of e =
    sym (mul_assoc share of PARTS) ∙ ap (λ n. n * PARTS) e ∙ mul_right_comm parts whole PARTS

-- a pass that can give one part away is the same share
pub record Cuts (whole share parts of : ℕ) : Type 0 where
  pub exact : share * of ≡ parts * whole
  pub some_more : 1 < parts
  pub cut : 0 < of

cuts_by : (b : Bool) (whole share parts of : ℕ) → nat_lt 1 parts ≡ b → 0 < parts → 0 < of → share * of ≡ parts * whole
    → Cuts whole share (if b then parts else parts * PARTS) (if b then of else of * PARTS)
cuts_by true whole share parts of e has cut exact = record { exact = exact; some_more = ltb-true 1 parts e; cut = cut }
cuts_by false whole share parts of e has cut exact =
    record { exact = more_parts whole share parts of exact; some_more = omega (arith, has); cut = omega (arith, cut) }

pub cuts : (whole share : ℕ) (v : PassState) → 0 < v.parts → IsShare whole share v → Cuts whole share (cut_parts v) (cut_of v)
cuts whole share v has s = cuts_by (nat_lt 1 v.parts) whole share v.parts v.of refl has s.cut s.exact

less_one : (parts whole : ℕ) → 0 < parts → parts * whole ≡ (parts - 1) * whole + whole
less_one zero whole h = absurd (omega (arith, h))
less_one (suc parts) whole h = let back : suc parts - 1 ≡ parts = omega arith in suc-mul parts whole ∙ ap (λ n. n * whole + whole) (sym back)

-- one part less for a pass, and one part for a new one
given_share : (views : List PassState) (i : ℕ) (v : PassState) → get_elem? views i ≡ some v → 0 < v.parts → IsShared views → IsShared (set views i (kept_of v) ++ given_of v ∷ [])
given_share views i v at has s =
    let of = cut_of v in
    let parts = cut_parts v in
    let whole = s.whole * of in
    let shares = times of s.shares in
    let p = portion whole shares views i v (each-times s.whole of s.shares views s.each) at in
    let c : Cuts whole p.share parts of = cuts whole p.share v has p.is in
    let exact : p.share ≡ parts * s.whole = eq_of_mul-eq-mul_right of c.cut p.share (parts * s.whole) (c.exact ∙ sym (mul_assoc parts s.whole of)) in
    let kept = (parts - 1) * s.whole in
    let kept_is : IsShare whole kept (kept_of v) = record {
      exact = mul_assoc (parts - 1) s.whole of;
      cut = c.cut;
      idle = λ none. absurd (omega (arith, none, c.some_more));
    } in
    let given_is : IsShare whole s.whole (given_of v) = record {
      exact = sym (one-mul (s.whole * of));
      cut = c.cut;
      idle = λ none. (refl, refl);
    } in
    record {
      whole = whole;
      shares = set shares i kept ++ s.whole ∷ [];
      positive = mul-pos s.positive c.cut;
      all = omega (arith, sum-snoc (set shares i kept) s.whole, p.all kept, exact, less_one parts s.whole (omega (arith, c.some_more)), sum-times of s.shares, ap (λ n. n * of) s.all);
      each = each-snoc whole s.whole (given_of v) (set shares i kept) (set views i (kept_of v)) (p.each (kept_of v) kept kept_is) given_is;
    }

pub splits : (i : ℕ) (v : PassState) → 0 < v.parts → Forks IsBalanced i v (kept_of v) (given_of v)
splits i v has items views b at =
    let vs = set views i (kept_of v) in
    record {
      parcels = subst (λ (l : List Parcel × List Parcel). IsPermutation l.0 (l.1 ++ items))
          (λ k. (sym (flat_map-snoc (λ u. u.put) vs (given_of v) refl) k, sym (flat_map-snoc (λ u. u.taken) vs (given_of v) refl) k))
          (changed items items views i v (kept_of v) at (λ h. refl) b.parcels);
      parts = given_share views i v at has b.parts;
    }

-- the parts of two passes added up
pub record Sums (whole share parts of : ℕ) : Type 0 where
  pub exact : share * of ≡ parts * whole
  pub has : 0 < parts
  pub cut : 0 < of

sums_by : (b : Bool) (whole s p d t q e : ℕ) → (d == e) ≡ b → s * d ≡ p * whole → t * e ≡ q * whole → 0 < p → 0 < d → 0 < e
    → Sums whole (s + t) (if b then p + q else p * e + q * d) (if b then d else d * e)
sums_by true whole s p d t q e same one other has d_some e_some = record {
  exact = add-mul s t d ∙ omega (arith, one, other, ap (λ n. t * n) (eqb-true d e same), add-mul p q whole);
  has = omega (arith, has);
  cut = d_some;
}
sums_by false whole s p d t q e same one other has d_some e_some = record {
  exact =
      let first : s * (d * e) ≡ p * e * whole = sym (mul_assoc s d e) ∙ ap (λ n. n * e) one ∙ mul_right_comm p whole e in
      let second : t * (d * e) ≡ q * d * whole =
      ap (λ n. t * n) (mul_comm d e) ∙ sym (mul_assoc t e d) ∙ ap (λ n. n * d) other ∙ mul_right_comm q whole d in
      add-mul s t (d * e) ∙ omega (arith, first, second, add-mul (p * e) (q * d) whole);
  has = let some_part : 0 < p * e = mul-pos has e_some in omega (arith, some_part);
  cut = mul-pos d_some e_some;
}

pub sums : (whole s t : ℕ) (v w : PassState) → 0 < v.parts → IsShare whole s v → IsShare whole t w → Sums whole (s + t) (joined_parts v w) (joined_of_parts v w)
sums whole s t v w has one other =
    sums_by (v.of == w.of) whole s v.parts v.of t w.parts w.of refl one.exact other.exact has one.cut other.cut

joined_share : (views : List PassState) (i j : ℕ) (v w : PassState) → get_elem? views i ≡ some v → get_elem? views j ≡ some w
    → get_elem? (set views i (joined_of v w)) j ≡ some w → 0 < v.parts → IsShared views → IsShared (set (set views i (joined_of v w)) j spent_state)
joined_share views i j v w at at_other still has s =
    let one = portion s.whole s.shares views i v s.each at in
    let other = portion s.whole s.shares views j w s.each at_other in
    let share = one.share + other.share in
    let add = sums s.whole one.share other.share v w has one.is other.is in
    let both : IsShare s.whole share (joined_of v w) = record {
      exact = add.exact;
      cut = add.cut;
      idle = λ none. absurd (omega (arith, none, add.has));
    } in
    let shares = set s.shares i share in
    let left = portion s.whole shares (set views i (joined_of v w)) j w (one.each (joined_of v w) share both) still in
    let same : left.share ≡ other.share = eq_of_mul-eq-mul_right w.of other.is.cut left.share other.share (left.is.exact ∙ sym other.is.exact) in
    record {
      whole = s.whole;
      shares = set shares j 0;
      positive = s.positive;
      all = omega (arith, left.all 0, one.all share, same, s.all);
      each = left.each spent_state 0 (record { exact = zero-mul 1 ∙ sym (zero-mul s.whole); cut = lit< tt; idle = λ none. (refl, refl) });
    }

-- what the lists of all views weigh after two were joined
joined_weight : (f : PassState → List Parcel) (h : Parcel → ℕ) (views : List PassState) (i j : ℕ) (v w both spent : PassState) → get_elem? views i ≡ some v
    → get_elem? (set views i both) j ≡ some w → f both ≡ f v ++ f w → f spent ≡ []
    → sum_by h (flat_map f (set (set views i both) j spent)) ≡ sum_by h (flat_map f views)
joined_weight f h views i j v w both spent at still lists none =
    omega (arith, flat_map-set f h views i v both at, flat_map-set f h (set views i both) j w spent still, ap (sum_by h) lists, ap (sum_by h) none, sum_by-append h (f v) (f w))

pub joins : (i : ℕ) (v : PassState) (j : ℕ) (w : PassState) → 0 < v.parts → Merges IsBalanced i v j w (joined_of v w) spent_state
joins i v j w has items views b at two still =
    let at_other : get_elem? views j ≡ some w = ⊎_elim (λ x. absurd (two x.0)) (λ x. x.1) (at_set views i j (joined_of v w) w still) in
    record {
      parcels = balances items (set (set views i (joined_of v w)) j spent_state) (λ h.
          omega (
            arith,
            weighs items views b.parcels h,
            joined_weight (λ u. u.put) h views i j v w (joined_of v w) spent_state at still refl refl,
            joined_weight (λ u. u.taken) h views i j v w (joined_of v w) spent_state at still refl refl,
          ));
      parts = joined_share views i j v w at at_other still has b.parts;
    }

-- the pass with every part is alone, so its lists are all that was put and taken
pub accounts : (i : ℕ) (v : PassState) → IsWhole v → Learns IsBalanced i v (λ items. IsPermutation v.put (v.taken ++ items))
accounts i v every items views b at =
    let s = b.parts in
    let p = portion s.whole s.shares views i v s.each at in
    let exact : p.share * v.of ≡ s.whole * v.of = p.is.exact ∙ ap (λ n. n * s.whole) every ∙ mul_comm v.of s.whole in
    let share : p.share ≡ s.whole = eq_of_mul-eq-mul_right v.of p.is.cut p.share s.whole exact in
    let alone : Alone v views = p.alone s.positive (s.all ∙ sym share) in
    subst (λ (l : List Parcel × List Parcel). IsPermutation l.0 (l.1 ++ items)) (λ k. (alone.0 k, alone.1 k)) b.parcels

nothing_left : (taken left : List Parcel) → length (taken ++ left) ≡ length taken → taken ++ left ≡ taken
nothing_left taken [] e = append-nil taken
nothing_left taken (x ∷ left) e = absurd (omega (arith, e, length-append taken (x ∷ left)))

-- where as much was taken as was put, nothing is left
pub settles : (put taken left : List Parcel) → length taken ≡ length put → IsPermutation put (taken ++ left) → IsPermutation put taken
settles put taken left e p = subst (IsPermutation put) (nothing_left taken left (length_permutation put (taken ++ left) p ∙ sym e)) p

-- a pass that has parts to give isn't cut further
pub cut-many : (v : PassState) → 1 < v.parts → (cut_parts v - 1 + 1 ≡ v.parts) × (cut_of v ≡ v.of)
cut-many v more = let e : nat_lt 1 v.parts ≡ true = lt-ltb 1 v.parts more in (rw e (omega (arith, more)), rw e refl)

-- parts that are as large as one another add up
pub joined-alike : (v w : PassState) → v.of ≡ w.of → (joined_parts v w ≡ v.parts + w.parts) × (joined_of_parts v w ≡ v.of)
joined-alike v w same = let e : (v.of == w.of) ≡ true = eq-eqb v.of w.of same in (rw e refl, rw e refl)
