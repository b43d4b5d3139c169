-- How the numbers that the passes hold change with their views.
use Rattle.std.proofs.Common.{◌≡◌, ℕ, zero, suc, ◌+◌, ◌*◌, ◌<◌, ◌≤◌, List, [], ◌∷◌, ◌++◌, map, sum, flat_map, set, refl, sym, ap, ◌∙◌, subst, arith, append-nil, mul_assoc, add-mul, suc-mul}
use native.Mathlib.Nat.{mul_right_comm, zero-mul}
use Rattle.std.proofs.lemmas.List.Sums.{sum_by-cons, sum_by-append}
use mathlib.Core.Option.{some, some-injective, some-ne-none}
use lib.ListN.{get_elem?}
use Rattle.jr_crew_channel.specs.declared.parcel.PassState.{PassState}
use Rattle.jr_crew_channel.specs.Shares.{IsShare, AreShares}

sum-cons : (x : ℕ) (xs : List ℕ) → sum (x ∷ xs) ≡ x + sum xs
sum-cons x xs = sum_by-cons (λ n. n) x xs

pub sum-snoc : (xs : List ℕ) (x : ℕ) → sum (xs ++ x ∷ []) ≡ sum xs + x
sum-snoc xs x = omega (arith, sum_by-append (λ n. n) xs (x ∷ []), sum-cons x [])

-- a view with nothing put and nothing taken
abbrev Idle : PassState → Type 0
Idle v = (v.put ≡ []) × (v.taken ≡ [])

-- no view has anything put or taken
abbrev AllIdle : List PassState → Type 0
AllIdle views = (flat_map (λ v. v.put) views ≡ []) × (flat_map (λ v. v.taken) views ≡ [])

-- only this view has
abbrev pub Alone : PassState → List PassState → Type 0
Alone v views = (flat_map (λ u. u.put) views ≡ v.put) × (flat_map (λ u. u.taken) views ≡ v.taken)

no_parts : (whole parts share of : ℕ) → 0 < whole → share ≡ 0 → share * of ≡ parts * whole → parts ≡ 0
no_parts whole zero share of positive none e = refl
no_parts whole (suc parts) share of positive none e =
    absurd (omega (arith, positive, suc-mul parts whole, e, ap (λ n. n * of) none, zero-mul of))

idle_share : (whole share : ℕ) (v : PassState) → 0 < whole → share ≡ 0 → IsShare whole share v → Idle v
idle_share whole share v positive none s = s.idle (no_parts whole v.parts share v.of positive none s.exact)

idle_cons : (v : PassState) (views : List PassState) → Idle v → AllIdle views → AllIdle (v ∷ views)
idle_cons v views i all = (rw (i.0, all.0) refl, rw (i.1, all.1) refl)

all_idle : (whole : ℕ) (shares : List ℕ) (views : List PassState) → 0 < whole → sum shares ≡ 0 → AreShares whole shares views → AllIdle views
all_idle whole [] [] positive none each = (refl, refl)
all_idle whole [] (v ∷ views) positive none each = absurd each
all_idle whole (s ∷ shares) [] positive none each = absurd each
all_idle whole (s ∷ shares) (v ∷ views) positive none each =
    idle_cons v views (idle_share whole s v positive (omega (arith, none, sum-cons s shares)) each.0)
    (all_idle whole shares views positive (omega (arith, none, sum-cons s shares)) each.1)

-- the share of one view, and what comes of changing it
pub record Portion (whole : ℕ) (shares : List ℕ) (views : List PassState) (i : ℕ) (v : PassState) : Type 0 where
  pub share : ℕ
  pub is : IsShare whole share v
  pub within : share ≤ sum shares
  pub each : (w : PassState) (s : ℕ) → IsShare whole s w → AreShares whole (set shares i s) (set views i w)
  pub all : (s : ℕ) → sum (set shares i s) + share ≡ sum shares + s
  pub alone : 0 < whole → sum shares ≡ share → Alone v views

alone_first : (whole s : ℕ) (shares : List ℕ) (v : PassState) (views : List PassState) → AreShares whole shares views → 0 < whole → sum (s ∷ shares) ≡ s → Alone v (v ∷ views)
alone_first whole s shares v views each positive e =
    let none = all_idle whole shares views positive (omega (arith, e, sum-cons s shares)) each in
    (rw none.0 (append-nil v.put), rw none.1 (append-nil v.taken))

alone_behind : (x v : PassState) (views : List PassState) → Idle x → Alone v views → Alone v (x ∷ views)
alone_behind x v views i a = (rw i.0 a.0, rw i.1 a.1)

pub portion : (whole : ℕ) (shares : List ℕ) (views : List PassState) (i : ℕ) (v : PassState) → AreShares whole shares views → get_elem? views i ≡ some v → Portion whole shares views i v
portion whole [] [] i v each e = absurd (some-ne-none v (sym e))
portion whole [] (x ∷ views) i v each e = absurd each
portion whole (s ∷ shares) [] i v each e = absurd each
portion whole (s ∷ shares) (x ∷ views) zero v each e = record {
  share = s;
  is = subst (IsShare whole s) (some-injective x v e) each.0;
  within = omega (arith, sum-cons s shares);
  each = λ w t is. (is, each.1);
  all = λ t. omega (arith, sum-cons s shares, sum-cons t shares);
  alone = λ positive sum_is. subst (λ y. Alone y (x ∷ views)) (some-injective x v e) (alone_first whole s shares x views each.1 positive sum_is);
}
portion whole (s ∷ shares) (x ∷ views) (suc i) v each e = let behind = portion whole shares views i v each.1 e in record {
  share = behind.share;
  is = behind.is;
  within = omega (arith, behind.within, sum-cons s shares);
  each = λ w t is. (each.0, behind.each w t is);
  all = λ t. omega (arith, behind.all t, sum-cons s shares, sum-cons s (set shares i t));
  alone = λ positive sum_is.
      alone_behind x v views (idle_share whole s x positive (omega (arith, sum_is, behind.within, sum-cons s shares)) each.0)
      (behind.alone positive (omega (arith, sum_is, behind.within, sum-cons s shares)));
}

-- the same shares of a whole that is so many times as large
abbrev pub times : ℕ → List ℕ → List ℕ
times k shares = map (λ s. s * k) shares

pub sum-times : (k : ℕ) (shares : List ℕ) → sum (times k shares) ≡ sum shares * k
sum-times k [] = sym (zero-mul k)
sum-times k (s ∷ shares) =
    omega (arith, sum-cons (s * k) (times k shares), sum-times k shares, ap (λ n. n * k) (sum-cons s shares), add-mul s (sum shares) k)

share-times : (whole k share : ℕ) (v : PassState) → IsShare whole share v → IsShare (whole * k) (share * k) v
share-times whole k share v s = record {
  exact = mul_right_comm share k v.of ∙ ap (λ n. n * k) s.exact ∙ mul_assoc v.parts whole k;
  cut = s.cut;
  idle = s.idle;
}

pub each-times : (whole k : ℕ) (shares : List ℕ) (views : List PassState) → AreShares whole shares views → AreShares (whole * k) (times k shares) views
each-times whole k [] [] each = tt
each-times whole k [] (v ∷ views) each = absurd each
each-times whole k (s ∷ shares) [] each = absurd each
each-times whole k (s ∷ shares) (v ∷ views) each = (share-times whole k s v each.0, each-times whole k shares views each.1)

pub each-snoc : (whole s : ℕ) (v : PassState) (shares : List ℕ) (views : List PassState) → AreShares whole shares views → IsShare whole s v → AreShares whole (shares ++ s ∷ []) (views ++ v ∷ [])
each-snoc whole s v [] [] each is = (is, tt)
each-snoc whole s v [] (x ∷ views) each is = absurd each
each-snoc whole s v (x ∷ shares) [] each is = absurd each
each-snoc whole s v (x ∷ shares) (y ∷ views) each is = (each.0, each-snoc whole s v shares views each.1 is)
