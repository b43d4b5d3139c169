-- What holds of each number below another.
use Rattle.std.proofs.Common.{◌≡◌, ℕ, zero, suc, ◌+◌, ◌<◌, Bool, true, false, refl, ap, ◌∙◌, arith}
use Rattle.std.specs.List.{list_all, range_with_len}
use Rattle.std.proofs.lemmas.Bool.{and_from, and_left, and_right}

pub all_below : (p : ℕ → Bool) (a n : ℕ) → ((k : ℕ) → k < n → p (a + k) ≡ true) → list_all p (range_with_len a n) ≡ true
all_below p a zero f = refl
all_below p a (suc n) f =
    and_from (p a) (list_all p (range_with_len (a + 1) n))
    (ap p (let e : a ≡ a + 0 = omega arith in e) ∙ f 0 (omega arith))
    (all_below p (a + 1) n (λ k h. ap p (let e : a + 1 + k ≡ a + suc k = omega arith in e) ∙ f (suc k) (omega (arith, h))))

pub not_all_below : (p : ℕ → Bool) (a n k : ℕ) → k < n → p (a + k) ≡ false → list_all p (range_with_len a n) ≡ false
not_all_below p a zero k below h = absurd (omega (arith, below))
not_all_below p a (suc n) zero below h =
    and_left (p a) (list_all p (range_with_len (a + 1) n)) (ap p (let e : a ≡ a + 0 = omega arith in e) ∙ h)
not_all_below p a (suc n) (suc k) below h =
    and_right (p a) (list_all p (range_with_len (a + 1) n))
    (not_all_below p (a + 1) n k (omega (arith, below)) (ap p (let e : a + 1 + k ≡ a + suc k = omega arith in e) ∙ h))
