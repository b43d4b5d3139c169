-- Lists of blocks that ascend, one block more, and what the list then has.
use Rattle.std.proofs.Common.{◌≡◌, ℕ, ◌+◌, ◌<◌, ◌≤◌, max, Bool, false, List, [], ◌∷◌, ◌++◌, length, get_or, take, refl, sym, ap, ◌∙◌, arith, inl, inr, length-append}
use Rattle.std.specs.Prelude.{◌==◌, ◌&&◌, ◌||◌, nat_le, nat_lt, flat_map, map}
use Rattle.std.proofs.lemmas.List.{flat_map_more, take_more}
use Rattle.std.specs.List.{list_any}
use Rattle.std.specs.List.Sorted.{IsStrictlyIncreasing}
use Rattle.std.proofs.Math.ListN.{get_or-append}
use Rattle.std.proofs.Math.Seq.{get_or-append_seam}
use Rattle.std.proofs.lemmas.Bool.{cases_lt}
use Rattle.std.proofs.lemmas.Bool.Decides.{nat_tests}
use Rattle.std.proofs.lemmas.List.Folds.{list_any-append}
use Rattle.std.proofs.Math.Bool.{or-false, or_assoc}
use Rattle.jr_report_maps.specs.BadBlocks.{is_listed}
use Rattle.jr_report_maps.specs.Sweeps.{IsRising}

-- one block more is listed
pub listed_push : (blocks : List ℕ) (x block : ℕ) → is_listed (blocks ++ x ∷ []) block ≡ (is_listed blocks block || (x == block))
listed_push blocks x block =
    list_any-append (λ n. n == block) blocks (x ∷ [])
    ∙ ap (λ (b : Bool). is_listed blocks block || b) (or-false (x == block))

within_step : (from i block : ℕ) → from ≤ i → ((nat_le from block && nat_lt block i) || (i == block)) ≡ (nat_le from block && nat_lt block (i + 1))
within_step from i block low = grind (arith, nat_tests)

pub listed_step : (a : Bool) (from i block : ℕ) → from ≤ i
    → ((a || (nat_le from block && nat_lt block i)) || (i == block)) ≡ (a || (nat_le from block && nat_lt block (i + 1)))
listed_step a from i block low =
    or_assoc a (nat_le from block && nat_lt block i) (i == block)
    ∙ ap (λ (b : Bool). a || b) (within_step from i block low)

within_none : (from block : ℕ) → (nat_le from block && nat_lt block from) ≡ false
within_none from block = grind (arith, nat_tests)

pub listed_none : (a : Bool) (from block : ℕ) → a ≡ (a || (nat_le from block && nat_lt block from))
listed_none a from block = sym (ap (λ (b : Bool). a || b) (within_none from block) ∙ or-false a)

-- the loop's counter at its end
pub counted_to : (from end i : ℕ) → from ≤ i → i ≤ max from end → end ≤ i → i ≡ max from end
counted_to from end i low high over = omega arith

within_end : (from end block : ℕ) → (nat_le from block && nat_lt block (max from end)) ≡ (nat_le from block && nat_lt block end)
within_end from end block = grind (arith, nat_tests)

pub listed_end : (a : Bool) (from end i block : ℕ) → i ≡ max from end
    → (a || (nat_le from block && nat_lt block i)) ≡ (a || (nat_le from block && nat_lt block end))
listed_end a from end i block is =
    ap (λ (x : ℕ). a || (nat_le from block && nat_lt block x)) is
    ∙ ap (λ (b : Bool). a || b) (within_end from end block)

pub rising_none : (next : ℕ) → IsRising [] next
rising_none next = record { ascending = λ k h. absurd (omega arith); below = λ k h. absurd (omega arith) }

pub rising_on : (blocks : List ℕ) (next end : ℕ) → next ≤ end → IsRising blocks next → IsRising blocks end
rising_on blocks next end more up = record { ascending = up.ascending; below = λ k h. omega (arith, up.below k h) }

pub rising_push : (blocks : List ℕ) (x : ℕ) → IsRising blocks x → IsRising (blocks ++ x ∷ []) (x + 1)
rising_push blocks x up = record { ascending = ascending; below = below }
  where
    longer : length (blocks ++ x ∷ []) ≡ length blocks + 1
    longer = length-append blocks (x ∷ [])

    old : (k : ℕ) → k < length blocks → get_or (blocks ++ x ∷ []) k 0 ≡ get_or blocks k 0
    old k h = get_or-append blocks (x ∷ []) 0 k h

    last : (k : ℕ) → k ≡ length blocks → get_or (blocks ++ x ∷ []) k 0 ≡ x
    last k is = ap (λ (j : ℕ). get_or (blocks ++ x ∷ []) j 0) is ∙ get_or-append_seam blocks x [] 0

    ascending : IsStrictlyIncreasing (blocks ++ x ∷ [])
    ascending k h = elim (cases_lt (k + 1) (length blocks)) [
      | inl under ↦
          let here : get_or (blocks ++ x ∷ []) k 0 ≡ get_or blocks k 0 = old k (omega arith) in
          let there : get_or (blocks ++ x ∷ []) (k + 1) 0 ≡ get_or blocks (k + 1) 0 = old (k + 1) under in
          omega (arith, here, there, up.ascending k under)
      | inr over ↦
          let within : k < length blocks = omega (arith, longer) in
          let here : get_or (blocks ++ x ∷ []) k 0 ≡ get_or blocks k 0 = old k within in
          let there : get_or (blocks ++ x ∷ []) (k + 1) 0 ≡ x = last (k + 1) (omega (arith, longer)) in
          omega (arith, here, there, up.below k within)
    ]

    below : (k : ℕ) → k < length (blocks ++ x ∷ []) → get_or (blocks ++ x ∷ []) k 0 < x + 1
    below k h = elim (cases_lt k (length blocks)) [
      | inl under ↦ let here : get_or (blocks ++ x ∷ []) k 0 ≡ get_or blocks k 0 = old k under in omega (arith, here, up.below k under)
      | inr over ↦ let here : get_or (blocks ++ x ∷ []) k 0 ≡ x = last k (omega (arith, longer)) in omega (arith, here)
    ]

-- a test of what a list maps to
pub any_map : {X Y : Type 0} (p : Y → Bool) (f : X → Y) (xs : List X) → list_any p (map f xs) ≡ list_any (λ x. p (f x)) xs
any_map p f [] = refl
any_map p f (x ∷ xs) = ap (λ (b : Bool). p (f x) || b) (any_map p f xs)

-- the lines of one block more
pub lines_more : (line : ℕ → List ℕ) (before after xs : List ℕ) (i : ℕ) → i < length xs → before ≡ flat_map line (take i xs)
    → after ≡ before ++ line (get_or xs i 0) → after ≡ flat_map line (take (i + 1) xs)
lines_more line before after xs i within so more =
    more
    ∙ ap (λ (t : List ℕ). t ++ line (get_or xs i 0)) so
    ∙ flat_map_more line [] (take i xs) (get_or xs i 0)
    ∙ ap (λ (ys : List ℕ). flat_map line ys) (sym (take_more xs i 0 within))
