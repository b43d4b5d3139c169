-- The cells of a map, one event more and one cell more; of what kind they are doesn't matter.
use Rattle.std.proofs.Common.{◌≡◌, ℕ, ◌+◌, ◌<◌, ◌≤◌, min, max, Bool, true, false, List, length, get_or, sym, ap, ◌∙◌, arith, inl, inr}
use Rattle.std.specs.Prelude.{◌&&◌, nat_le, nat_lt, if◌then◌else◌}
use Rattle.std.proofs.lemmas.Bool.{cases_eq}
use Rattle.std.proofs.lemmas.Bool.Decides.{nat_tests}
use Rattle.jr_report_maps.specs.declared.fates.Fate.{Fate}
use Rattle.jr_report_maps.specs.declared.fates.Fate.TheVariants.{Skipped, Unchecked, Untouched}

at_self : (first i : ℕ) → (nat_le first i && nat_lt i i) ≡ false
at_self first i = grind (arith, nat_tests)

at_next : (first i : ℕ) → first ≤ i → (nat_le first i && nat_lt i (i + 1)) ≡ true
at_next first i low = grind (arith, nat_tests)

at_other : (first i k : ℕ) → (k ≡ i → ⊥) → (nat_le first k && nat_lt k i) ≡ (nat_le first k && nat_lt k (i + 1))
at_other first i k other = grind (arith, nat_tests)

at_end : (first until end i n k : ℕ) → k < n → until ≡ min end n → i ≡ max first until
    → (nat_le first k && nat_lt k i) ≡ (nat_le first k && nat_lt k end)
at_end first until end i n k within is_until is = grind (arith, nat_tests)

-- where the test passes, what comes of it
abbrev pub painted_by : {X : Type 0} → (X → X) → Bool → X → X
painted_by f test was = if test then f was else was

-- so of the cells from `first` on up to i
abbrev pub Painted : {X : Type 0} → (X → X) → List X → List X → ℕ → ℕ → Type 0
Painted {X} f old cells first i =
    (k : ℕ) (d : X) → k < length cells → get_or cells k d ≡ painted_by f (nat_le first k && nat_lt k i) (get_or old k d)

pub painted_none : {X : Type 0} (f : X → X) (old : List X) (first : ℕ) → Painted f old old first first
painted_none {X} f old first k d within = sym (ap (λ (b : Bool). painted_by f b (get_or old k d)) (at_self_of k))
  where
    at_self_of : (k : ℕ) → (nat_le first k && nat_lt k first) ≡ false
    at_self_of k = grind (arith, nat_tests)

pub painted_more : {X : Type 0} (f : X → X) (old was now : List X) (first i : ℕ) → first ≤ i → i < length was → length now ≡ length was
    → ((d : X) → get_or now i d ≡ f (get_or was i d))
    → ((k : ℕ) (d : X) → (k ≡ i → ⊥) → get_or now k d ≡ get_or was k d)
    → Painted f old was first i → Painted f old now first (i + 1)
painted_more {X} f old was now first i low inside same this others so k d within = elim (cases_eq k i) [
  | inl is ↦
      ap (λ (j : ℕ). get_or now j d) is
      ∙ this d
      ∙ ap f (so i d inside ∙ ap (λ (b : Bool). painted_by f b (get_or old i d)) (at_self first i))
      ∙ sym (ap (λ (b : Bool). painted_by f b (get_or old i d)) (at_next first i low))
      ∙ sym (ap (λ (j : ℕ). painted_by f (nat_le first j && nat_lt j (i + 1)) (get_or old j d)) is)
  | inr other ↦
      others k d other
      ∙ so k d (omega (arith, same, within))
      ∙ ap (λ (b : Bool). painted_by f b (get_or old k d)) (at_other first i k other)
]

pub painted_end : {X : Type 0} (f : X → X) (old cells : List X) (first until end i : ℕ) → until ≡ min end (length cells) → i ≡ max first until
    → Painted f old cells first i → Painted f old cells first end
painted_end {X} f old cells first until end i is_until is so k d within =
    so k d within
    ∙ ap (λ (b : Bool). painted_by f b (get_or old k d)) (at_end first until end i (length cells) k within is_until is)

-- what is said of a write that ended whole
abbrev pub said : Bool → Bool → Fate
said skipped judged = if skipped then Skipped else (if judged then Untouched else Unchecked)

pub said_skipped : (a b : Bool) → a ≡ true → Skipped ≡ said a b
said_skipped a b is = sym (ap (λ (x : Bool). said x b) is)

pub said_judged : (a b : Bool) → a ≡ false → b ≡ true → Untouched ≡ said a b
said_judged a b not_a is = sym (ap (λ (x : Bool). said x b) not_a ∙ ap (λ (x : Bool). said false x) is)

pub said_nothing : (a b : Bool) → a ≡ false → b ≡ false → Unchecked ≡ said a b
said_nothing a b not_a not_b = sym (ap (λ (x : Bool). said x b) not_a ∙ ap (λ (x : Bool). said false x) not_b)
