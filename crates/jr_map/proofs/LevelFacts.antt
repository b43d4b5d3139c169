-- What the levels of a map say of one another.
use Rattle.std.proofs.Common.{◌≡◌, ℕ, ◌+◌, ◌*◌, ◌/◌, ◌≤◌, List, length, sym, ◌∙◌, inl, inr, arith}
use Rattle.std.proofs.lemmas.Bool.{cases_lt, cases_eq}
use Rattle.jr_map.specs.Words.{Summarizes, IsLeastClear, AllSet, AllSetInWord}
use Rattle.jr_map.proofs.WordFacts.{past_is_set, full_is_set}

-- nothing is clear in a word, and no later word has a clear bit
pub none_above : (lower upper : List ℕ) (from : ℕ) → Summarizes lower upper → AllSetInWord lower from → AllSet upper (from / 64 + 1) → AllSet lower from
none_above lower upper from summed here above =
    record {
      each = λ p ge.
          elim (cases_eq (p / 64) (from / 64)) [
            | inl same ↦ here.each p ge same
            | inr later ↦ full_is_set lower p (p / 64) (omega arith) (sym (summed.each (p / 64)) ∙ above.each (p / 64) (omega arith))
          ];
    }

-- nothing is clear in a word, and a later word is the first with a clear bit
pub least_above : (lower upper : List ℕ) (from word bit : ℕ) → Summarizes lower upper → AllSetInWord lower from → IsLeastClear upper (from / 64 + 1) word → IsLeastClear lower (64 * word) bit → bit / 64 ≡ word → IsLeastClear lower from bit
least_above lower upper from word bit summed here above least place =
    let later = above.start in
    record {
      start = omega arith;
      clear = least.clear;
      set = λ p ge lt.
          elim (cases_eq (p / 64) (from / 64)) [
            | inl same ↦ here.each p ge same
            | inr other ↦
                elim (cases_lt (p / 64) word) [
                  | inl before ↦ full_is_set lower p (p / 64) (omega arith) (sym (summed.each (p / 64)) ∙ above.set (p / 64) (omega arith) before)
                  | inr at ↦ least.set p (omega arith) lt
                ]
          ];
    }

-- a level of one word has no other bits
pub none_in_top : (top : List ℕ) (from : ℕ) → length top ≤ 1 → AllSetInWord top from → AllSet top from
none_in_top top from one here =
    record {
      each = λ p ge.
          elim (cases_eq (p / 64) (from / 64)) [
            | inl same ↦ here.each p ge same
            | inr later ↦ past_is_set top p (omega arith)
          ];
    }
