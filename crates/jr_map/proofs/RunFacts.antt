-- What a walk along clear bits finds.
use Rattle.std.proofs.Common.{◌≡◌, ℕ, ◌+◌, ◌-◌, ◌*◌, ◌/◌, ◌%◌, ◌^◌, ◌<◌, ◌≤◌, min, max, false, List, length, get_or, w64, ap, ◌∙◌, inl, inr, arith}
use Rattle.std.specs.Int.{bit_at, trailing_zeros}
use Rattle.std.proofs.lemmas.Bool.{cases_lt}
use Rattle.jr_map.specs.Words.{is_set, IsClearRun}
use Rattle.jr_map.proofs.WordFacts.{IsLowestFrom, none_from, lowest_from, word_at-in, set_at, clear_at, past_is_set, clear_within}

-- the bits from a place to a word are clear, and fewer than are wanted
pub record ClearSoFar (ws : List ℕ) (from want i : ℕ) : Type 0 where
  pub clear : (p : ℕ) → from ≤ p → p < 64 * i → is_set ws p ≡ false
  pub fewer : from < 64 * i → 64 * i < from + want

pub word_clear : (ws : List ℕ) (from want i start : ℕ) → start ≡ max from (64 * i) → i < length ws → from / 64 ≤ i → ClearSoFar ws from want i → get_or ws i 0 / 2 ^ (start - 64 * i) ≡ 0 → (p : ℕ) → from ≤ p → p < 64 * (i + 1) → is_set ws p ≡ false
word_clear ws from want i start at within first far zero p ge lt =
    elim (cases_lt p (64 * i)) [
      | inl before ↦ far.clear p ge before
      | inr here ↦
          clear_at ws p i (get_or ws i 0) (omega arith) (word_at-in ws i within)
          (none_from (get_or ws i 0) (start - 64 * i) zero (p % 64) (omega arith))
    ]

pub run_wanted : (ws : List ℕ) (from want i start : ℕ) → start ≡ max from (64 * i) → i < length ws → from / 64 ≤ i → ClearSoFar ws from want i → get_or ws i 0 / 2 ^ (start - 64 * i) ≡ 0 → want ≤ 64 * (i + 1) - from → IsClearRun ws from want want
run_wanted ws from want i start at within first far zero enough =
    record {
      most = omega arith;
      clear = λ p ge lt. word_clear ws from want i start at within first far zero p ge (omega arith);
      end = λ lt. absurd (omega arith);
    }

stops_at : (ws : List ℕ) (from want i start t : ℕ) → start ≡ max from (64 * i) → i < length ws → from / 64 ≤ i → ClearSoFar ws from want i → IsLowestFrom (get_or ws i 0) (start - 64 * i) t → IsClearRun ws from want (min want (start - from + t))
stops_at ws from want i start t at within first far lowest =
    let inside = lowest.within in
    record {
      most = omega arith;
      clear = λ p ge lt.
          elim (cases_lt p (64 * i)) [
            | inl before ↦ far.clear p ge before
            | inr here ↦
                clear_at ws p i (get_or ws i 0) (omega arith) (word_at-in ws i within)
                (lowest.before (p % 64) (omega arith) (omega arith))
          ];
      end = λ lt.
          let bit : (from + min want (start - from + t)) % 64 ≡ start - 64 * i + t = omega arith in
          set_at ws (from + min want (start - from + t)) i (get_or ws i 0) (omega arith) (word_at-in ws i within)
          (ap (bit_at (get_or ws i 0)) bit ∙ lowest.here);
    }

pub record StopsInWord (ws : List ℕ) (from want i start t : ℕ) : Type 0 where
  pub within : start - 64 * i + t < 64
  pub run : IsClearRun ws from want (min want (start - from + t))

pub run_stops : (ws : List ℕ) (from want i start : ℕ) → start ≡ max from (64 * i) → i < length ws → from / 64 ≤ i → ClearSoFar ws from want i → get_or ws i 0 < 2 ^ 64 → (get_or ws i 0 / 2 ^ (start - 64 * i) ≡ 0 → ⊥) → StopsInWord ws from want i start (trailing_zeros w64 (get_or ws i 0 / 2 ^ (start - 64 * i)))
run_stops ws from want i start at within first far fits some =
    let lowest = lowest_from (get_or ws i 0) (start - 64 * i) fits some in
    record {
      within = lowest.within;
      run = stops_at ws from want i start (trailing_zeros w64 (get_or ws i 0 / 2 ^ (start - 64 * i))) at within first far lowest;
    }

pub far_more : (ws : List ℕ) (from want i start : ℕ) → start ≡ max from (64 * i) → i < length ws → from / 64 ≤ i → ClearSoFar ws from want i → get_or ws i 0 / 2 ^ (start - 64 * i) ≡ 0 → 64 * (i + 1) - from < want → ClearSoFar ws from want (i + 1)
far_more ws from want i start at within first far zero more =
    record {
      clear = λ p ge lt. word_clear ws from want i start at within first far zero p ge lt;
      fewer = λ lt. omega arith;
    }

pub far_none : (ws : List ℕ) (from want : ℕ) → ClearSoFar ws from want (from / 64)
far_none ws from want = record { clear = λ p ge lt. absurd (omega arith); fewer = λ lt. absurd (omega arith) }

-- at the end of the words
pub run_to_end : (ws : List ℕ) (from want : ℕ) → is_set ws from ≡ false → ClearSoFar ws from want (length ws) → IsClearRun ws from want (64 * length ws - from)
run_to_end ws from want clear far =
    let within = clear_within ws from clear in
    let fewer = far.fewer (omega arith) in
    record {
      most = omega arith;
      clear = λ p ge lt. far.clear p ge (omega arith);
      end = λ lt. past_is_set ws (from + (64 * length ws - from)) (omega arith);
    }
