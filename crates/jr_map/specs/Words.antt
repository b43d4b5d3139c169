-- Internal: words of 64 bits in a row, whose bits are numbered on from the lowest bit of the first word.
use Rattle.std.specs.Prelude.{◌≡◌, ℕ, ◌+◌, ◌-◌, ◌/◌, ◌%◌, ◌^◌, ◌<◌, ◌≤◌, ◌==◌, Bool, true, false, List, Option, slice_index_or, MatchOption}
use Rattle.std.specs.Int.{bit_at}

-- a word with all its bits set
abbrev pub full_word : ℕ
full_word = 2 ^ 64 - 1

-- the word at a place; one that isn't there is full
unfoldable pub word_at : List ℕ → ℕ → ℕ
word_at words i = slice_index_or words i full_word

-- whether a word is full
unfoldable pub is_full : List ℕ → ℕ → Bool
is_full words i = word_at words i == full_word

-- whether a bit is set
unfoldable pub is_set : List ℕ → ℕ → Bool
is_set words p = bit_at (word_at words (p / 64)) (p % 64) == 1

-- a bit of the upper level is set exactly where its word below is full or isn't there
pub record Summarizes (lower upper : List ℕ) : Type 0 where
  pub each : (i : ℕ) → is_set upper i ≡ is_full lower i

-- of numbers, the new words have those from start to end in addition, and no others
pub record Adds (holds : List ℕ → ℕ → Bool) (old new : List ℕ) (start end : ℕ) : Type 0 where
  pub inside : (p : ℕ) → start ≤ p → p < end → holds new p ≡ true
  pub below : (p : ℕ) → p < start → holds new p ≡ holds old p
  pub above : (p : ℕ) → end ≤ p → holds new p ≡ holds old p

-- the bits below a number are clear, and the others set
pub record IsSetFrom (count : ℕ) (words : List ℕ) : Type 0 where
  pub below : (p : ℕ) → p < count → is_set words p ≡ false
  pub above : (p : ℕ) → count ≤ p → is_set words p ≡ true

-- the least clear bit from a place on
pub record IsLeastClear (words : List ℕ) (from bit : ℕ) : Type 0 where
  pub start : from ≤ bit
  pub clear : is_set words bit ≡ false
  pub set : (p : ℕ) → from ≤ p → p < bit → is_set words p ≡ true

-- all bits are set from a place on
pub record AllSet (words : List ℕ) (from : ℕ) : Type 0 where
  pub each : (p : ℕ) → from ≤ p → is_set words p ≡ true

-- all bits of a place's word are set from that place on
pub record AllSetInWord (words : List ℕ) (from : ℕ) : Type 0 where
  pub each : (p : ℕ) → from ≤ p → p / 64 ≡ from / 64 → is_set words p ≡ true

-- the least clear bit from a place on, where there is one
abbrev pub NextClear : List ℕ → ℕ → Option ℕ → Type 0
NextClear words from bit = MatchOption bit (AllSet words from) (IsLeastClear words from)

-- the least clear bit from a place on in its word, where there is one
abbrev pub NextInWord : List ℕ → ℕ → Option ℕ → Type 0
NextInWord words from bit = MatchOption bit (AllSetInWord words from) (IsLeastClear words from)

-- so many bits from a place on are clear without a gap, at most want
pub record IsClearRun (words : List ℕ) (from want count : ℕ) : Type 0 where
  pub most : count ≤ want
  pub clear : (p : ℕ) → from ≤ p → p < from + count → is_set words p ≡ false
  pub end : count < want → is_set words (from + count) ≡ true
