-- The words of a generator one by one, and as the kit's `fill_bytes_via_u64` writes them.
use Rattle.std.proofs.Common.{◌≡◌, ℕ, zero, suc, ◌+◌, ◌*◌, ◌/◌, ◌%◌, ◌≤◌, List, [], ◌∷◌, ◌++◌, length, refl, ap, ◌∙◌, arith, length-append}
use Rattle.std.proofs.lemmas.List.{take_all, append-nil}
use Rattle.std.proofs.lemmas.Grind.{flat_map-append}
use Rattle.std.specs.Int.{w64, to_le_bytes}
use Rattle.rand_core.specs.Steps.{fill_via_u64}
use Rattle.rand_core.specs.Steps as kit
use Rattle.rand_xoshiro.specs.Xoshiro256.{plus_plus}
use Rattle.jr_model.specs.Words.{words_from, state_after, word_bytes}

-- the first of the next words, and those after it
pub words_from-suc : (state : List ℕ) (n : ℕ) → words_from state (suc n) ≡ (plus_plus state).0 ∷ words_from (plus_plus state).1 n
unfolding words_from
words_from-suc state n = refl

-- the last of the next words
words_from-last : (state : List ℕ) (n : ℕ) → words_from state (suc n) ≡ words_from state n ++ (plus_plus (state_after state n)).0 ∷ []
unfolding words_from state_after
words_from-last state zero = refl
words_from-last state (suc n) = ap (λ (words : List ℕ). (plus_plus state).0 ∷ words) (words_from-last (plus_plus state).1 n)

-- the last step of the state
state_after-last : (state : List ℕ) (n : ℕ) → state_after state (suc n) ≡ (plus_plus (state_after state n)).1
unfolding state_after
state_after-last state zero = refl
state_after-last state (suc n) = state_after-last (plus_plus state).1 n

-- the bytes of the next n words, and the state after them
abbrev pub bytes_and_state : List ℕ → ℕ → List ℕ × List ℕ
bytes_and_state state n = (word_bytes (words_from state n), state_after state n)

-- one more word, as the kit adds it
abbrev pub add_word : List ℕ × List ℕ → List ℕ × List ℕ
add_word p = (p.0 ++ to_le_bytes w64 (plus_plus p.1).0, (plus_plus p.1).1)

-- the bytes of one more word
bytes_more : (state : List ℕ) (k : ℕ) → add_word (bytes_and_state state k) ≡ bytes_and_state state (suc k)
bytes_more state k =
    rw (words_from-last, state_after-last, flat_map-append (to_le_bytes w64), append-nil (to_le_bytes w64 (plus_plus (state_after state k)).0)) refl

-- the kit's bytes of words are those of this project
same_bytes : (k : ℕ) (state : List ℕ) → kit.word_bytes (to_le_bytes w64) plus_plus k state ≡ bytes_and_state state k
unfolding kit.word_bytes words_from state_after
same_bytes zero state = refl
same_bytes (suc k) state = ap add_word (same_bytes k state) ∙ bytes_more state k

-- 8 bytes a word
pub length-word_bytes : (words : List ℕ) → length (word_bytes words) ≡ 8 * length words
length-word_bytes [] = refl
length-word_bytes (word ∷ words) = omega (arith, length-append (to_le_bytes w64 word) (word_bytes words), length-word_bytes words)

pub length-words_from : (state : List ℕ) (n : ℕ) → length (words_from state n) ≡ n
unfolding words_from
length-words_from state zero = refl
length-words_from state (suc n) = ap suc (length-words_from (plus_plus state).1 n)

-- what the kit's fill makes of a whole number of words
pub filled : (n : ℕ) (state : List ℕ) → n % 8 ≡ 0
    → fill_via_u64 plus_plus n state ≡ bytes_and_state state (n / 8)
filled n state whole =
    let words : (n + 7) / 8 ≡ n / 8 = omega arith in
    let length_is : length (word_bytes (words_from state (n / 8))) ≤ n =
    omega (arith, length-word_bytes (words_from state (n / 8)), length-words_from state (n / 8)) in
    rw (words, same_bytes, take_all n (word_bytes (words_from state (n / 8))) length_is) refl

-- more words begin with fewer
pub words_from-add : (m n : ℕ) (state : List ℕ) → words_from state (m + n) ≡ words_from state m ++ words_from (state_after state m) n
unfolding words_from state_after
words_from-add zero n state = let e : zero + n ≡ n = omega arith in ap (words_from state) e
words_from-add (suc m) n state =
    let e : suc m + n ≡ suc (m + n) = omega arith in
    ap (words_from state) e
    ∙ ap (λ (ws : List ℕ). (plus_plus state).0 ∷ ws) (words_from-add m n (plus_plus state).1)

-- the state after more words
pub state_after-add : (m n : ℕ) (state : List ℕ) → state_after state (m + n) ≡ state_after (state_after state m) n
unfolding state_after
state_after-add zero n state = let e : zero + n ≡ n = omega arith in ap (state_after state) e
state_after-add (suc m) n state =
    let e : suc m + n ≡ suc (m + n) = omega arith in
    ap (state_after state) e ∙ state_after-add m n (plus_plus state).1
