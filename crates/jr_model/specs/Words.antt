-- Believed: the words that a job's draws use: Xoshiro256++ (Blackman and Vigna), seeded through SplitMix64.
use Rattle.std.specs.Prelude.{ℕ, zero, suc, ◌+◌, ◌*◌, ◌%◌, ◌^◌, List, [], ◌∷◌, slice_index, flat_map}
use Rattle.std.specs.Int.{w64, to_le_bytes}
use Rattle.rand_xoshiro.specs.SplitMix64.{splitmix_seed}
use Rattle.rand_xoshiro.specs.Xoshiro256.{of_seed, plus_plus}
use Rattle.jr_model.specs.Plan.{SubJob}

-- the generator's state once it is seeded by a number (`seed_from_u64`)
abbrev pub seeded : ℕ → List ℕ
seeded seed = of_seed (splitmix_seed 32 seed)

-- the next n words of a generator in this state
unfoldable pub words_from : List ℕ → ℕ → List ℕ
words_from state zero = []
words_from state (suc n) = (plus_plus state).0 ∷ words_from (plus_plus state).1 n

-- its state after n words
unfoldable pub state_after : List ℕ → ℕ → List ℕ
state_after state zero = state
state_after state (suc n) = state_after (plus_plus state).1 n

-- the next n words of a list of words; zeros after its last
abbrev pub listed_words : List ℕ → ℕ → List ℕ
listed_words words zero = []
listed_words [] (suc n) = 0 ∷ listed_words [] n
listed_words (word ∷ words) (suc n) = word ∷ listed_words words n

-- what a clone's generator is seeded by in a pass, from the job's `randseed` (of this project)
abbrev pub seed_of_pass : ℕ → ℕ → ℕ → ℕ
seed_of_pass randseed clone pass = (randseed + 1000003 * clone + pass) % 2 ^ 64

-- the same of a planned clone
abbrev pub pass_seed : SubJob → ℕ → ℕ
pass_seed job pass = seed_of_pass job.seed job.clone pass

-- word j of a clone's pass
abbrev pub word : SubJob → ℕ → ℕ → ℕ
word job pass j = slice_index (words_from (seeded (pass_seed job pass)) (suc j)) j

-- the first n words of a clone's pass
abbrev pub pass_words : SubJob → ℕ → ℕ → List ℕ
pass_words job pass n = words_from (seeded (pass_seed job pass)) n

-- words as bytes, 8 each, the low byte first
abbrev pub word_bytes : List ℕ → List ℕ
word_bytes words = flat_map (to_le_bytes w64) words
