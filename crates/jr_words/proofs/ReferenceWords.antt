-- Words and seeds of the definitions, beside those that the authors' reference code prints (`splitmix64.c`,
-- `xoshiro256plusplus.c`).
use Rattle.std.proofs.Common.{◌≡◌, ◌-◌, ◌^◌, [], ◌∷◌, refl}
use Rattle.rand_core.specs.Stream.{fill_bytes}
use Rattle.rand_core.specs.Steps as kit
use Rattle.rand_core.specs.Steps.{stream_of, u32_at}
use Rattle.jr_model.specs.Words.{seeded, words_from, listed_words, seed_of_pass, word_bytes}

words_of_seed_0 : words_from (seeded 0) 3 ≡ 0x53175d61490b23df ∷ 0x61da6f3dc380d507 ∷ 0x5c0fdf91ec9a7bfc ∷ []
unfolding words_from fill_bytes stream_of kit.word_bytes u32_at
words_of_seed_0 = refl

words_of_seed_1 : words_from (seeded 1) 3 ≡ 0xcfc5d07f6f03c29b ∷ 0xbf424132963fe08d ∷ 0x19a37d5757aaf520 ∷ []
unfolding words_from fill_bytes stream_of kit.word_bytes u32_at
words_of_seed_1 = refl

words_of_last_seed : words_from (seeded (2 ^ 64 - 1)) 3 ≡ 0x56ccf8ce948e27b2 ∷ 0xe68588432e5a5b90 ∷ 0xe3e9b5a48119ca8b ∷ []
unfolding words_from fill_bytes stream_of kit.word_bytes u32_at
words_of_last_seed = refl

bytes_low_first : word_bytes (0x53175d61490b23df ∷ []) ≡ 0xdf ∷ 0x23 ∷ 0x0b ∷ 0x49 ∷ 0x61 ∷ 0x5d ∷ 0x17 ∷ 0x53 ∷ []
bytes_low_first = refl

zeros_after_a_list : listed_words (2 ∷ 3 ∷ []) 4 ≡ 2 ∷ 3 ∷ 0 ∷ 0 ∷ []
zeros_after_a_list = refl

seed_wraps : seed_of_pass (2 ^ 64 - 1) 2 3 ≡ 2000008
seed_wraps = refl
