-- Internal: what is kept, as a list in the order of the writes.
use Rattle.std.specs.Prelude.{ℕ, zero, suc, ◌+◌, ◌/◌, ◌%◌, ◌^◌, ◌<◌, List, [], ◌∷◌, Option, Some, None}
use Rattle.jr_model.specs.declared.events.WriteId.{WriteId}
use Rattle.jr_writes.specs.declared.kept.Kept.{Kept}

-- the write at a place of the order of all writes
abbrev pub nth_write : ℕ → WriteId
nth_write n = record { clone = n / 2 ^ 64; pass = n / 2 ^ 32 % 2 ^ 32; number = n % 2 ^ 32 }

-- a write with what is kept of it, where something is, before the others
abbrev pub before_others : WriteId → Option Kept → List (WriteId × Kept) → List (WriteId × Kept)
before_others write None others = others
before_others write (Some kept) others = (write, kept) ∷ others

-- what is kept of so many writes, from one on
unfoldable pub kept_from : (WriteId → Option Kept) → ℕ → ℕ → List (WriteId × Kept)
kept_from entry_of n zero = []
kept_from entry_of n (suc count) = before_others (nth_write n) (entry_of (nth_write n)) (kept_from entry_of (n + 1) count)

-- all that is kept, in the order of the writes
unfoldable pub all_kept : (WriteId → Option Kept) → List (WriteId × Kept)
all_kept entry_of = kept_from entry_of 0 (2 ^ 96)

-- its numbers are of 32 bits
pub record IsWrite (write : WriteId) : Type 0 where
  pub clone : write.clone < 2 ^ 32
  pub pass : write.pass < 2 ^ 32
  pub number : write.number < 2 ^ 32
