-- Believed: how many bytes a block has in a list of bad blocks (of this project).
use Rattle.std.specs.Prelude.{◌==◌, ℕ, Bool, [], ◌∷◌}
use Rattle.std.specs.List.{list_any}

-- a block may have so many bytes
abbrev pub is_block_size : ℕ → Bool
is_block_size bytes = list_any (λ size. size == bytes) (512 ∷ 1024 ∷ 2048 ∷ 4096 ∷ 8192 ∷ 16384 ∷ 32768 ∷ 65536 ∷ [])
