-- Believed: after how many writes a file is synced on the way (of this project).
use Rattle.std.specs.Prelude.{ℕ, ◌%◌, ◌==◌, ◌&&◌, Bool, nat_lt}

-- it is synced once each time that so many of its writes have ended
abbrev pub is_nth : ℕ → ℕ → Bool
is_nth writes every = nat_lt 0 every && (writes % every == 0)
