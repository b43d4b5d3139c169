-- Sums that go up to a most and no further.
use Rattle.std.proofs.Common.{◌≡◌, ℕ, ◌+◌, min, arith}

-- one term more
pub capped_more : (most part count total sum next : ℕ) → sum ≡ min most part → next ≡ min (sum + count) most → total ≡ part + count
    → next ≡ min most total
capped_more most part count total sum next so more whole = omega arith
