-- Entries of a split in their array.
use Rattle.std.proofs.Common.{◌≡◌, ℕ, ◌-◌, ◌≤◌, List, length, replicate, ap, ◌∙◌, sym, arith, refl, length-append}
use Rattle.std.proofs.lemmas.List.{take_at, length-replicate}
use Rattle.jr_plan.specs.SplitEntries.{IsPadded, padded, percents_total}

-- the entries in their array
pub padded_entries : (entries : List (ℕ × ℕ)) → 1 ≤ length entries → length entries ≤ 64 → percents_total entries ≡ 100 → IsPadded (length entries) (padded entries)
padded_entries entries least most total =
    let empty : ℕ × ℕ = (0, 0) in
    let front = take_at entries (replicate (64 - length entries) (0, 0)) (length entries) refl in
    record {
      least = least;
      most = most;
      size = omega (arith, length-append entries (replicate (64 - length entries) empty), length-replicate (64 - length entries) empty);
      rest = ap padded (sym front);
      total = ap percents_total front ∙ total;
    }
