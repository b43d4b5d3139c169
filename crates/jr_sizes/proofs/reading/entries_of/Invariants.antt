use Rattle.std.proofs.Common.{◌≡◌, ℕ, ◌≤◌, length, take, drop, All, IfSome, Option}
use Rattle.std.specs.List.{slice_split}
use Rattle.jr_sizes.specs.Splits.{is_colon, entries_of, with_entries}
use Rattle.jr_sizes.proofs.reading.entries_of.Given as goal

-- the entries so far, in front of those of the other parts
abbrev pub invariant-loop-part : goal.invariant-loop-part
invariant-loop-part l =
    (goal.iterator-loop-part).can_next l.part-iterator
    × (goal.iterator-loop-part).is_finite l.part-iterator
    × (l.count ≡ length l.yielded)
    × (length l.entries ≡ 64)
    × All (λ (entry : ℕ × Option ℕ). IfSome entry.1 (λ n. n ≤ 100)) (take l.count l.entries)
    × (with_entries (take l.count l.entries) (entries_of (drop l.count (slice_split is_colon l.text))) ≡ entries_of (slice_split is_colon l.text))
