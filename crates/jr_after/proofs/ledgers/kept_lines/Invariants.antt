use Rattle.std.proofs.Common.{◌≡◌, ◌≤◌, length, drop, false}
use Rattle.jr_after.specs.Ledgers.{has_sync}
use Rattle.jr_after.proofs.ledgers.kept_lines.Given as goal

-- the lines that were looked at have no such sync
abbrev pub invariant-loop-count : goal.invariant-loop-count
invariant-loop-count l = (l.count ≤ length l.lines) × (has_sync l.file (drop l.count l.lines) ≡ false)

abbrev pub decreases-loop-count : goal.decreases-loop-count
decreases-loop-count l = l.count
