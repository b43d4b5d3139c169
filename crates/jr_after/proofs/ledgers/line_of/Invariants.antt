use Rattle.std.proofs.Common.{◌≡◌, drop}
use Rattle.jr_after.specs.Ledgers.{line_of}
use Rattle.jr_after.proofs.LedgerLemmas.{shifted}
use Rattle.jr_after.proofs.ledgers.line_of.Given as goal

-- the place is among the lines still to come
abbrev pub invariant-loop-i : goal.invariant-loop-i
invariant-loop-i l = shifted l.i (line_of (drop l.i l.lines) l.write) ≡ line_of l.lines l.write
