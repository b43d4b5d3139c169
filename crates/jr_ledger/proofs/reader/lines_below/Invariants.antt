use Rattle.std.proofs.Common.{◌≡◌, ◌+◌, [], length}
use Rattle.std.specs.List.{slice_split}
use Rattle.jr_ledger.specs.Reading.{is_newline, lines_read}
use Rattle.jr_ledger.proofs.reader.lines_below.Given as goal

-- what is read, and what is left to read, are the lines of the whole text
abbrev pub invariant-loop-line : goal.invariant-loop-line
invariant-loop-line l =
    lines_read l.lines.items (length l.lines.items + 2) (slice_split is_newline l.rest) ≡ lines_read [] 2 (slice_split is_newline l.text)

abbrev pub decreases-loop-line : goal.decreases-loop-line
decreases-loop-line l = length l.rest
