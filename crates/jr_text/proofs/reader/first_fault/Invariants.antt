use Rattle.std.proofs.Common.{◌≡◌, ◌+◌, length, drop, false}
use Rattle.std.specs.List.{slice_split}
use Rattle.jr_text.specs.JobText.{is_newline}
use Rattle.jr_text.proofs.Pass.{check}
use Rattle.jr_text.proofs.reader.first_fault.Given as goal

abbrev pub invariant-loop-line : goal.invariant-loop-line
invariant-loop-line l =
    (goal.iterator-loop-line).can_next l.line-iterator ×
    (goal.iterator-loop-line).is_finite l.line-iterator ×
    (l.number ≡ length l.yielded) ×
    (check l.is_open (l.number + 1) (drop l.number (slice_split is_newline l.text)) ≡ check false 1 (slice_split is_newline l.text))
