use Rattle.std.proofs.Common.{ℕ, List, Option}
use Rattle.jr_job_notes.specs.Notes.{AreFirst, noted}
use Rattle.jr_job_notes.proofs.notes.add_texts.Given as goal

-- whatever comes first of the notes that were there comes first of all
abbrev pub invariant-loop-text : goal.invariant-loop-text
invariant-loop-text l = (lines : List (Option ℕ)) → AreFirst lines (noted l.fn.notes.items) → AreFirst lines (noted l.notes.items)
