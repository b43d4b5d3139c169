use Rattle.std.proofs.Common.{◌≡◌, take, length}
use Rattle.jr_crew_books.specs.Accounts.{IsTableOf}
use Rattle.jr_crew_books.proofs.accounts.note_verdicts.Given as goal

-- the verdicts of the events so far, in a table as long as it was
abbrev pub invariant-loop-event : goal.invariant-loop-event
invariant-loop-event l = IsTableOf l.table (take l.event-index l.history) × (length l.table ≡ length l.fn.table)
