use Rattle.std.specs.Prelude.{All, take}
use Rattle.jr_crew_books.specs.Books.{IsVerdictIn}
use Rattle.jr_crew_books.proofs.said.are_said_next.Given as goal

-- the verdicts so far stand in the books
abbrev pub invariant-loop-event : goal.invariant-loop-event
invariant-loop-event l = All (IsVerdictIn l.books (λ book. book.items)) (take l.event-index l.history)
