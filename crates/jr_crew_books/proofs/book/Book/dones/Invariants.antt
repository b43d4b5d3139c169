use Rattle.std.proofs.Common.{◌≡◌, take}
use Rattle.jr_crew_books.proofs.book.Book.dones.Given as goal

-- those so far
abbrev pub invariant-loop-place : goal.invariant-loop-place
invariant-loop-place l = l.dones.items ≡ take l.place l.self
