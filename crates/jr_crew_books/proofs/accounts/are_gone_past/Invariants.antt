use Rattle.std.proofs.Common.{◌≡◌, ℕ, ◌<◌, length}
use Rattle.std.specs.Prelude.{slice_get, Some}
use Rattle.jr_crew_books.proofs.accounts.are_gone_past.Given as goal

-- nothing is left in the books so far
abbrev pub invariant-loop-i : goal.invariant-loop-i
invariant-loop-i l =
    (k : ℕ) (book : _) → k < l.i → slice_get l.books k ≡ Some book → slice_get l.places k ≡ Some (length book)
