-- Internal: what is compared once all threads have ended (of this project).
use Rattle.std.specs.Prelude.{◌≡◌, ℕ, ◌+◌, List, [], ◌++◌, length, map, take, filter_map, slice_get, slice_set, Option, Some}
use Rattle.std.specs.List.{cons_option}
use Rattle.jr_model.specs.declared.contents.Method.{Method}
use Rattle.jr_model.specs.declared.events.Event.{Event}
use Rattle.jr_model.specs.declared.events.Verdict.{Verdict as GivenVerdict}
use Rattle.jr_crew_books.specs.declared.books.Done.{Done}
use Rattle.jr_crew_books.specs.declared.accounts.BookedEnd.{BookedEnd}
use Rattle.jr_crew_books.specs.Books.{verdict_in, done_with}
use Rattle.jr_model.specs.Plan.{Plan}
use Rattle.jr_desk_tickets.specs.Kept.{tickets_of}

-- what stands in the table at a number is the verdict on that check
abbrev pub IsTableOf : List (Option GivenVerdict) → List Event → Type 0
IsTableOf table history = (io : ℕ) (said : Option GivenVerdict) → slice_get table io ≡ Some said → said ≡ verdict_in history io

-- how the blocks of each clone are made and verified
abbrev pub AreMethodsOf : Plan → List Method → Type 0
AreMethodsOf plan methods = methods ≡ map (λ job. job.method) plan.clones

-- in the book at each number, what stands before its place is what these events completed by that number
abbrev pub AreFollowed : List (List Done) → (ℕ → Event → Option Done) → List ℕ → List Event → Type 0
AreFollowed books completed places events =
    (i : ℕ) (book : List Done) (place : ℕ) → slice_get books i ≡ Some book → slice_get places i ≡ Some place
    → take place book ≡ filter_map (completed i) events

-- from one place to the next stands what this event completed by that number
abbrev pub AreMoved : List (List Done) → (ℕ → Event → Option Done) → List ℕ → List ℕ → Event → Type 0
AreMoved books completed old new event =
    (i : ℕ) (book : List Done) (place next : ℕ) → slice_get books i ≡ Some book → slice_get old i ≡ Some place → slice_get new i ≡ Some next
    → take next book ≡ take place book ++ cons_option (completed i event) []

-- the place in the book at this number is behind this item, and no other has moved
abbrev pub IsMoved : List (List Done) → List ℕ → List ℕ → ℕ → Done → Type 0
IsMoved books old new at done =
    (book : List Done) × (place : ℕ) × (slice_get books at ≡ Some book) × (slice_get old at ≡ Some place)
    × (slice_get book place ≡ Some done) × (new ≡ slice_set old at (place + 1))

-- each place is behind the last item of its book
abbrev pub AreGonePast : List (List Done) → List ℕ → Type 0
AreGonePast books places =
    (i : ℕ) (book : List Done) → slice_get books i ≡ Some book → slice_get places i ≡ Some (length book)

-- what was completed where it ended so, if it was handed out
abbrev pub completed_by : Plan → List Event → BookedEnd → Option Done
completed_by plan history ending = done_with ending.outcome ending.verdict (slice_get (tickets_of plan history) ending.io)
