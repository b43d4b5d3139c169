use Rattle.std.specs.Prelude.{All, List, map}
use Rattle.jr_crew_channel.specs.declared.parcel.Parcel.{Parcel}
use Rattle.jr_crew_threads.specs.Judging.{AreChecksOf, IsSaidOfOne}
use Rattle.jr_crew.proofs.outcomes.note_said.Given as goal

-- the book has those so far
abbrev pub invariant-loop-one : goal.invariant-loop-one
invariant-loop-one l =
    (parcels : List Parcel) → AreChecksOf parcels (map (λ one. one.served.now) l.told)
    → All (IsSaidOfOne parcels) l.initial.book.items → All (IsSaidOfOne parcels) l.book.items
