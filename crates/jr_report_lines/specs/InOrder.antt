-- Claimed: which lines the bad verdicts of a run have in its report, and in which order.
use Rattle.std.specs.Prelude.{◌≡◌, true, List}
use Rattle.std.specs.declared.cmp.Ordering.{Ordering}
use Rattle.std.specs.List.Sorted.{IsPermutation, IsStrictlySortedBy}
use Rattle.jr_model.specs.declared.events.Event.{Event}
use Rattle.jr_model.specs.History.{write_order}
use Rattle.jr_model.specs.Legal.{is_legal}
use Rattle.jr_model.specs.Plan.{Plan}
use Rattle.jr_model.specs.Report.{Miscompare, in_order, miscompares}
use Rattle.jr_model.specs.PlanFacts.{IsPlanned}

-- bad verdicts by the writes that they are on
abbrev pub by_write : Miscompare → Miscompare → Ordering
by_write a b = write_order a.write b.write

-- each bad verdict of a run has one line of its report, and no other line is of one
abbrev pub EachHasOneLine : Type 0
EachHasOneLine =
    (plan : Plan) (history : List Event)
    → IsPlanned plan
    → is_legal plan history ≡ true
    → IsPermutation (in_order plan (miscompares history)) (miscompares history)

-- they stand in the order of their writes, of which no two are one
abbrev pub LinesAreInOrder : Type 0
LinesAreInOrder =
    (plan : Plan) (history : List Event)
    → IsPlanned plan
    → is_legal plan history ≡ true
    → IsStrictlySortedBy by_write (in_order plan (miscompares history))

-- so they are the bad verdicts, sorted
abbrev pub LinesAreSorted : Type 0
LinesAreSorted =
    (plan : Plan) (history : List Event) (sorted : List Miscompare)
    → IsPlanned plan
    → is_legal plan history ≡ true
    → IsPermutation sorted (miscompares history)
    → IsStrictlySortedBy by_write sorted
    → sorted ≡ in_order plan (miscompares history)
