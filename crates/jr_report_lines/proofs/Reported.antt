-- The laws of the lines of a report.
use Rattle.std.proofs.Common.{◌≡◌, true, List, ap, ◌∙◌, IsPermutation}
use Rattle.std.specs.declared.cmp.Ordering.TheVariants.{Less}
use Rattle.std.specs.List.Sorted.{IsStrictlySortedBy}
use Rattle.std.specs.Ordering.{ordering_reverse}
use Rattle.std.proofs.lemmas.List.Sorted.{IsPermutation-sym, IsPermutation-trans}
use Rattle.jr_model.specs.declared.events.Event.{Event}
use Rattle.jr_model.specs.Legal.{is_legal}
use Rattle.jr_model.specs.Plan.{Plan}
use Rattle.jr_model.specs.Report.{Miscompare, in_order, miscompares}
use Rattle.jr_model.proofs.Equality.{write_order_total}
use Rattle.jr_model.specs.PlanFacts.{IsPlanned}
use Rattle.jr_model.proofs.PlanLemmas.{numbered_of}
use Rattle.jr_report_lines.specs.InOrder.{by_write}
use Rattle.jr_report_lines.proofs.Found.{all_named, all_distinct}
use Rattle.jr_report_lines.proofs.Named.{in_order_permuted}
use Rattle.jr_report_lines.proofs.Ordered.{in_order_sorted}
use Rattle.jr_report_lines.proofs.Unique.{sorted_permutation}

pub one_line : (plan : Plan) (history : List Event) → IsPlanned plan → is_legal plan history ≡ true
    → IsPermutation (in_order plan (miscompares history)) (miscompares history)
one_line plan history planned legal =
    in_order_permuted plan (miscompares history) (numbered_of plan planned) (all_named plan history planned legal)

pub ordered_lines : (plan : Plan) (history : List Event) → IsPlanned plan → is_legal plan history ≡ true
    → IsStrictlySortedBy by_write (in_order plan (miscompares history))
ordered_lines plan history planned legal =
    in_order_sorted (miscompares history) (all_distinct plan history planned legal) plan (numbered_of plan planned)

-- no two go before each other
one_way : (x y : Miscompare) → by_write x y ≡ Less → by_write y x ≡ Less → ⊥
one_way x y less back =
    let turned : by_write x y ≡ ordering_reverse (by_write y x) = write_order_total.antisymm x.write y.write in
    let greater = turned ∙ ap ordering_reverse back in
    cc

pub sorted_lines : (plan : Plan) (history : List Event) (sorted : List Miscompare) → IsPlanned plan
    → is_legal plan history ≡ true → IsPermutation sorted (miscompares history) → IsStrictlySortedBy by_write sorted
    → sorted ≡ in_order plan (miscompares history)
sorted_lines plan history sorted planned legal same up =
    let lines = in_order plan (miscompares history) in
    sorted_permutation by_write one_way sorted lines
    (IsPermutation-trans sorted (miscompares history) lines same
    (IsPermutation-sym lines (miscompares history) (one_line plan history planned legal)))
    up (ordered_lines plan history planned legal)
