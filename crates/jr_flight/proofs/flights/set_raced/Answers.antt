use Rattle.std.proofs.Common.{ℕ, sym, ◌∙◌, ap}
use Rattle.std.specs.BTreeMap.{BTreeMap}
use Rattle.jr_flight.specs.declared.ios.Ended.{Ended}
use Rattle.jr_flight.proofs.MarkLemmas.{as_raced, raced_under_none, raced_under_set}
use Rattle.jr_flight.proofs.flights.set_raced.Goals as goal

pub returns-in-Some : goal.returns-in-Some
returns-in-Some c =
    let ended = c.in-Some.ended.now in
    let entries = c.args.ids.now.entries in
    (c.get_mut.follows.holds (as_raced ended)).0
    ∙ raced_under_set c.args.id ended entries c.get_mut.ensures.ordered (sym c.in-Some.ensures.value)

pub returns-in_default : goal.returns-in_default
returns-in_default c =
    let entries = c.args.ids.now.entries in
    ap (λ (ids : BTreeMap ℕ Ended). ids.entries) c.get_mut.follows.holds-at-none
    ∙ sym (raced_under_none c.args.id entries (sym c.in_default.ensures.value))
