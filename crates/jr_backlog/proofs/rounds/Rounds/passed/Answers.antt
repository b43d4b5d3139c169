use Rattle.std.proofs.Common.{◌≡◌, ◌<◌, List, length, ap, sym, ◌∙◌, subst, arith}
use Rattle.std.specs.Prelude.{not, filter, HoldsAt}
use Rattle.std.specs.declared.cmp.Ordering.TheVariants.{Equal}
use Rattle.std.proofs.lemmas.List.Kept.{IsStrictlySortedBy-filter}
use Rattle.jr_model.specs.History.{same_write, write_order}
use Rattle.jr_model.specs.declared.events.WriteId.{WriteId}
use Rattle.jr_backlog.specs.Rounds.{Round}
use Rattle.jr_backlog.proofs.RoundFacts.{absent_write, removed_write}
use Rattle.jr_backlog.proofs.rounds.Rounds.passed.Goals as goal

-- what is left once the write at the place that was found is taken out
left : (c : goal.After-remove) → c.remove.new.self.items ≡ filter (λ (other : WriteId). not (same_write c.args.write other)) c.self.inside.to_check.items
left c =
    let same : c.args.self.now.to_check ≡ c.self.inside.to_check.items = sym (ap (λ (round : Round). round.to_check) c.self.view_is) in
    let within : c.in-Ok.place < length c.self.inside.to_check.items = subst (λ (ws : List WriteId). c.in-Ok.place < length ws) same c.in-Ok.ensures.bound in
    let found : HoldsAt (λ (other : WriteId). write_order other c.args.write ≡ Equal) c.self.inside.to_check.items c.in-Ok.place =
    subst (λ (ws : List WriteId). HoldsAt (λ (other : WriteId). write_order other c.args.write ≡ Equal) ws c.in-Ok.place) same c.in-Ok.ensures.found in
    rw (c.remove.ensures.succeeds c.args.write (omega (arith, within, c.self.inside.to_check.ok.0))) at c.remove.ensures.items
    ∙ removed_write c.args.write c.self.inside.to_check.items c.in-Ok.place c.self.invariant.1 within found

pub returns-in-Ok : goal.returns-in-Ok
returns-in-Ok c = rw (← c.self.view_is, left c)

pub returns-in_default : goal.returns-in_default
returns-in_default c = rw (absent_write c.args.write c.args.self.now.to_check c.in_default.field-0 c.in_default.ensures.missed)

pub invariant_of-self : goal.invariant_of-self
invariant_of-self c = (c.self.invariant.0, rw (left c) (IsStrictlySortedBy-filter write_order (λ (other : WriteId). not (same_write c.args.write other)) c.self.inside.to_check.items c.self.invariant.1))
