use Rattle.std.proofs.Common.{◌≡◌, List, sym, ap, ◌∙◌, subst, add-one}
use Rattle.std.specs.Prelude.{slice_get}
use Rattle.jr_model.specs.declared.events.WriteId.{WriteId}
use Rattle.jr_model.proofs.Equality.{write_order_total}
use Rattle.jr_backlog.specs.Rounds.{IsInOrder, Round}
use Rattle.jr_backlog.proofs.OrderedKeys.{found_next, item_shown, missed_next}
use Rattle.jr_backlog.proofs.RoundFacts.{due-later}
use Rattle.jr_backlog.proofs.rounds.Rounds.next_after.Goals as goal
use Rattle.jr_backlog.proofs.rounds.Rounds.next_after.Goals.{in-Ok, in-Err}

pub returns-then-due-clause-value : goal.returns-then-due-clause-value
returns-then-due-clause-value c =
    let writes = c.args.self.now.to_check in
    let write = c.args.write.now in
    let same : c.self.inside.to_check.items ≡ writes = ap (λ (round : Round). round.to_check) c.self.view_is in
    let sorted : IsInOrder writes = subst (λ (ws : List WriteId). IsInOrder ws) same c.self.invariant.1 in
    c.copied-next.ensures
    ∙ item_shown c.get.result c.self.inside.to_check.items c.match-place_of.place c.get.ensures.item
    ∙ ap (λ (ws : List WriteId). slice_get ws c.match-place_of.place) same
    ∙ elim c.match-place_of.branch [
      | in-Ok w ↦ rw (w.place-is, add-one) (found_next write_order_total write writes w.in-Ok.place sorted w.in-Ok.ensures.bound w.in-Ok.ensures.found)
      | in-Err w ↦ rw w.place-is (missed_next write_order_total write writes w.in-Err.place w.in-Err.ensures.missed)
    ]
    ∙ sym (due-later c.args.self.now write (sym c.due.ensures ∙ c.if-due.true))
