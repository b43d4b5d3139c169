use Rattle.std.proofs.Common.{◌≡◌, ◌-◌, length, sym, ap, ◌∙◌, arith}
use Rattle.std.specs.Prelude.{Some, slice_get}
use Rattle.std.proofs.lemmas.Result.{IfOk-from_err, IfOk-weaker}
use Rattle.jr_crew_books.proofs.Noting.{last_is, last_pushed, none_longer, one_longer, same_items}
use Rattle.jr_crew_books.proofs.entries.note_method.Goals as goal
use Rattle.jr_crew_books.proofs.entries.note_method.Goals.{in-Some, in_default+in_ok-push-in_default}

pub returns-in_err-push-in_default-clause-longer : goal.returns-in_err-push-in_default-clause-longer
returns-in_err-push-in_default-clause-longer c =
    none_longer c.args.methods.now.items c.push.new.self.items c.in_err-push-in_default.ensures.items

pub returns-in_err-push-in_default-clause-last : goal.returns-in_err-push-in_default-clause-last
returns-in_err-push-in_default-clause-last c = IfOk-from_err c.from_residual.result _ c.from_residual.ensures.0

pub returns-clause-longer : goal.returns-clause-longer
returns-clause-longer c =
    let old = c.args.methods.now in
    let new = c.match-last.methods in
    elim c.match-last.branch [
      | in-Some w ↦ none_longer old.items new.items (same_items new old w.methods-is)
      | in_default+in_ok-push-in_default w ↦
          one_longer old.items new.items c.args.method.now (same_items new w.push.new.self w.methods-is ∙ w.in_ok-push-in_default.ensures.items)
    ]

pub returns-clause-last : goal.returns-clause-last
returns-clause-last c =
    let old = c.args.methods.now in
    let new = c.match-last.methods in
    IfOk-weaker c.narrow.result _ _
    (λ count is.
    let size : count ≡ length new.items = omega (arith, is, c.len.ensures, new.ok.0) in
    elim c.match-last.branch [
      | in-Some w ↦
          let same = same_items new old w.methods-is in
          last_is new.items c.args.method.now count
          (ap (λ known. slice_get known (length known - 1)) (same ∙ sym c.deref.ensures.value)
          ∙ sym w.in-Some.ensures.value
          ∙ ap Some (w.is_same_method.ensures.yes w.if-is_same_method.true))
          size
      | in_default+in_ok-push-in_default w ↦
          last_pushed old.items new.items c.args.method.now count
          (same_items new w.push.new.self w.methods-is ∙ w.in_ok-push-in_default.ensures.items) size
    ])
    c.narrow.ensures
