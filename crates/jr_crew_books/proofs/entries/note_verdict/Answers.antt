use Rattle.std.proofs.Common.{◌≡◌, ◌-◌, length, sym, ap, ◌∙◌, arith}
use Rattle.std.specs.Prelude.{Some, slice_get}
use Rattle.std.proofs.lemmas.Result.{IfOk-from_err, IfOk-weaker}
use Rattle.jr_crew_books.proofs.Noting.{last_is, last_pushed, none_longer, one_longer, same_items}
use Rattle.jr_crew_books.proofs.entries.note_verdict.Goals as goal
use Rattle.jr_crew_books.proofs.entries.note_verdict.Goals.{in-Some-last, in_default-last+in_ok-push-in_default-last}

pub returns-in_err-push-in_default-last-clause-longer : goal.returns-in_err-push-in_default-last-clause-longer
returns-in_err-push-in_default-last-clause-longer c =
    none_longer c.args.verdicts.now.items c.push.new.self.items c.in_err-push-in_default-last.ensures.items

pub returns-in_err-push-in_default-last-clause-last : goal.returns-in_err-push-in_default-last-clause-last
returns-in_err-push-in_default-last-clause-last c = IfOk-from_err c.from_residual.result _ c.from_residual.ensures.0

pub returns-in_err-push-in_default-last-clause-within : goal.returns-in_err-push-in_default-last-clause-within
returns-in_err-push-in_default-last-clause-within c = IfOk-from_err c.from_residual.result _ c.from_residual.ensures.0

pub returns-clause-longer : goal.returns-clause-longer
returns-clause-longer c =
    let old = c.args.verdicts.now in
    let new = c.match-last.verdicts in
    elim c.match-last.branch [
      | in-Some-last w ↦ none_longer old.items new.items (same_items new old w.verdicts-is)
      | in_default-last+in_ok-push-in_default-last w ↦
          one_longer old.items new.items c.in-Some.verdict (same_items new w.push.new.self w.verdicts-is ∙ w.in_ok-push-in_default-last.ensures.items)
    ]

pub returns-clause-last : goal.returns-clause-last
returns-clause-last c =
    let old = c.args.verdicts.now in
    let new = c.match-last.verdicts in
    IfOk-weaker c.narrow.result _ _
    (λ count is.
    let size : count ≡ length new.items = omega (arith, is, c.len.ensures, new.ok.0) in
    elim c.match-last.branch [
      | in-Some-last w ↦
          let same = same_items new old w.verdicts-is in
          last_is new.items c.in-Some.verdict count
          (ap (λ known. slice_get known (length known - 1)) (same ∙ sym c.deref.ensures.value)
          ∙ sym w.in-Some-last.ensures.value
          ∙ ap Some (w.is_same_verdict.ensures w.if-is_same_verdict.true))
          size
          ∙ sym c.in-Some.is
      | in_default-last+in_ok-push-in_default-last w ↦
          last_pushed old.items new.items c.in-Some.verdict count
          (same_items new w.push.new.self w.verdicts-is ∙ w.in_ok-push-in_default-last.ensures.items) size
          ∙ sym c.in-Some.is
    ])
    c.narrow.ensures

pub returns-clause-within : goal.returns-clause-within
returns-clause-within c =
    let new = c.match-last.verdicts in
    IfOk-weaker c.narrow.result _ _ (λ count is. omega (arith, is, c.len.ensures, new.ok.0)) c.narrow.ensures
