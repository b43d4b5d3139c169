use Rattle.std.proofs.Common.{List, length, refl, sym, ap, ◌∙◌}
use Rattle.jr_report_faults.specs.declared.notes.FaultNote.{FaultNote}
use Rattle.jr_report_faults.proofs.FaultLemmas.{named_is, named_more, unnamed_more}
use Rattle.jr_report_faults.proofs.faults.Faults.add.Goals as goal

pub returns-then-as_slice-eq-MOST_NAMED-clause-added : goal.returns-then-as_slice-eq-MOST_NAMED-clause-added
returns-then-as_slice-eq-MOST_NAMED-clause-added c faults are =
    unnamed_more c.args.plan.now faults c.args.fault c.args.self.now _
    (sym (ap (λ (notes : List FaultNote). length notes) c.as_slice.ensures.value) ∙ c.if-as_slice-eq-MOST_NAMED.true)
    refl refl are

pub returns-clause-added : goal.returns-clause-added
returns-clause-added c faults are =
    named_more c.args.plan.now faults c.args.fault c.in_ok-note.note c.args.self.now _
    (λ full. c.if-as_slice-eq-MOST_NAMED.false (ap (λ (notes : List FaultNote). length notes) c.as_slice.ensures.value ∙ full))
    (named_is c.args.plan.now c.args.fault c.in_ok-note.note c.in_ok-note.ensures.fault c.in_ok-note.ensures.name)
    c.in_ok-push.ensures.items refl are
