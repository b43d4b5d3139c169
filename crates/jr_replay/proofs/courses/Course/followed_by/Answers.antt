use Rattle.std.proofs.Common.{List, sym, subst, ap, ◌∙◌}
use Rattle.jr_model.specs.declared.events.Event.{Event}
use Rattle.jr_model.specs.Legal.{is_legal}
use Rattle.jr_model.proofs.LegalLaws.{is_legal-more}
use Rattle.jr_replay.specs.Indexes.{AreIndexes}
use Rattle.jr_replay.proofs.courses.Course.followed_by.Goals as goal

pub followed_by-requires-clause-next : goal.followed_by-requires-clause-next
followed_by-requires-clause-next c =
    record { planned = c.requires.course.planned; legal = c.requires.course.legal; may = c.requires.may }

pub returns-clause-course : goal.returns-clause-course
returns-clause-course c = record {
  planned = c.requires.course.planned;
  legal =
      ap (is_legal c.args.plan.now) c.in_ok-history.ensures
      ∙ is_legal-more c.args.plan.now c.args.self.history c.args.event c.requires.course.legal c.requires.may;
  indexed =
      subst (λ (h : List Event). AreIndexes c.args.plan.now h c.in_ok-indexes.indexes) (sym c.in_ok-history.ensures) c.in_ok-indexes.ensures;
  kept = c.requires.course.kept;
}
