use Rattle.std.proofs.Common.{ℕ, sym, ap, ◌∙◌}
use Rattle.std.specs.Prelude.{is_some, nat_eq}
use Rattle.std.specs.HashMap.{get}
use Rattle.std.proofs.lemmas.Result.{on_ok_weaker}
use Rattle.jr_replay.specs.Courses.{numbered}
use Rattle.jr_replay.proofs.CourseLemmas.{course_with, entered_there, kept_there}
use Rattle.jr_replay.proofs.courses.Course.enter.Goals as goal

pub returns-then-keeps-clause-entered : goal.returns-then-keeps-clause-entered
returns-then-keeps-clause-entered c plan there course =
    kept_there plan c.args.job.now there c.args.self.now c.args.number course
    (ap (λ (n : ℕ). is_some (numbered c.args.number (get nat_eq c.args.self.now.passes n))) (sym c.clone_number.ensures)
    ∙ sym c.keeps.ensures ∙ c.if-keeps.true)

pub returns-clause-course : goal.returns-clause-course
returns-clause-course c =
    on_ok_weaker c.replace.result
    (λ now plan there course.
    course_with plan c.args.job.now there c.args.number c.args.self.now c.replace.new.self c.replace.ensures.history c.replace.ensures.indexes now course)
    c.replace.ensures.passes

pub returns-clause-entered : goal.returns-clause-entered
returns-clause-entered c =
    on_ok_weaker c.replace.result
    (λ now plan there course. entered_there plan c.args.job.now there c.args.number c.replace.new.self c.args.self.now now)
    c.replace.ensures.passes
