use Rattle.std.proofs.Common.{◌&&◌, ℕ, sym, ap, ◌∙◌}
use Rattle.std.specs.Prelude.{nat_eq}
use Rattle.std.specs.HashMap.{get}
use Rattle.std.proofs.lemmas.Bool.{eqb-true, eqb-false}
use Rattle.jr_model.specs.Rounds.{Pass, all_issued, rounds_closed, issued_count, pass_of}
use Rattle.jr_model.proofs.NumberLemmas.{some_by_name}
use Rattle.jr_laws_rounds.proofs.StandingPasses.{unbegun}
use Rattle.jr_replay.specs.Courses.{numbered}
use Rattle.jr_replay.proofs.CourseLemmas.{kept_is}
use Rattle.jr_replay.proofs.FinishedLaws.{finished_where_quiet, unfinished_in_flight}
use Rattle.jr_replay.proofs.phases.is_finished.Goals as goal

pub returns-then-has_not_begun : goal.returns-then-has_not_begun
returns-then-has_not_begun c =
    let h = c.args.course.now.history in
    let job = c.args.job.now in
    sym (unbegun c.args.plan.now c.requires.course.planned job c.requires.there h c.args.number
    (eqb-true (issued_count h (pass_of job c.args.number)) 0 (sym c.has_not_begun.ensures ∙ c.if-has_not_begun.true)))

pub returns-then-not-nothing_flies_of : goal.returns-then-not-nothing_flies_of
returns-then-not-nothing_flies_of c =
    let h = c.args.course.now.history in
    let job = c.args.job.now in
    unfinished_in_flight c.args.plan.now c.requires.course.planned job c.requires.there h c.requires.course.legal c.args.number
    (some_by_name (issued_count h (pass_of job c.args.number))
    (eqb-false (issued_count h (pass_of job c.args.number)) 0 (sym c.has_not_begun.ensures ∙ c.if-has_not_begun.false)))
    c.requires.last (sym c.nothing_flies_of.ensures ∙ c.if-not-nothing_flies_of.true)

pub returns-in-Some : goal.returns-in-Some
returns-in-Some c =
    let h = c.args.course.now.history in
    let job = c.args.job.now in
    c.is_carried_out.ensures
    ∙ ap (λ (pass : Pass). all_issued h pass && rounds_closed h pass)
    (kept_is c.args.plan.now job c.requires.there c.args.course.now c.args.number c.in-Some.pass.now c.requires.course
    (ap (λ (n : ℕ). numbered c.args.number (get nat_eq c.args.course.now.passes n)) (sym c.clone_number.ensures) ∙ c.in-Some.ensures))
    ∙ finished_where_quiet h (pass_of job c.args.number) (sym c.nothing_flies_of.ensures ∙ c.if-not-nothing_flies_of.false)

pub returns-in_ok-pass-in-None : goal.returns-in_ok-pass-in-None
returns-in_ok-pass-in-None c =
    let h = c.args.course.now.history in
    c.is_carried_out-in-None.ensures
    ∙ ap (λ (pass : Pass). all_issued h pass && rounds_closed h pass) c.in_ok-pass-in-None.ensures
    ∙ finished_where_quiet h (pass_of c.args.job.now c.args.number) (sym c.nothing_flies_of.ensures ∙ c.if-not-nothing_flies_of.false)
