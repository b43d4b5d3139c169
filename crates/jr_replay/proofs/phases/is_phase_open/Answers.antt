use Rattle.std.proofs.Common.{sym, ◌∙◌}
use Rattle.std.proofs.lemmas.Bool.{eqb-false}
use Rattle.jr_model.specs.Rounds.{issued_count, pass_of}
use Rattle.jr_model.proofs.NumberLemmas.{some_by_name}
use Rattle.jr_replay.proofs.PhaseLaws.{phase_stays_open}
use Rattle.jr_replay.proofs.phases.is_phase_open.Goals as goal

pub returns : goal.returns
returns c =
    let h = c.args.course.now.history in
    let job = c.args.job.now in
    phase_stays_open c.args.plan.now c.requires.course.planned job c.requires.there h c.requires.course.legal
    (some_by_name (issued_count h (pass_of job 0))
    (eqb-false (issued_count h (pass_of job 0)) 0 (sym c.has_not_begun.ensures ∙ c.if-has_not_begun.false)))
