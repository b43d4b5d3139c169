use Rattle.std.proofs.Common.{Bool, IfOk, ℕ, ◌≡◌, ap, ◌∙◌, subst, arith, suc, ◌-◌}
use Rattle.jr_model.specs.Rounds.{issued_count, pass_of}
use Rattle.jr_replay.proofs.CourseLemmas.{finished_by_last}
use Rattle.jr_replay.proofs.FinishedLaws.{none_behind}
use Rattle.jr_replay.proofs.phases.clone_finished.Goals as goal

pub is_finished-requires-clause-last : goal.is_finished-requires-clause-last
is_finished-requires-clause-last c =
    let job = c.args.job.now in
    let h = c.args.course.now.history in
    let end : suc (c.passes.result - 1) ≡ job.passes = omega (arith, c.passes.ensures, c.facts.ensures.passes_least) in
    ap (λ (n : ℕ). issued_count h (pass_of job n)) end
    ∙ none_behind c.args.plan.now c.requires.course.planned job c.requires.there h c.requires.course.legal

pub returns : goal.returns
returns c =
    let job = c.args.job.now in
    subst (λ (b : Bool). IfOk c.is_finished.result (λ yes. yes ≡ b))
    (finished_by_last c.args.plan.now job c.requires.there c.args.course.now.history (c.passes.result - 1) c.requires.course.planned c.requires.course.legal
    (omega (arith, c.passes.ensures, c.facts.ensures.passes_least)))
    c.is_finished.ensures
