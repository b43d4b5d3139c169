use Rattle.std.proofs.Common.{◌≡◌, ℕ, ◌<◌, List, length, get_or, ap, ◌∙◌, subst, zero-add}
use Rattle.std.proofs.lemmas.List.FromFn.{get_or-map-range_with_len, length-map-range_with_len}
use Rattle.jr_model.specs.Plan.{SubJob}
use Rattle.jr_model.specs.Rounds.{Pass, pass_of, passes_of}
use Rattle.jr_replay.proofs.choices.choice_of_clone.Goals as goal

-- each pass of a clone is of that clone
job_of_pass : (job : SubJob) (passes : List Pass) (i : ℕ) (pass : Pass) → passes ≡ passes_of job → i < length passes → pass ≡ get_or passes i pass → pass.job ≡ job
job_of_pass job passes i pass same within is =
    let below : i < job.passes =
    subst (λ (n : ℕ). i < n) (ap (λ (ps : List Pass). length ps) same ∙ length-map-range_with_len (pass_of job) 0 job.passes) within in
    ap (λ (p : Pass). p.job)
    (is ∙ ap (λ (ps : List Pass). get_or ps i pass) same ∙ get_or-map-range_with_len (pass_of job) 0 job.passes i i pass below (zero-add i))

pub choice_of_pass-step-requires : goal.choice_of_pass-step-requires
choice_of_pass-step-requires c =
    job_of_pass c.args.clone.now c.passes-pass-items.result.now c.loop-pass.pass-index c.pass-item.result c.passes-pass-items.ensures c.loop-pass-test.true c.pass-item.is
