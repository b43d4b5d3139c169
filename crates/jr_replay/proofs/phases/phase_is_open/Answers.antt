use Rattle.std.proofs.Common.{ℕ, ◌||◌, sym, ap, ◌∙◌, arith}
use Rattle.std.specs.Prelude.{nat_le}
use Rattle.jr_model.specs.Legal.{is_at_rest}
use Rattle.jr_model.specs.Plan.{SubJob}
use Rattle.jr_replay.proofs.CourseLemmas.{all_next, all_of, not_all}
use Rattle.jr_replay.proofs.phases.phase_is_open.Goals as goal

pub returns-then-not-branch : goal.returns-then-not-branch
returns-then-not-branch c =
    let h = c.args.course.now.history in
    let job = c.clone_at.result.now in
    not_all (λ (other : SubJob). nat_le c.args.job.now.phase other.phase || is_at_rest h other) c.args.plan.now.clones c.loop-i.i job c.clone_at.ensures.value
    (ap (λ (phase : ℕ). nat_le phase job.phase || is_at_rest h job) (sym c.phase.ensures)
    ∙ sym c.in_ok-lets_begin.ensures ∙ c.if-not-branch.true)

pub loop-i-preserved : goal.loop-i-preserved
loop-i-preserved c =
    let h = c.args.course.now.history in
    let job = c.clone_at.result.now in
    all_next (λ (other : SubJob). nat_le c.args.job.now.phase other.phase || is_at_rest h other) c.args.plan.now.clones c.loop-i.i job c.clone_at.ensures.value
    (ap (λ (phase : ℕ). nat_le phase job.phase || is_at_rest h job) (sym c.phase.ensures)
    ∙ sym c.in_ok-lets_begin.ensures ∙ c.if-not-branch.false)
    c.loop-i.invariant

pub returns : goal.returns
returns c =
    all_of (λ (other : SubJob). nat_le c.args.job.now.phase other.phase || is_at_rest c.args.course.now.history other) c.args.plan.now.clones c.loop-i.i
    (omega (arith, c.clones-i-end.ensures.value)) c.loop-i.invariant
