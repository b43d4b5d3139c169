use Rattle.std.proofs.Common.{sym, ◌∙◌, arith}
use Rattle.jr_model.specs.Legal.{is_at_rest}
use Rattle.jr_replay.proofs.CourseLemmas.{all_next, all_of, not_all}
use Rattle.jr_replay.proofs.FinishedLaws.{whole_where_at_rest}
use Rattle.jr_replay.proofs.phases.is_whole_run.Goals as goal

pub returns-then-not-branch : goal.returns-then-not-branch
returns-then-not-branch c =
    let h = c.args.course.now.history in
    not_all (is_at_rest h) c.args.plan.now.clones c.loop-i.i c.clone_at.result.now c.clone_at.ensures.value
    (sym c.in_ok-is_at_rest.ensures ∙ c.if-not-branch.true)
    ∙ whole_where_at_rest c.args.plan.now h c.requires.course.planned c.requires.course.legal

pub loop-i-preserved : goal.loop-i-preserved
loop-i-preserved c =
    all_next (is_at_rest c.args.course.now.history) c.args.plan.now.clones c.loop-i.i c.clone_at.result.now c.clone_at.ensures.value
    (sym c.in_ok-is_at_rest.ensures ∙ c.if-not-branch.false) c.loop-i.invariant

pub returns : goal.returns
returns c =
    let h = c.args.course.now.history in
    all_of (is_at_rest h) c.args.plan.now.clones c.loop-i.i (omega (arith, c.clones-i-end.ensures.value)) c.loop-i.invariant
    ∙ whole_where_at_rest c.args.plan.now h c.requires.course.planned c.requires.course.legal
