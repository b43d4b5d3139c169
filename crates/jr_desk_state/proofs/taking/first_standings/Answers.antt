-- Each clone stands where it is before the first event.
use Rattle.std.proofs.Common.{[], ◌∙◌, ap, arith}
use Rattle.jr_model.specs.Plan.{clone_of}
use Rattle.jr_desk_state.proofs.Preparing.{added_stands, stand_more, stand_none}
use Rattle.jr_desk_state.proofs.taking.first_standings.Goals as goal

pub loop-clone-init : goal.loop-clone-init
loop-clone-init c = stand_none c.args.plan.now [] c.new-standings.result.items c.new-standings.ensures.items

pub prepare-requires : goal.prepare-requires
prepare-requires c =
    let plan = c.args.plan.now in
    let is = c.in_ok-new.ensures.stands plan c.clones-clone-end.ensures.facts
    (ap (clone_of plan) c.clone_at-job.ensures.placed.number ∙ c.clone_at-job.ensures.value) in
    (added_stands [] c.loop-clone.clone c.clone_at-job.result.now c.loop-clone.standings.items c.push.new.self.items c.in_ok-new.field-0
    c.index_mut.result.now c.loop-clone.invariant.count c.in_ok-push.ensures.items c.index_mut.ensures.value is).in_pass.within

pub loop-clone-preserved : goal.loop-clone-preserved
loop-clone-preserved c =
    let plan = c.args.plan.now in
    let job = c.clone_at-job.result.now in
    let was = c.loop-clone.invariant in
    let added = c.in_ok-push.ensures.items in
    let read = c.index_mut.ensures.value in
    let at = c.clone_at-job.ensures.value in
    let is = c.in_ok-new.ensures.stands plan c.clones-clone-end.ensures.facts (ap (clone_of plan) c.clone_at-job.ensures.placed.number ∙ at) in
    stand_more plan [] c.loop-clone.clone job c.loop-clone.standings.items c.push.new.self.items c.in_ok-new.field-0 c.index_mut.result.now
    c.prepare.new.self was added read at
    (c.in_ok-prepare.ensures.kept []
    (added_stands [] c.loop-clone.clone job c.loop-clone.standings.items c.push.new.self.items c.in_ok-new.field-0
    c.index_mut.result.now was.count added read is))
    c.in_ok-prepare.ensures.prepared c.in_ok-new.ensures.left c.in_ok-prepare.ensures.left

pub returns-clause-stand : goal.returns-clause-stand
returns-clause-stand c = record {
  count =
      omega (arith, c.loop-clone.invariant.count, c.clones-clone-end.ensures.value, c.loop-clone-test.false);
  each = c.loop-clone.invariant.each;
}
