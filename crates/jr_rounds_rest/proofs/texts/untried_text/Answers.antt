use Rattle.jr_rounds_rest.specs.Told.{untried_line, untried_text}
use Rattle.jr_rounds_rest.proofs.texts.untried_text.Goals as goal
use Rattle.jr_plan.proofs.ListLemmas.{flat_map-further}

pub loop-i-preserved : goal.loop-i-preserved
loop-i-preserved c =
    let plan = c.args.plan.now in
    let tasks = c.args.tasks.now in
    flat_map-further (untried_line plan tasks) plan.clones c.loop-i.i c.clone_at.result.now c.loop-i.text.items c.push_untried.new.text.items (untried_text plan tasks) c.clone_at.ensures.value c.loop-i.invariant c.in_ok-push_untried.ensures
