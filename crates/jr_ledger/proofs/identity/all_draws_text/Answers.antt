use Rattle.std.proofs.Common.{flat_map, string_bytes}
use Rattle.jr_plan.proofs.ListLemmas.{flat_map-further}
use Rattle.jr_ledger.specs.Identity.{draws_text}
use Rattle.jr_ledger.proofs.identity.all_draws_text.Goals as goal

pub loop-i-preserved : goal.loop-i-preserved
loop-i-preserved c =
    let clones = c.args.plan.now.clones in
    flat_map-further draws_text clones c.loop-i.i c.clone_at.result.now (string_bytes c.loop-i.text) (string_bytes c.push_draws.new.text) (flat_map draws_text clones) c.clone_at.ensures.value c.loop-i.invariant c.in_ok-push_draws.ensures
