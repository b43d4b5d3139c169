use Rattle.std.proofs.Common.{[], false, length, ◌<◌, arith, refl, sym}
use Rattle.jr_model.specs.Plan.{SubJob}
use Rattle.jr_model.specs.Totals.{totals_of}
use Rattle.jr_desk_totals.specs.declared.tallies.Counts.{Counts}
use Rattle.jr_desk_totals.specs.Tallying.{counts_of}
use Rattle.jr_desk_totals.proofs.TallyMoves.{rows-push}
use Rattle.jr_desk_totals.proofs.tallies.Tallies.new.Goals as goal

pub loop-preserved : goal.loop-preserved
loop-preserved c =
    let none : Counts = record { issues = 0; checks = 0; verdicts = 0; is_halted = false } in
    let within : c.loop.counter < length c.args.plan.now.clones = omega (arith, c.clones-end.ensures.value) in (
      rows-push (counts_of []) none c.args.plan.now.clones c.loop.counter c.loop.counts.items c.push.new.self.items c.loop.invariant.0 c.in_ok-push.ensures.items within (λ job. refl),
      rows-push (λ (job : SubJob). totals_of [] job.clone) c.no_totals.result c.args.plan.now.clones c.loop.counter c.loop.totals.items c.push-in-loop.new.self.items c.loop.invariant.1 c.in_ok-push-2.ensures.items within (λ job. sym (c.no_totals.ensures job.clone)),
    )
