use Rattle.std.proofs.Common.{◌+◌, ◌-◌, ◌/◌, length, sym, ap, ◌∙◌, arith}
use Rattle.std.specs.Prelude.{Option, slice_get}
use Rattle.jr_model.specs.declared.workloads.Draw.{Draw}
use Rattle.jr_model.specs.Rounds.{writes_of}
use Rattle.jr_replay_passes.specs.Passes.{is_below}
use Rattle.jr_replay_passes.proofs.RankLemmas.{upper_half, lower_half, middle_within}
use Rattle.jr_replay_passes.proofs.passes.PlannedPass.writes_below.Goals as goal

pub loop-low-preserved-then-is_below : goal.loop-low-preserved-then-is_below
loop-low-preserved-then-is_below c =
    let pass = c.args.self.now in
    let low = c.loop-low.low in
    let high = c.loop-low.high in
    let within = middle_within low high (length (writes_of pass)) c.loop-low-test.true c.loop-low.invariant.2 in
    let up = upper_half pass c.args.number (low + (high - low) / 2) c.facts.ensures within
    (sym (c.is_below.ensures ∙ ap (λ (o : Option Draw). is_below o c.args.number) (c.at_place.ensures ∙ ap (λ ws. slice_get ws (low + (high - low) / 2)) c.writes.ensures)) ∙ c.if-is_below.true) in
    (omega (arith, up), c.loop-low.invariant.1, c.loop-low.invariant.2)

pub loop-low-preserved : goal.loop-low-preserved
loop-low-preserved c =
    let pass = c.args.self.now in
    let low = c.loop-low.low in
    let high = c.loop-low.high in
    let within = middle_within low high (length (writes_of pass)) c.loop-low-test.true c.loop-low.invariant.2 in
    let down = lower_half pass c.args.number (low + (high - low) / 2) c.facts.ensures within
    (sym (c.is_below.ensures ∙ ap (λ (o : Option Draw). is_below o c.args.number) (c.at_place.ensures ∙ ap (λ ws. slice_get ws (low + (high - low) / 2)) c.writes.ensures)) ∙ c.if-is_below.false) in
    (c.loop-low.invariant.0, down, omega (arith, within))
