use Rattle.std.proofs.Common.{ℕ, List, sym, ap, ◌∙◌, arith}
use Rattle.std.specs.Prelude.{Option, slice_get, ◌-◌}
use Rattle.jr_model.specs.declared.workloads.Draw.{Draw}
use Rattle.jr_model.specs.Plan.{SubJob}
use Rattle.jr_model.specs.Rounds.{group_of}
use Rattle.jr_replay_passes.specs.Passes.{is_below}
use Rattle.jr_replay_passes.proofs.RankLemmas.{reached_none, reached_last}
use Rattle.jr_replay_passes.proofs.passes.PlannedPass.is_reached.Goals as goal

pub returns-then-backlog-eq0 : goal.returns-then-backlog-eq0
returns-then-backlog-eq0 c =
    let backlog = c.backlog-backlog.ensures ∙ ap (λ (job : SubJob). job.backlog) c.job.ensures in
    reached_none c.args.self.now c.args.g c.args.number c.facts.ensures (sym backlog ∙ c.if-backlog-eq0.true)

pub returns : goal.returns
returns c =
    let pass = c.args.self.now in
    let backlog = c.backlog-backlog.ensures ∙ ap (λ (job : SubJob). job.backlog) c.job.ensures in
    c.is_below.ensures
    ∙ ap (λ (o : Option Draw). is_below o c.args.number)
    (c.at_place.ensures
    ∙ ap (λ (draws : List Draw). slice_get draws (c.backlog-backlog.result - 1)) c.group.ensures
    ∙ ap (λ (n : ℕ). slice_get (group_of pass c.args.g) (n - 1)) backlog)
    ∙ reached_last pass c.args.g c.args.number c.facts.ensures (omega (arith, backlog, c.if-backlog-eq0.false))
