use Rattle.std.proofs.Common.{sym, ap, ◌∙◌}
use Rattle.jr_model.specs.Plan.{SubJob}
use Rattle.jr_replay.proofs.rounds.issued_count.Goals as goal

pub returns : goal.returns
returns c =
    c.issued_count.ensures c.args.pass.now
    (ap (λ (job : SubJob). job.clone) (sym c.job.ensures) ∙ sym c.clone_number.ensures)
    (sym c.number.ensures)
