use Rattle.std.proofs.Common.{ap, sym, ◌∙◌}
use Rattle.std.specs.Prelude.{nat_eq}
use Rattle.jr_desk_totals.specs.declared.tallies.Counts.{Counts}
use Rattle.jr_desk_totals.proofs.Compared.{none_awaited-counts}
use Rattle.jr_replay.proofs.clones.none_awaited.Goals as goal

pub returns : goal.returns
returns c =
    ap (λ (k : Counts). nat_eq k.verdicts 0) c.counts_of.ensures
    ∙ sym (none_awaited-counts c.args.course.now.history c.args.job.now.clone)
