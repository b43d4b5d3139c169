use Rattle.std.proofs.Common.{ap, sym, ◌∙◌}
use Rattle.std.specs.Prelude.{nat_eq}
use Rattle.jr_desk_totals.specs.declared.tallies.Counts.{Counts}
use Rattle.jr_desk_totals.proofs.Compared.{no_issue_flies-counts}
use Rattle.jr_replay.proofs.clones.no_issue_flies.Goals as goal

pub returns : goal.returns
returns c =
    ap (λ (k : Counts). nat_eq k.issues 0) c.counts_of.ensures
    ∙ sym (no_issue_flies-counts c.args.course.now.history c.args.job.now.clone)
