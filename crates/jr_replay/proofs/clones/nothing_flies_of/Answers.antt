use Rattle.std.proofs.Common.{ℕ, ◌+◌, ap, sym, ◌∙◌}
use Rattle.std.specs.Prelude.{nat_eq}
use Rattle.jr_desk_totals.specs.declared.tallies.Counts.{Counts}
use Rattle.jr_desk_totals.proofs.Compared.{nothing_flies_of-counts}
use Rattle.jr_replay.proofs.clones.nothing_flies_of.Goals as goal

pub returns : goal.returns
returns c =
    let counts = c.counts_of-counts.result in
    ap (λ (n : ℕ). nat_eq (n + c.from-2.result) 0) c.from.ensures
    ∙ ap (λ (n : ℕ). nat_eq (counts.issues + n) 0) c.from-2.ensures
    ∙ ap (λ (k : Counts). nat_eq (k.issues + k.checks) 0) c.counts_of-counts.ensures
    ∙ sym (nothing_flies_of-counts c.args.course.now.history c.args.job.now.clone)
