use Rattle.std.proofs.Common.{ℕ, ◌+◌, ap, sym, ◌∙◌}
use Rattle.std.specs.Prelude.{nat_lt}
use Rattle.jr_desk_totals.specs.declared.tallies.Counts.{Counts}
use Rattle.jr_desk_totals.proofs.Compared.{has_room-counts}
use Rattle.jr_replay.proofs.clones.has_room.Goals as goal

pub returns : goal.returns
returns c =
    let counts = c.counts_of-counts.result in
    ap (λ (n : ℕ). nat_lt (n + c.from-2.result) c.from-3.result) c.from.ensures
    ∙ ap (λ (n : ℕ). nat_lt (counts.issues + n) c.from-3.result) c.from-2.ensures
    ∙ ap (nat_lt (counts.issues + counts.checks)) (c.from-3.ensures ∙ c.depth.ensures)
    ∙ ap (λ (k : Counts). nat_lt (k.issues + k.checks) c.args.job.now.depth) c.counts_of-counts.ensures
    ∙ sym (has_room-counts c.args.course.now.history c.args.job.now)
