use Rattle.std.proofs.Common.{◌∙◌, ap, sym, ℕ, List, get_or}
use Rattle.std.proofs.lemmas.Option.{same_Some, slice_get-get_or, slice_get_within}
use Rattle.jr_desk_totals.specs.declared.tallies.Counts.{Counts}
use Rattle.jr_desk_totals.proofs.TallyMoves.{counts_at}
use Rattle.jr_desk_totals.specs.Tallying.{counts_of}
use Rattle.jr_replay.proofs.clones.counts_of.Goals as goal

pub returns : goal.returns
returns c =
    let course = c.args.course.now in
    let job = c.args.job.now in
    let counts = counts_of course.history job in
    let all : List Counts = course.indexes.tallies.counts.items in
    let at = counts_at c.args.plan.now course.history course.indexes.tallies job.clone job c.requires.course.indexed.tallied c.requires.there in
    c.index.ensures
    ∙ ap (λ (k : ℕ). get_or all k c.index.result.now) c.clone_number.ensures
    ∙ same_Some (get_or all job.clone c.index.result.now) counts
    (sym (slice_get-get_or all job.clone c.index.result.now (slice_get_within all job.clone counts at)) ∙ at)
