use Rattle.std.proofs.Common.{refl}
use Rattle.jr_desk_totals.proofs.TallyMoves.{skipped_tallied}
use Rattle.jr_desk_totals.proofs.tallies.Tallies.skipped.Goals as goal

pub returns : goal.returns
returns c = λ plan history worker write same next was.
    skipped_tallied plan history worker write c.args.clone c.args.self.now _ c.index_mut.result.now same next was c.requires.counts c.index_mut.ensures.value refl refl refl
