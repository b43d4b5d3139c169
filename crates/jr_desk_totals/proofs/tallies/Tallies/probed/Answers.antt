use Rattle.std.proofs.Common.{refl}
use Rattle.jr_desk_totals.proofs.TallyMoves.{probed_tallied}
use Rattle.jr_desk_totals.proofs.tallies.Tallies.probed.Goals as goal

pub returns : goal.returns
returns c = λ plan history worker write piece same next was.
    probed_tallied plan history worker write piece c.args.clone c.args.self.now _ c.index_mut.result.now same next was c.requires.counts c.index_mut.ensures.value refl refl refl
