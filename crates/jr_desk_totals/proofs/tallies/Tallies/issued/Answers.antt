use Rattle.std.proofs.Common.{refl}
use Rattle.jr_desk_totals.proofs.TallyMoves.{issued_tallied}
use Rattle.jr_desk_totals.proofs.tallies.Tallies.issued.Goals as goal

pub returns : goal.returns
returns c = λ plan history worker dir write piece same next was.
    issued_tallied plan history worker dir write piece c.args.clone c.args.self.now _ c.index_mut.result.now same next was c.requires.counts c.index_mut.ensures.value refl refl refl
