use Rattle.jr_map.proofs.LevelFacts.{none_above, least_above}
use Rattle.jr_map.proofs.levels.Levels.next_clear.Goals as goal

pub returns-in_err-word : goal.returns-in_err-word
returns-in_err-word c =
    let here = rw c.deref.ensures.value at c.in_default.ensures in
    let above = c.in_err-word.ensures in
    rw c.from_residual.ensures (none_above c.args.self.now.lowest.items c.args.self.now.second.items c.args.from c.requires.summed.second here above)

pub returns : goal.returns
returns c =
    let here = rw c.deref.ensures.value at c.in_default.ensures in
    least_above c.args.self.now.lowest.items c.args.self.now.second.items c.args.from c.in_ok-word.word c.least_clear_in.result c.requires.summed.second here (c.in_ok-word.ensures) (rw c.deref-2.ensures.value at c.least_clear_in.ensures.bit) c.least_clear_in.ensures.within
