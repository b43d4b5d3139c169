use Rattle.std.proofs.Common.{◌∙◌, ap}
use Rattle.std.specs.Prelude.{drop}
use Rattle.jr_model.specs.Words.{words_from}
use Rattle.jr_model.specs.declared.limits.TheConstants.{MOST_CELLS}
use Rattle.jr_draw.specs.Drawing.{draws_left}
use Rattle.jr_draw.proofs.ComingFacts.{behind_next, next_taken}
use Rattle.jr_draw.proofs.draws_left.DrawsLeft.skip_next.Goals as goal

pub invariant_of-self : goal.invariant_of-self
invariant_of-self c =
    (next_taken words_from c.self.inside.rest c.next-self-inside.new.self c.next-self-inside.result
    (draws_left words_from c.self.inside.rest MOST_CELLS)
    c.self.invariant.enough c.next-self-inside.ensures.draws c.next-self-inside.ensures.end).0

pub returns : goal.returns
returns c =
    (next_taken words_from c.self.inside.rest c.next-self-inside.new.self c.next-self-inside.result
    (draws_left words_from c.self.inside.rest MOST_CELLS)
    c.self.invariant.enough c.next-self-inside.ensures.draws c.next-self-inside.ensures.end).1
    ∙ behind_next words_from c.self.inside.next c.self.inside.rest c.self.invariant
    ∙ ap (drop 1) c.self.view_is
