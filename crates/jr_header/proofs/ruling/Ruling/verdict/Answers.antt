use Rattle.jr_header.proofs.Rulings.{ruled_good, ruled_no_other, ruled_speaks}
use Rattle.jr_header.proofs.ruling.Ruling.verdict.Goals as goal

pub returns-clause-speaks : goal.returns-clause-speaks
returns-clause-speaks c = ruled_speaks c.self.inside.served.now c.self.inside.verdict c.self.invariant

pub returns-clause-good : goal.returns-clause-good
returns-clause-good c = rw (← c.self.view_is) (ruled_good c.self.inside.served.now c.self.inside.verdict c.self.invariant)

pub returns-clause-no_others : goal.returns-clause-no_others
returns-clause-no_others c = rw (← c.self.view_is) (ruled_no_other c.self.inside.served.now c.self.inside.verdict c.self.invariant)
