use Rattle.jr_map.proofs.WordFacts.{spare_set, no_spare}
use Rattle.jr_map.proofs.words.set_spare.Goals as goal

pub returns-then-used-ne0-clause-bits : goal.returns-then-used-ne0-clause-bits
returns-then-used-ne0-clause-bits c = spare_set c.args.count c.args.words.now c.requires c.if-used-ne0.true

pub returns-else-used-ne0-clause-bits : goal.returns-else-used-ne0-clause-bits
returns-else-used-ne0-clause-bits c = no_spare c.args.count c.args.words.now c.requires c.if-used-ne0.false
