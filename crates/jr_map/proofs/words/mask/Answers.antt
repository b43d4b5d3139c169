use Rattle.std.proofs.Common.{arith}
use Rattle.jr_map.proofs.MarkFacts.{mask_inside, mask_below, mask_above}
use Rattle.jr_map.proofs.words.mask.Goals as goal

pub returns-clause-inside : goal.returns-clause-inside
returns-clause-inside c = λ k. mask_inside c.args.low c.args.high k c.requires.high

pub returns-clause-below : goal.returns-clause-below
returns-clause-below c = λ k. mask_below c.args.low c.args.high k (omega arith) c.requires.high

pub returns-clause-above : goal.returns-clause-above
returns-clause-above c = λ k. mask_above c.args.low c.args.high k (omega arith) c.requires.high
