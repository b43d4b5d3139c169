use Rattle.jr_rounds.proofs.blocks.round_blocks.Goals as goal

pub returns-clause-bad : goal.returns-clause-bad
returns-clause-bad c = rw c.in_ok-findings.ensures at c.blocks_of.ensures.bad

pub returns-clause-wrong : goal.returns-clause-wrong
returns-clause-wrong c = rw c.in_ok-findings.ensures at c.blocks_of.ensures.wrong
