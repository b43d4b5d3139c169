use Rattle.jr_crew.proofs.held.Held.take.Goals as goal

pub returns-clause-fits : goal.returns-clause-fits
returns-clause-fits g c = c.take.ensures.fits

pub returns-clause-own : goal.returns-clause-own
returns-clause-own g c = c.take.ensures.own

pub returns-clause-memory : goal.returns-clause-memory
returns-clause-memory g c = c.take.ensures.memory
