use Rattle.jr_writes.proofs.LastFacts.{last_above_both, last_here_found}
use Rattle.jr_writes.proofs.places.Places.last_before.Goals as goal

pub returns-in-Some : goal.returns-in-Some
returns-in-Some c = last_here_found c.args.self.now.sheets.entries c.args.file c.args.end c.requires c.in-Some.found c.in-Some.ensures

pub returns-in-None : goal.returns-in-None
returns-in-None c = last_above_both c.args.self.now.sheets.entries c.args.file c.args.end c.requires c.last_above.result c.in-None.ensures c.last_above.ensures
