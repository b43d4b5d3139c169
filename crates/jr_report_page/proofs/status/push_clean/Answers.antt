use Rattle.std.proofs.lemmas.Bool.{ne_eqb}
use Rattle.jr_report_page.proofs.status.push_clean.Goals as goal

pub returns : goal.returns
returns c = rw (c.if-status.false, ne_eqb c.args.status.now.checks 0 c.if-checks-eq0.false) c.write-2.ensures.bytes
