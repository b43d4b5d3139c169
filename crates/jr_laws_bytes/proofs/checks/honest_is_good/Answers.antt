use Rattle.jr_laws_bytes.proofs.Verdicts.{good_where_honest}
use Rattle.jr_laws_bytes.proofs.checks.honest_is_good.Goals as goal

pub returns : goal.returns
returns c = good_where_honest
