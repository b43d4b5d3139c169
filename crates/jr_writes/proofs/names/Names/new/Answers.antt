use Rattle.std.proofs.Common.{ap, ◌∙◌}
use Rattle.jr_writes.specs.Names.{name_at}
use Rattle.jr_writes.proofs.NameFacts.{no_name}
use Rattle.jr_writes.proofs.names.Names.new.Goals as goal

pub returns : goal.returns
returns c = λ q. ap (λ es. name_at es q) c.new.ensures.empty ∙ no_name q
