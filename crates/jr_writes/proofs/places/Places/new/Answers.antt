use Rattle.std.proofs.Common.{ap, ◌∙◌}
use Rattle.jr_writes.specs.Places.{spot_at}
use Rattle.jr_writes.proofs.PlaceFacts.{no_spot}
use Rattle.jr_writes.proofs.places.Places.new.Goals as goal

pub returns : goal.returns
returns c = λ q. ap (λ es. spot_at es q) c.new.ensures.empty ∙ no_spot q
