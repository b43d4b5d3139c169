use Rattle.jr_desk_totals.proofs.Bads.{one_event_more}
use Rattle.jr_desk_totals.proofs.laws.one_event_more.Goals as goal

pub returns : goal.returns
returns c = one_event_more
