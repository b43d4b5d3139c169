use Rattle.std.proofs.Common.{rules}
use Rattle.jr_writes.specs.Places.{spot_at}
use Rattle.jr_writes.proofs.Overlaps.{none_overlaps}
use Rattle.jr_writes.proofs.spots.last_overlapped.Goals as goal

pub returns-in_default : goal.returns-in_default
returns-in_default c = record {
  found = none_overlaps c.args.kept c.args.piece.now (spot_at c.args.places.now.sheets.entries) c.requires.disjoint c.args.end c.in-Some.offset c.in-Some.spot c.requires.within c.in-Some.ensures.found (search rules);
}
