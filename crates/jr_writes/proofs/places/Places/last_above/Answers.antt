use Rattle.std.proofs.Common.{sym, subst, Option, ℕ}
use Rattle.jr_writes.specs.declared.spot.Spot.{Spot}
use Rattle.jr_writes.specs.Places.{IsLastAbove, sector_at}
use Rattle.jr_writes.proofs.LastFacts.{last_above_found, none_above_all, none_of_file}
use Rattle.jr_writes.proofs.places.Places.last_above.Goals as goal

pub returns-in-Some-get : goal.returns-in-Some-get
returns-in-Some-get c =
    let es = c.args.self.now.sheets.entries in
    subst (λ (o : Option (ℕ × Spot)). IsLastAbove (sector_at es) c.args.name o) (sym c.spot_on.ensures)
    (last_above_found es c.args.name c.in-Some.above c.in-Some.ensures.1 c.in-Some.ensures.2 c.if-above-name.true c.in-Some-get.sheet.now (sym c.in-Some-get.ensures.value) c.args.self.now.filled c.last.result c.last.ensures)

pub returns-in_default : goal.returns-in_default
returns-in_default c =
    none_of_file c.args.self.now.sheets.entries c.args.name c.in-Some.above c.in-Some.ensures.1 c.in-Some.ensures.2 c.if-above-name.false

pub returns-in_default-2 : goal.returns-in_default-2
returns-in_default-2 c = none_above_all c.args.self.now.sheets.entries c.args.name c.in_default.ensures
