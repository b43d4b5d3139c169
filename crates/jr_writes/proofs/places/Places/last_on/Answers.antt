use Rattle.std.proofs.Common.{arith, sym, subst, Option, ℕ}
use Rattle.jr_writes.specs.declared.spot.Spot.{Spot}
use Rattle.jr_writes.specs.Places.{IsLastOn, sector_at}
use Rattle.jr_writes.proofs.LastFacts.{last_on_found, none_on}
use Rattle.jr_writes.proofs.places.Places.last_on.Goals as goal

pub returns-in-Some : goal.returns-in-Some
returns-in-Some c =
    let es = c.args.self.now.sheets.entries in
    subst (λ (o : Option (ℕ × Spot)). IsLastOn (sector_at es) c.args.name c.args.end o) (sym c.spot_on.ensures)
    (last_on_found es c.args.name c.in-Some.sheet.now (sym c.in-Some.ensures.value) c.args.end (omega arith) c.last_below.result c.last_below.ensures)

pub returns-in-None : goal.returns-in-None
returns-in-None c = none_on c.args.self.now.sheets.entries c.args.name c.args.end (sym c.in-None.ensures.value)
