use Rattle.std.proofs.Common.{arith, sym, subst, Option, ℕ}
use Rattle.jr_writes.specs.Sheets.{IsLastInRow, sheet_at}
use Rattle.jr_writes.proofs.SheetFacts.{last_in, none_in_row}
use Rattle.jr_writes.proofs.sheets.Sheet.last_in_row.Goals as goal

pub returns-in-Some : goal.returns-in-Some
returns-in-Some g c =
    let rows = c.args.self.now.rows in
    subst (λ (o : Option ℕ). IsLastInRow (sheet_at rows) c.args.row c.args.end o) (sym c.place_in.ensures)
    (last_in rows c.args.row c.in-Some.slots.now (sym c.in-Some.ensures) c.args.end (omega arith) c.last_below.result c.last_below.ensures)

pub returns-in-None : goal.returns-in-None
returns-in-None g c = none_in_row c.args.self.now.rows c.args.row c.args.end (sym c.in-None.ensures)
