use Rattle.std.proofs.Common.{arith, sym, subst, Option, ℕ, IsSome}
use Rattle.jr_writes.specs.Sheets.{IsLastInRow, sheet_at}
use Rattle.jr_writes.proofs.SheetFacts.{last_in, some_last}
use Rattle.jr_writes.proofs.sheets.Sheet.last_of.Goals as goal

pub returns-in-Some-clause-there : goal.returns-in-Some-clause-there
returns-in-Some-clause-there g c =
    let rows = c.args.self.now.rows in
    subst (λ (o : Option ℕ). IsSome o) (sym c.place_in.ensures)
    (some_last rows c.args.self.now.filled c.args.row c.in-Some.slots.now (sym c.in-Some.ensures) c.last.result c.last.ensures)

pub returns-in-Some-clause-last : goal.returns-in-Some-clause-last
returns-in-Some-clause-last g c =
    let rows = c.args.self.now.rows in
    subst (λ (o : Option ℕ). IsLastInRow (sheet_at rows) c.args.row 64 o) (sym c.place_in.ensures)
    (last_in rows c.args.row c.in-Some.slots.now (sym c.in-Some.ensures) 64 (omega arith) c.last.result c.last.ensures)
