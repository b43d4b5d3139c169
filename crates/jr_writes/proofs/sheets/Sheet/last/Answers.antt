use Rattle.std.proofs.Common.{arith}
use Rattle.jr_writes.proofs.SheetFacts.{last_of_above, none_above, none_past}
use Rattle.jr_writes.proofs.sheets.Sheet.last.Goals as goal

pub returns-in-Some : goal.returns-in-Some
returns-in-Some g c =
    let rows = c.args.self.now.rows in
    last_of_above rows 64 0 (omega arith) (none_past rows) c.in-Some.row c.last_of.result c.last_of.ensures.there c.in-Some.ensures c.last_of.ensures.last

pub returns-in-None : goal.returns-in-None
returns-in-None g c =
    let rows = c.args.self.now.rows in
    none_above rows 64 0 (omega arith) (none_past rows) c.in-None.ensures
