use Rattle.std.proofs.Common.{sym, ◌∙◌}
use Rattle.jr_writes.proofs.SheetFacts.{at_row, none_in_absent}
use Rattle.jr_writes.proofs.sheets.Sheet.get.Goals as goal

pub returns-in-Some : goal.returns-in-Some
returns-in-Some g c = c.get-in-Some.ensures ∙ sym (at_row c.args.self.now.rows c.in-Some.row.now c.args.place (sym c.in-Some.ensures))

pub returns-in-None : goal.returns-in-None
returns-in-None g c = sym (none_in_absent c.args.self.now.rows c.args.place (sym c.in-None.ensures))
