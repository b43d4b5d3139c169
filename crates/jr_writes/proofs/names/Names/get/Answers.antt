use Rattle.std.proofs.Common.{sym, ◌∙◌, Some, None}
use Rattle.jr_writes.proofs.NameFacts.{at_name}
use Rattle.jr_writes.proofs.names.Names.get.Goals as goal

pub returns-in-Some-clause-value : goal.returns-in-Some-clause-value
returns-in-Some-clause-value c =
    c.get-in-Some.ensures
    ∙ sym (at_name c.args.self.now.sheets.entries c.args.write.now c.sheet_name.result c.sheet_name.ensures.name (Some c.in-Some.sheet.now) (sym c.in-Some.ensures.value))

pub returns-in-None-clause-value : goal.returns-in-None-clause-value
returns-in-None-clause-value c =
    sym (at_name c.args.self.now.sheets.entries c.args.write.now c.sheet_name.result c.sheet_name.ensures.name None (sym c.in-None.ensures.value))
