use Rattle.std.proofs.Common.{ap, sym, ◌∙◌, Some, None, ◌%◌}
use Rattle.std.specs.BTreeMap.{is_at}
use Rattle.std.proofs.lemmas.Bool.{eqb-true}
use Rattle.jr_model.specs.History.{write_order}
use Rattle.jr_writes.specs.Names.{name_at}
use Rattle.jr_writes.proofs.Overlaps.{some_is}
use Rattle.jr_writes.proofs.NameFacts.{at_name, name_none, name_step, sheet_of}
use Rattle.jr_writes.proofs.StepFacts.{gone_after}
use Rattle.jr_writes.proofs.TableFacts.{empty_sheet, in_found}
use Rattle.jr_writes.proofs.names.Names.remove.Goals as goal

pub returns-in_default : goal.returns-in_default
returns-in_default c = λ q.
    let es = c.args.self.now.sheets.entries in
    ap (λ m. name_at m.entries q) c.get_mut.follows.holds-at-none
    ∙ name_none es c.args.write.now (at_name es c.args.write.now c.sheet_name-name.result c.sheet_name-name.ensures.name None (sym c.in_default.ensures.value)) q

pub returns-then-is_empty : goal.returns-then-is_empty
returns-then-is_empty c =
    let es = c.args.self.now.sheets.entries in
    let name = c.sheet_name-name.result in
    let new = c.remove.new.self in
    let mid = (c.get_mut.follows.lender new).entries in
    let last = c.remove-then-is_empty.new.self.entries in
    let found = sym c.in-Some.ensures.value in
    name_step es last c.args.write.now name c.sheet_name-name.ensures.name None
    (gone_after (is_at (write_order name)) (sheet_of es) (sheet_of mid) (sheet_of last) new
    ((c.get_mut.follows.holds new).3 (some_is (sheet_of es name) c.in-Some.sheet.now found)).0
    c.remove-then-is_empty.ensures.updates.0)
    None
    (λ p.
    sym (empty_sheet new (eqb-true _ _ (sym c.is_empty.ensures ∙ c.if-is_empty.true)) p)
    ∙ c.remove.ensures.places p
    ∙ in_found None p (c.args.write.now.number % 4096) (sheet_of es name) (Some c.in-Some.sheet.now) found)

pub returns-else-is_empty : goal.returns-else-is_empty
returns-else-is_empty c =
    let es = c.args.self.now.sheets.entries in
    let name = c.sheet_name-name.result in
    let new = c.remove.new.self in
    let found = sym c.in-Some.ensures.value in
    name_step es _ c.args.write.now name c.sheet_name-name.ensures.name (Some new)
    ((c.get_mut.follows.holds new).3 (some_is (sheet_of es name) c.in-Some.sheet.now found)).0
    None
    (λ p. c.remove.ensures.places p ∙ in_found None p (c.args.write.now.number % 4096) (sheet_of es name) (Some c.in-Some.sheet.now) found)
