use Rattle.std.proofs.Common.{ap, cond, sym, ◌∙◌, Some, None, ◌%◌}
use Rattle.std.specs.BTreeMap.{is_at}
use Rattle.jr_model.specs.History.{write_order}
use Rattle.jr_model.proofs.OptionLemmas.{on_error}
use Rattle.jr_writes.proofs.Overlaps.{some_is}
use Rattle.jr_writes.proofs.NameFacts.{name_same, name_step, sheet_of}
use Rattle.jr_writes.proofs.TableFacts.{in_found, in_same}
use Rattle.jr_writes.proofs.names.Names.insert.Goals as goal

pub returns-in_err-put-clause-err : goal.returns-in_err-put-clause-err
returns-in_err-put-clause-err c =
    let es = c.args.self.now.sheets.entries in
    let name = c.sheet_name-name.result in
    on_error c.from_residual.result _
    (name_same es _ c.args.write name c.sheet_name-name.ensures.name (Some c.put.new.self)
    ((c.get_mut.follows.holds c.put.new.self).3 (some_is (sheet_of es name) c.in-Some.sheet.now (sym c.in-Some.ensures.value))).0
    (λ p. c.in_err-put.ensures.err p ∙ in_same p (sheet_of es name) (Some c.in-Some.sheet.now) (sym c.in-Some.ensures.value)))

pub returns-in-Some-clause-ok : goal.returns-in-Some-clause-ok
returns-in-Some-clause-ok c =
    let es = c.args.self.now.sheets.entries in
    let name = c.sheet_name-name.result in
    name_step es _ c.args.write name c.sheet_name-name.ensures.name (Some c.put.new.self)
    ((c.get_mut.follows.holds c.put.new.self).3 (some_is (sheet_of es name) c.in-Some.sheet.now (sym c.in-Some.ensures.value))).0
    (Some c.args.kept)
    (λ p. c.in_ok-put.ensures.ok p ∙ in_found (Some c.args.kept) p (c.args.write.number % 4096) (sheet_of es name) (Some c.in-Some.sheet.now) (sym c.in-Some.ensures.value))

pub returns-clause-ok : goal.returns-clause-ok
returns-clause-ok c =
    let es = c.args.self.now.sheets.entries in
    let name = c.sheet_name-name.result in
    name_step es c.insert.new.self.entries c.args.write name c.sheet_name-name.ensures.name (Some c.in_ok-one.one)
    (λ k. c.in_ok-insert.ensures.updates.0 k ∙ ap (λ m. cond (is_at (write_order name) k) (Some c.in_ok-one.one) (sheet_of m.entries k)) c.get_mut.follows.holds-at-none)
    (Some c.args.kept)
    (λ p. c.in_ok-one.ensures p ∙ in_found (Some c.args.kept) p (c.args.write.number % 4096) (sheet_of es name) None (sym c.in_default.ensures.value))
