use Rattle.std.proofs.Common.{◌/◌, ◌%◌, ap, ◌∙◌, cond, Some, None, eq-eqb, refl}
use Rattle.jr_writes.proofs.SheetFacts.{filled_one, sheet_one}
use Rattle.jr_writes.proofs.sheets.Sheet.of_one.Goals as goal

pub invariant_of-result : goal.invariant_of-result
invariant_of-result g c = record {
  filled = filled_one c.in_ok-rows.rows c.in_ok-row.row (c.args.place / 64) (c.args.place % 64) c.args.value c.in_ok-rows.ensures
      (c.in_ok-row.ensures (c.args.place % 64) ∙ ap (λ b. cond b (Some c.args.value) None) (eq-eqb (c.args.place % 64) (c.args.place % 64) refl));
}

pub returns : goal.returns
returns g c = sheet_one c.in_ok-rows.rows c.in_ok-row.row c.args.place c.args.value c.in_ok-rows.ensures c.in_ok-row.ensures
