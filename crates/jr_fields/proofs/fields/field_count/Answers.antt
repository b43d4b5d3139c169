use Rattle.std.proofs.Common.{rules, ◌≡◌, count_by, arith}
use Rattle.std.proofs.lemmas.List.Splits.{length-slice_split}
use Rattle.jr_fields.specs.Fields.{is_space}
use Rattle.jr_fields.proofs.fields.field_count.Goals as goal

pub returns : goal.returns
returns c =
    let line = c.args.line.now in
    let counted : c.count.result ≡ count_by is_space line = search rules in
    omega (arith, counted, length-slice_split is_space line)
