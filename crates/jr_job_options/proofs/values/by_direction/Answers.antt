use Rattle.std.proofs.Common.{◌≡◌, ◌∷◌, sym}
use Rattle.std.specs.List.{slice_split}
use Rattle.jr_job_options.specs.OptionValues.{is_comma}
use Rattle.jr_job_options.proofs.CutLemmas.{four_values}
use Rattle.jr_job_options.proofs.values.by_direction.Goals as goal

pub returns-in-Some-cut-2 : goal.returns-in-Some-cut-2
returns-in-Some-cut-2 c =
    let text = c.args.text.now in
    let e1 : slice_split is_comma text ≡ c.in-Some.reads.now ∷ slice_split is_comma c.in-Some.rest.now = c.in-Some.ensures in
    let e2 : slice_split is_comma c.in-Some.rest.now ≡ c.in-Some-cut.writes.now ∷ slice_split is_comma c.in-Some-cut.trims.now = c.in-Some-cut.ensures in
    let e3 = c.in-Some-cut-2.ensures in
    sym (four_values text c.in-Some.reads.now c.in-Some.rest.now c.in-Some-cut.writes.now c.in-Some-cut.trims.now c.in-Some-cut-2.field-0.0.now c.in-Some-cut-2.field-0.1.now e1 e2 e3)
