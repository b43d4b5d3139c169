use Rattle.std.proofs.Common.{◌∙◌}
use Rattle.jr_report_maps.proofs.marks.is_judged.Goals as goal

pub returns : goal.returns
returns c = λ history told. c.contains.ensures ∙ told.judged c.args.write.now
