use Rattle.std.proofs.Common.{◌∙◌}
use Rattle.jr_report_maps.proofs.marks.is_skipped.Goals as goal

pub returns : goal.returns
returns c = λ history told. c.contains.ensures ∙ told.skipped c.args.write.now
