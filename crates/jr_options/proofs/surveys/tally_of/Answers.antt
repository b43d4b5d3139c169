use Rattle.std.proofs.Common.{◌<◌, length, ap, ◌∙◌, sym, arith}
use Rattle.std.specs.Option.{option_copied}
use Rattle.jr_options.specs.Surveys.{tally_in}
use Rattle.jr_options.proofs.SectionLemmas.{survey_refused}
use Rattle.jr_options.proofs.surveys.tally_of.Goals as goal

pub returns-in-Err-clause-value : goal.returns-in-Err-clause-value
returns-in-Err-clause-value c =
    let sections = c.args.sections.now in
    let within : c.loop-section.section-index < length sections = omega arith in
    let refused = survey_refused (option_copied c.args.only) c.loop-section.survey c.in-Err.fault sections c.loop-section.section-index c.section-item.result within c.section-item.is (sym c.in-Err.ensures.value) in
    ap tally_in (sym (sym c.loop-section.invariant.0 ∙ refused))
