use Rattle.std.proofs.Common.{◌≤◌, ◌<◌, length, arith, ◌∙◌}
use Rattle.std.specs.Option.{option_copied}
use Rattle.jr_job_notes.specs.Notes.{sections_noted}
use Rattle.jr_job_notes.proofs.NoteLemmas.{sections_done, sections_more}
use Rattle.jr_job_notes.proofs.lines.line_notes.Goals as goal

pub loop-section-preserved : goal.loop-section-preserved
loop-section-preserved c =
    let sections = c.args.sections.now in
    let within : c.loop-section.section-index < length sections = omega arith in
    sections_more (option_copied c.args.only) c.loop-section.notes.items c.add_section.new.notes.items sections c.loop-section.section-index c.section-item.result within c.section-item.is c.in_ok-add_section.ensures
    ∙ c.loop-section.invariant

pub returns : goal.returns
returns c =
    let sections = c.args.sections.now in
    let past : length sections ≤ c.loop-section.section-index = omega arith in
    sections_done (option_copied c.args.only) c.loop-section.notes.items (sections_noted (option_copied c.args.only) sections) sections c.loop-section.section-index past c.loop-section.invariant
