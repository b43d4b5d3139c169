use Rattle.std.proofs.Common.{◌≡◌, Ok, ap, ◌∙◌}
use Rattle.std.specs.Option.{option_copied}
use Rattle.jr_options.specs.declared.sections.Reading.TheVariants as reading
use Rattle.jr_options.specs.Sections.{reading_of}
use Rattle.jr_options.specs.Surveys.{and_job}
use Rattle.jr_options.proofs.ReadingLemmas.{and_reading, step_by}
use Rattle.jr_options.proofs.surveys.Survey.with_section.Goals as goal

pub returns-in-Ok-Job-clause-value : goal.returns-in-Ok-Job-clause-value
returns-in-Ok-Job-clause-value c =
    let only = option_copied c.args.only in
    let s = c.args.self in
    let section = c.args.section.now in
    let says : Ok (reading.Job c.in-Ok-Job.options) ≡ reading_of only s.globals section = cc (c.in-Ok-Job.ensures.value) in
    ap (λ t. Ok (record s { tally = t })) (c.with_job.ensures.value ∙ ap (and_job s.tally c.in-Ok-Job.options) c.line_number.ensures)
    ∙ ap (and_reading s section) says
    ∙ step_by only s section
