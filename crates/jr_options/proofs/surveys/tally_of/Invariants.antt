use Rattle.std.proofs.Common.{◌≡◌, drop, Ok}
use Rattle.std.specs.Option.{option_copied}
use Rattle.jr_job_options.specs.Options.{AreInRange}
use Rattle.jr_options.specs.Surveys.{IsCapped, survey_from}
use Rattle.jr_options.proofs.surveys.tally_of.Given as goal

-- the survey so far, with the other sections
abbrev pub invariant-loop-section : goal.invariant-loop-section
invariant-loop-section l =
    (survey_from (option_copied l.only) (Ok l.survey) (drop l.section-index l.sections) ≡ survey_from (option_copied l.only) (Ok l.fn.start) l.sections)
    × AreInRange l.survey.globals × IsCapped l.survey.tally
