use Rattle.std.proofs.Common.{◌≤◌, ◌<◌, length, Ok, ap, ◌∙◌, sym, arith}
use Rattle.std.proofs.lemmas.List.{at_drop_all}
use Rattle.jr_job_options.specs.Options.{options_from}
use Rattle.jr_job_options.proofs.LookupLemmas.{options_read}
use Rattle.jr_job_options.proofs.OptionLemmas.{fault_there}
use Rattle.jr_job_options.proofs.options.JobOptions.with_lines.Goals as goal

pub returns-in-Err-clause-value : goal.returns-in-Err-clause-value
returns-in-Err-clause-value c =
    let lines = c.args.lines.now in
    let within : c.loop-line.line-index < length lines = omega arith in
    sym (sym c.loop-line.invariant.0 ∙ fault_there c.loop-line.options c.in-Err.fault lines c.loop-line.line-index c.line-item.result within c.line-item.is (sym c.in-Err.ensures.value))

pub returns-clause-lookups : goal.returns-clause-lookups
returns-clause-lookups c = λ fresh.
    let lines = c.args.lines.now in
    let options = c.loop-line.options in
    let past : length lines ≤ c.loop-line.line-index = omega arith in
    options_read lines options
    (sym (ap (λ o. options_from (Ok o) lines) fresh) ∙ sym c.loop-line.invariant.0 ∙ at_drop_all (options_from (Ok options)) lines c.loop-line.line-index past)
