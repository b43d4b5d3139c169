use Rattle.std.proofs.Common.{Result, sym, ap, ◌∙◌}
use Rattle.jr_job_options.specs.declared.faults.JobFault.{JobFault}
use Rattle.jr_job_options.specs.declared.options.JobOptions.{JobOptions}
use Rattle.jr_job_options.specs.Options.{options_from}
use Rattle.jr_job_options.proofs.OptionLemmas.{fault_stays}
use Rattle.jr_job_adapt.proofs.causes.with_lines.Goals as goal

pub returns-in-Err-clause-value : goal.returns-in-Err-clause-value
returns-in-Err-clause-value c =
    sym (ap (λ (r : Result JobOptions JobFault). options_from r c.args.lines.now) c.in-Err.is ∙ fault_stays c.in-Err.fault c.args.lines.now)
