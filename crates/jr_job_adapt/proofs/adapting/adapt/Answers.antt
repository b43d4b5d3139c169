use Rattle.std.proofs.Common.{◌≡◌, Err}
use Rattle.jr_text.specs.Refusals.{refusal_of}
use Rattle.jr_text.specs.declared.faults.TextFault.{TextFault}
use Rattle.jr_job_adapt.specs.declared.faults.AdaptFault.TheVariants.{Text}
use Rattle.jr_job_adapt.proofs.AnswerLemmas.{not_refused, refused_so}
use Rattle.jr_job_adapt.proofs.adapting.adapt.Goals as goal

pub returns-in-Ok-clause-refused : goal.returns-in-Ok-clause-refused
returns-in-Ok-clause-refused g c =
    not_refused c.in-Ok.sections (refusal_of c.args.text.now) (λ (fault : TextFault). c.adapt_read.result ≡ Err (Text fault)) c.in-Ok.ensures.refused

pub returns-in-Err-clause-refused : goal.returns-in-Err-clause-refused
returns-in-Err-clause-refused g c = refused_so _ c.in-Err.fault (refusal_of c.args.text.now) c.in-Err.ensures.refused
