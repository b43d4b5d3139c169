use Rattle.jr_job_options.proofs.CutLemmas.{cut_is}
use Rattle.jr_job_options.proofs.values.cut.Goals as goal

pub returns : goal.returns
returns c = cut_is c.args.text.now c.split_once.result c.split_once.ensures.cases
