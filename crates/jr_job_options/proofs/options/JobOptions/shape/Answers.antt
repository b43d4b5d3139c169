use Rattle.std.proofs.Common.{◌≡◌, Some}
use Rattle.jr_job_options.proofs.ShapeLemmas.{cut_if}
use Rattle.jr_job_options.proofs.options.JobOptions.shape.Goals as goal

pub returns-in-Some-clause-cut : goal.returns-in-Some-clause-cut
returns-in-Some-clause-cut c =
    let sized : c.args.self.now.size ≡ Some c.in-Some.size = cc in
    cut_if c.args.self.now c.args.line c.in-Some.size c.cut.result sized c.cut.ensures.value
