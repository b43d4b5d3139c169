use Rattle.std.proofs.Common.{ap, ◌∙◌}
use Rattle.std.specs.Prelude.{not, ◌==◌, ◌&&◌}
use Rattle.jr_after_report.specs.Reports.{FileState}
use Rattle.jr_after_report.proofs.Faults.{faults_counted}
use Rattle.jr_after_report.proofs.reports.FileReport.has_fault.Goals as goal

pub returns : goal.returns
returns c = λ plan found is.
    c.have_fault.ensures
    ∙ ap (λ (state : FileState). not ((state.counts.lost == 0) && (state.counts.broken == 0))) (c.self.view_is ∙ is)
    ∙ faults_counted found.chunks
