use Rattle.jr_report_page.proofs.HiddenLemmas.{nothing_hidden}
use Rattle.jr_report_page.proofs.laws.page_hides_nothing.Goals as goal

pub returns : goal.returns
returns c = nothing_hidden
