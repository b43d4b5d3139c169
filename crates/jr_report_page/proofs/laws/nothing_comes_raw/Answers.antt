use Rattle.std.specs.Prelude.{chars}
use Rattle.jr_report_page.proofs.RawLemmas.{text_clean}
use Rattle.jr_report_page.proofs.laws.nothing_comes_raw.Goals as goal

pub returns : goal.returns
returns c = λ text. text_clean (chars text)
