use Rattle.std.proofs.Common.{string_bytes}
use Rattle.std.specs.Prelude.{codes}
use Rattle.jr_report_page.specs.Cells.{at_text, use_text}
use Rattle.jr_report_page.proofs.maps.push_use.Goals as goal
use Rattle.jr_plan.proofs.ListLemmas.{added-three}

pub returns : goal.returns
unfolding use_text
returns c =
    added-three (string_bytes c.args.page.now) (string_bytes c.push_str.new.self) (string_bytes c.push_str-2.new.self) (string_bytes c.push_at.new.page)
    (codes "<use href=\"#") c.args.sign.now (at_text c.args.place)
    c.in_ok-push_str.ensures.bytes c.in_ok-push_str-2.ensures.bytes c.in_ok-push_at.ensures
