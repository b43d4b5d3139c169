use Rattle.std.proofs.Common.{string_bytes}
use Rattle.jr_report_page.specs.Escapes.{escaped}
use Rattle.jr_report_page.specs.Heads.{head_text, line_text}
use Rattle.jr_report_page.specs.declared.styles.TheConstants.{STYLE}
use Rattle.jr_report_page.proofs.RowLemmas.{added_six}
use Rattle.jr_report_page.proofs.heads.push_head.Goals as goal

pub returns : goal.returns
unfolding head_text
returns c =
    added_six (string_bytes c.args.page.now) (string_bytes c.push_str.new.self)
    (string_bytes c.push_escaped.new.page) (string_bytes c.push_str-2.new.self) (string_bytes c.push_str-3.new.self)
    (string_bytes c.push_str-4.new.self) (string_bytes c.push_line.new.page)
    _ (escaped c.args.title.now) _ STYLE.now _ (line_text c.args.title.now c.args.has_found)
    c.in_ok-push_str.ensures.bytes c.in_ok-push_escaped.ensures c.in_ok-push_str-2.ensures.bytes
    c.in_ok-push_str-3.ensures.bytes c.in_ok-push_str-4.ensures.bytes c.in_ok-push_line.ensures
