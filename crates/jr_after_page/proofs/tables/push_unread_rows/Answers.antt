use Rattle.std.proofs.Common.{ℕ, ◌-◌, List, ◌++◌, length, take, string_bytes, ap, ◌∙◌}
use Rattle.std.specs.Prelude.{flat_map}
use Rattle.jr_model.specs.declared.blocks.Piece.{Piece}
use Rattle.jr_report_json.proofs.Members.{five_more}
use Rattle.jr_report_page.specs.Rows.{more_text}
use Rattle.jr_report_page.specs.declared.tables.TheConstants.{MOST_ROWS}
use Rattle.jr_after_page.specs.Page.{unread_rows}
use Rattle.jr_after_page.specs.Rows.{unread_row}
use Rattle.jr_after_page.proofs.tables.push_unread_rows.Goals as goal

pub returns : goal.returns
unfolding unread_rows
returns c =
    let row = unread_row c.args.plan.now in
    let t2 = string_bytes c.push_str-2.new.self in
    let t4 = string_bytes c.push_str-3.new.self in
    five_more (string_bytes c.args.page.now) (string_bytes c.push_str.new.self) t2 (string_bytes c.push_all_unread.new.page) t4
    (string_bytes c.push_more.new.page)
    _ _ (flat_map row (take MOST_ROWS c.args.unread.now)) _ (more_text (length c.args.unread.now - MOST_ROWS))
    c.in_ok-push_str.ensures.bytes c.in_ok-push_str-2.ensures.bytes
    (c.in_ok-push_all_unread.ensures ∙ ap (λ (rows : List Piece). t2 ++ flat_map row rows) c.first_of.ensures)
    c.in_ok-push_str-3.ensures.bytes
    (c.in_ok-push_more.ensures ∙ ap (λ (more : ℕ). t4 ++ more_text more) c.rest_of.ensures)
