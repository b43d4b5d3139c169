use Rattle.json.specs.Print.{quoted}
use Rattle.std.proofs.Common.{ℕ, ◌++◌, codes, decimal, ap, ◌∙◌}
use Rattle.jr_report_json.proofs.Members.{member_more, status_name, three_more}
use Rattle.jr_after_json.proofs.Members.{unread_name}
use Rattle.jr_after_json.proofs.texts.push_back.Goals as goal

pub returns : goal.returns
returns c =
    three_more c.args.text.now.items c.push_number.new.text.items c.push_unread.new.text.items c.push_text-3.new.text.items
    _ _ (codes "}")
    (member_more c.args.text.now.items c.push_text.new.text.items c.push_number.new.text.items _ (codes ",") (quoted (codes "status")) _
    status_name c.in_ok-push_text.ensures
    (c.in_ok-push_number.ensures ∙ ap (λ (n : ℕ). c.push_text.new.text.items ++ decimal n) c.from.ensures))
    (member_more c.push_number.new.text.items c.push_text-2.new.text.items c.push_unread.new.text.items _ (codes ",") (quoted (codes "unread")) _
    unread_name c.in_ok-push_text-2.ensures c.in_ok-push_unread.ensures)
    c.in_ok-push_text-3.ensures
