use Rattle.json.specs.Print.{quoted}
use Rattle.std.proofs.Common.{List, ◌++◌, codes, map, ap, ◌∙◌}
use Rattle.jr_after_report.specs.declared.lines.Judged.{Judged}
use Rattle.jr_report_json.specs.Rows.{array_text}
use Rattle.jr_report_json.proofs.Members.{cached_name, member_more, two_more}
use Rattle.jr_after_json.specs.Json.{told_json}
use Rattle.jr_after_json.proofs.Members.{after_name}
use Rattle.jr_after_json.proofs.texts.push_front.Goals as goal

pub returns : goal.returns
returns c =
    two_more c.args.text.now.items c.push_told.new.text.items c.push_number.new.text.items _ _
    (member_more c.args.text.now.items c.push_text.new.text.items c.push_told.new.text.items _ (codes "{") (quoted (codes "after")) _
    after_name c.in_ok-push_text.ensures
    (c.in_ok-push_told.ensures
    ∙ ap (λ (told : List Judged). c.push_text.new.text.items ++ array_text (map (told_json c.args.plan.now) told)) (c.as_slice.ensures.value ∙ c.in_ok-told.ensures)))
    (member_more c.push_told.new.text.items c.push_text-2.new.text.items c.push_number.new.text.items _ (codes ",") (quoted (codes "cached")) _
    cached_name c.in_ok-push_text-2.ensures c.in_ok-push_number.ensures)
