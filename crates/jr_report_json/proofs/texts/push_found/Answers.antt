use Rattle.json.specs.Print.{quoted}
use Rattle.std.proofs.Common.{codes}
use Rattle.jr_report_json.proofs.Members.{jobs_name, logic_name, member_more, miscompares_name, three_more}
use Rattle.jr_report_json.proofs.texts.push_found.Goals as goal

pub returns : goal.returns
returns c =
    three_more c.args.text.now.items c.push_clones.new.text.items c.push_string.new.text.items c.push_bads.new.text.items _ _ _
    (member_more c.args.text.now.items c.push_text.new.text.items c.push_clones.new.text.items _ (codes ",") (quoted (codes "jobs")) _
    jobs_name c.in_ok-push_text.ensures c.in_ok-push_clones.ensures)
    (member_more c.push_clones.new.text.items c.push_text-2.new.text.items c.push_string.new.text.items _ (codes ",") (quoted (codes "logic")) _
    logic_name c.in_ok-push_text-2.ensures c.in_ok-push_string.ensures)
    (member_more c.push_string.new.text.items c.push_text-3.new.text.items c.push_bads.new.text.items _ (codes ",") (quoted (codes "miscompares")) _
    miscompares_name c.in_ok-push_text-3.ensures c.in_ok-push_bads.ensures)
