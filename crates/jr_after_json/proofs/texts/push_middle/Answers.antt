use Rattle.json.specs.Print.{quoted}
use Rattle.std.proofs.Common.{codes}
use Rattle.jr_report_json.proofs.Members.{files_name, fiorun_name, logic_name, member_more, three_more}
use Rattle.jr_after_json.proofs.texts.push_middle.Goals as goal

pub returns : goal.returns
returns c =
    three_more c.args.text.now.items c.push_files.new.text.items c.push_string.new.text.items c.push_string-2.new.text.items _ _ _
    (member_more c.args.text.now.items c.push_text.new.text.items c.push_files.new.text.items _ (codes ",") (quoted (codes "files")) _
    files_name c.in_ok-push_text.ensures c.in_ok-push_files.ensures)
    (member_more c.push_files.new.text.items c.push_text-2.new.text.items c.push_string.new.text.items _ (codes ",") (quoted (codes "fiorun")) _
    fiorun_name c.in_ok-push_text-2.ensures c.in_ok-push_string.ensures)
    (member_more c.push_string.new.text.items c.push_text-3.new.text.items c.push_string-2.new.text.items _ (codes ",") (quoted (codes "logic")) _
    logic_name c.in_ok-push_text-3.ensures c.in_ok-push_string-2.ensures)
