use Rattle.json.specs.Print.{quoted}
use Rattle.std.proofs.Common.{codes}
use Rattle.jr_report_json.proofs.Members.{faults_name, files_name, fiorun_name, five_more, interrupted_name, member_more}
use Rattle.jr_report_json.proofs.texts.push_head.Goals as goal

pub returns : goal.returns
returns c =
    five_more c.args.text.now.items c.push_cache.new.text.items c.push_faults.new.text.items c.push_files.new.text.items c.push_string.new.text.items
    c.push_flag.new.text.items _ _ _ _ _
    c.in_ok-push_cache.ensures
    (member_more c.push_cache.new.text.items c.push_text.new.text.items c.push_faults.new.text.items _
    (codes ",") (quoted (codes "faults")) _ faults_name c.in_ok-push_text.ensures c.in_ok-push_faults.ensures)
    (member_more c.push_faults.new.text.items c.push_text-2.new.text.items c.push_files.new.text.items _ (codes ",") (quoted (codes "files")) _
    files_name c.in_ok-push_text-2.ensures c.in_ok-push_files.ensures)
    (member_more c.push_files.new.text.items c.push_text-3.new.text.items c.push_string.new.text.items _ (codes ",") (quoted (codes "fiorun")) _
    fiorun_name c.in_ok-push_text-3.ensures c.in_ok-push_string.ensures)
    (member_more c.push_string.new.text.items c.push_text-4.new.text.items c.push_flag.new.text.items _ (codes ",") (quoted (codes "interrupted")) _
    interrupted_name c.in_ok-push_text-4.ensures c.in_ok-push_flag.ensures)
