use Rattle.json.specs.Print.{quoted}
use Rattle.std.proofs.Common.{codes}
use Rattle.jr_report_json.proofs.Members.{member_more, more_faults_name, plan_name, run_name, three_more}
use Rattle.jr_report_json.proofs.texts.push_planned.Goals as goal

pub returns : goal.returns
returns c =
    three_more c.args.text.now.items c.push_number.new.text.items c.push_asked.new.text.items c.push_setting.new.text.items _ _ _
    (member_more c.args.text.now.items c.push_text.new.text.items c.push_number.new.text.items _ (codes ",") (quoted (codes "more_faults")) _
    more_faults_name c.in_ok-push_text.ensures c.in_ok-push_number.ensures)
    (member_more c.push_number.new.text.items c.push_text-2.new.text.items c.push_asked.new.text.items _ (codes ",") (quoted (codes "plan")) _
    plan_name c.in_ok-push_text-2.ensures c.in_ok-push_asked.ensures)
    (member_more c.push_asked.new.text.items c.push_text-3.new.text.items c.push_setting.new.text.items _ (codes ",") (quoted (codes "run")) _
    run_name c.in_ok-push_text-3.ensures c.in_ok-push_setting.ensures)
