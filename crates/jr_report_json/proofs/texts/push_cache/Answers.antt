use Rattle.json.specs.Print.{quoted}
use Rattle.std.proofs.Common.{codes}
use Rattle.jr_report_json.proofs.Members.{cached_name, direct_name, member_more, two_more}
use Rattle.jr_report_json.proofs.texts.push_cache.Goals as goal

pub returns : goal.returns
returns c =
    two_more c.args.text.now.items c.push_count.new.text.items c.push_flag_of.new.text.items _ _
    (member_more c.args.text.now.items c.push_text.new.text.items c.push_count.new.text.items _ (codes ",") (quoted (codes "cached")) _
    cached_name c.in_ok-push_text.ensures c.in_ok-push_count.ensures)
    (member_more c.push_count.new.text.items c.push_text-2.new.text.items c.push_flag_of.new.text.items _ (codes ",") (quoted (codes "direct")) _
    direct_name c.in_ok-push_text-2.ensures c.in_ok-push_flag_of.ensures)
