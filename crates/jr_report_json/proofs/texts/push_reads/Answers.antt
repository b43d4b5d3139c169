use Rattle.json.specs.Print.{quoted}
use Rattle.std.proofs.Common.{codes}
use Rattle.jr_report_json.proofs.Members.{badreads_name, member_more}
use Rattle.jr_report_json.proofs.texts.push_reads.Goals as goal

pub returns : goal.returns
returns c =
    member_more c.args.text.now.items c.push_text.new.text.items c.push_bads.new.text.items _ (codes "{") (quoted (codes "badreads")) _
    badreads_name c.in_ok-push_text.ensures c.in_ok-push_bads.ensures
