use Rattle.std.proofs.Common.{◌≡◌, drop}
use Rattle.serde_json.specs.View.{members_view}
use Rattle.jr_report_json.specs.Rows.{with_members}
use Rattle.jr_report_json.proofs.objects.put_all.Given as goal

-- with the members that are left, the object has them all
abbrev pub invariant-loop-name : goal.invariant-loop-name
invariant-loop-name l =
    with_members (drop l.name-index l.members) (members_view l.object.entries)
    ≡ with_members l.members (members_view l.fn.object.entries)
