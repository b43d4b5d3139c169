use Rattle.jr_model.specs.declared.events.What.TheVariants.{Header}
use Rattle.jr_model.proofs.ListLemmas.{flat_map_so_far}
use Rattle.jr_report_lines.specs.Miscompares.{bad_line}
use Rattle.jr_report_lines.proofs.bads.push_bads.Goals as goal
use Rattle.jr_desk_totals.specs.declared.tallies.Bad.{Bad}

pub loop-bad-preserved : goal.loop-bad-preserved
loop-bad-preserved c =
    let none : Bad = record { write = record { clone = 0; pass = 0; number = 0 }; piece = record { file = 0; offset = 0; len = 0 }; what = Header } in
    flat_map_so_far (bad_line c.args.plan.now) c.args.text.now.items c.loop-bad.text.items c.push_bad.new.text.items c.args.bads.now c.loop-bad.bad-index
    none c.loop-bad-test.true c.loop-bad.invariant c.in_ok-push_bad.ensures
