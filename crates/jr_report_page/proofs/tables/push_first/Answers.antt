use Rattle.std.proofs.Common.{◌≡◌, List, ◌++◌, length, map, take, string_bytes, subst, sym, arith}
use Rattle.std.specs.Prelude.{OnOk, flat_map}
use Rattle.std.proofs.lemmas.List.{length-take-le, take_all}
use Rattle.jr_diagnosis.specs.Rulings.{told}
use Rattle.jr_report_page.specs.Rows.{bad_row}
use Rattle.jr_report_page.specs.declared.tables.TheConstants.{MOST_ROWS}
use Rattle.jr_report_page.proofs.tables.push_first.Goals as goal
use Rattle.jr_desk_totals.specs.declared.tallies.Bad.{Bad}

pub returns-then-bads-le-MOST_ROWS : goal.returns-then-bads-le-MOST_ROWS
returns-then-bads-le-MOST_ROWS c =
    let bads = c.args.bads.now in
    subst (λ (xs : List Bad). OnOk c.push_bads.result (string_bytes c.push_bads.new.page ≡ string_bytes c.args.page.now ++ flat_map (bad_row c.args.plan.now (map told c.args.found.now)) xs))
    (sym (take_all MOST_ROWS bads (omega arith))) c.push_bads.ensures

pub slice_bounds-push_bads-end : goal.slice_bounds-push_bads-end
slice_bounds-push_bads-end c =
    let full : length (take MOST_ROWS c.args.bads.now) ≡ MOST_ROWS = length-take-le MOST_ROWS c.args.bads.now (omega arith) in
    omega (arith, full)
