use Rattle.std.proofs.Common.{◌≡◌, length, take, sym, arith}
use Rattle.std.proofs.lemmas.List.{length-take-le, take_all}
use Rattle.jr_report_page.specs.declared.tables.TheConstants.{MOST_ROWS}
use Rattle.jr_after_page.proofs.tables.first_of.Goals as goal

pub returns-then-all-le-MOST_ROWS : goal.returns-then-all-le-MOST_ROWS
returns-then-all-le-MOST_ROWS g c = sym (take_all MOST_ROWS c.args.all.now (omega arith))

pub slice_bounds-result-end : goal.slice_bounds-result-end
slice_bounds-result-end g c =
    let full : length (take MOST_ROWS c.args.all.now) ≡ MOST_ROWS = length-take-le MOST_ROWS c.args.all.now (omega arith) in
    omega (arith, full)
