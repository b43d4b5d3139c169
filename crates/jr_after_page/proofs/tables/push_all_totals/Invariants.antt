use Rattle.std.proofs.Common.{◌≡◌, ◌++◌, take, string_bytes}
use Rattle.std.specs.Prelude.{flat_map}
use Rattle.jr_after_page.specs.Rows.{file_row}
use Rattle.jr_after_page.proofs.tables.push_all_totals.Given as goal

abbrev pub invariant-loop-one : goal.invariant-loop-one
invariant-loop-one l = string_bytes l.page ≡ string_bytes l.fn.page ++ flat_map (file_row l.plan l.unread) (take l.one-index l.found)
