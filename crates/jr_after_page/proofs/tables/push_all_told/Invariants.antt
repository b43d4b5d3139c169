use Rattle.std.proofs.Common.{◌≡◌, ◌++◌, take, string_bytes}
use Rattle.std.specs.Prelude.{flat_map}
use Rattle.jr_after_page.specs.Rows.{told_row}
use Rattle.jr_after_page.proofs.tables.push_all_told.Given as goal

abbrev pub invariant-loop-one : goal.invariant-loop-one
invariant-loop-one l = string_bytes l.page ≡ string_bytes l.fn.page ++ flat_map (told_row l.plan) (take l.one-index l.told)
