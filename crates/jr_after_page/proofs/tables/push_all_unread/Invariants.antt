use Rattle.std.proofs.Common.{◌≡◌, ◌++◌, take, string_bytes}
use Rattle.std.specs.Prelude.{flat_map}
use Rattle.jr_after_page.specs.Rows.{unread_row}
use Rattle.jr_after_page.proofs.tables.push_all_unread.Given as goal

abbrev pub invariant-loop-chunk : goal.invariant-loop-chunk
invariant-loop-chunk l = string_bytes l.page ≡ string_bytes l.fn.page ++ flat_map (unread_row l.plan) (take l.chunk-index l.unread)
