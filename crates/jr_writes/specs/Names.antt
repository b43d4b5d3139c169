-- Internal: what is kept of the writes, found by their names, on sheets of 4,096 numbers.
use Rattle.std.specs.Prelude.{ℕ, ◌/◌, ◌%◌, List, Option, Some, None}
use Rattle.std.specs.Map.{lookup}
use Rattle.std.specs.BTreeMap.{is_at}
use Rattle.jr_model.specs.declared.events.WriteId.{WriteId}
use Rattle.jr_model.specs.History.{write_order}
use Rattle.jr_writes.specs.declared.kept.Kept.{Kept}
use Rattle.jr_writes.specs.declared.sheets.Sheet.{Sheet}
use Rattle.jr_writes.specs.Sheets.{sheet_at}

-- what stands at a place of a sheet, where there is the sheet
abbrev pub in_sheet : {V : Type 0} → Option (Sheet V) → ℕ → Option V
in_sheet None place = None
in_sheet (Some sheet) place = sheet_at sheet.rows place

-- the name of a write's sheet
abbrev pub sheet_name : WriteId → WriteId
sheet_name write = record { clone = write.clone; pass = write.pass; number = write.number / 4096 }

-- what is kept of a write
unfoldable pub name_at : List (WriteId × Sheet Kept) → WriteId → Option Kept
name_at sheets write = in_sheet (lookup (is_at (write_order (sheet_name write))) sheets) (write.number % 4096)
