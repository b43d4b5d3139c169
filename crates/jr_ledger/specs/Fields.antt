-- Believed: what a line of a ledger says (the format is of this project).
use Rattle.std.specs.Prelude.{ℕ, ◌^◌, ◌==◌, nat_lt, ◌&&◌, List, length, Option, Some, None, codes, if◌then◌else◌}
use Rattle.std.specs.Option.{option_map}
use Rattle.jr_fields.specs.Fields.{fields_of, field_at, field_is, number_at}
use Rattle.jr_model.specs.declared.events.WriteId.{WriteId}
use Rattle.jr_ledger.specs.declared.lines.LedgerLine.{LedgerLine}
use Rattle.jr_ledger.specs.declared.lines.LedgerLine.TheVariants as line
use Rattle.jr_ledger.specs.declared.lines.SyncId.{SyncId}

-- the number, if it is below 2 to the power of 32
abbrev pub if_small : Option ℕ → Option ℕ
if_small None = None
if_small (Some n) = if nat_lt n (2 ^ 32) then Some n else None

abbrev pub small_at : List (List ℕ) → ℕ → Option ℕ
small_at fields k = if_small (number_at fields k)

-- the write that three numbers name
abbrev pub write_of : Option ℕ → Option ℕ → Option ℕ → Option WriteId
write_of (Some clone) (Some pass) (Some number) = Some (record { clone = clone; pass = pass; number = number })
write_of (Some clone) (Some pass) None = None
write_of (Some clone) None number = None
write_of None pass number = None

-- the sync that two numbers name
abbrev pub sync_of : Option ℕ → Option ℕ → Option SyncId
sync_of (Some file) (Some number) = Some (record { file = file; number = number })
sync_of (Some file) None = None
sync_of None number = None

abbrev pub write_in : List (List ℕ) → Option WriteId
write_in fields = write_of (small_at fields 1) (small_at fields 2) (small_at fields 3)

abbrev pub sync_in : List (List ℕ) → Option SyncId
sync_in fields = sync_of (small_at fields 1) (number_at fields 2)

-- what a line of these fields says, if it is a line of a ledger
abbrev pub line_in : List (List ℕ) → Option LedgerLine
line_in fields =
    let tag = field_at fields 0 in
    if field_is tag (codes "w") && (length fields == 4) then option_map line.Written (write_in fields)
    else (if field_is tag (codes "b") && (length fields == 3) then option_map line.Begun (sync_in fields)
    else (if field_is tag (codes "s") && (length fields == 3) then option_map line.Returned (sync_in fields) else None))

-- what a line says
abbrev pub read_line : List ℕ → Option LedgerLine
read_line text = line_in (fields_of text)
