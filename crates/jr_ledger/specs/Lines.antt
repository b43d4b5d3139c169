-- Believed: the text of a ledger's lines (the format is of this project).
use Rattle.std.specs.Prelude.{ℕ, List, ◌++◌, codes, decimal}
use Rattle.jr_model.specs.declared.events.WriteId.{WriteId}
use Rattle.jr_ledger.specs.declared.lines.LedgerLine.{LedgerLine}
use Rattle.jr_ledger.specs.declared.lines.LedgerLine.TheVariants as line
use Rattle.jr_ledger.specs.declared.lines.SyncId.{SyncId}

-- a write that ended whole
unfoldable pub written_text : WriteId → List ℕ
written_text write =
    codes "w " ++ decimal write.clone ++ codes " " ++ decimal write.pass ++ codes " " ++ decimal write.number ++ codes "\n"

-- a sync that is about to be asked for
unfoldable pub begun_text : SyncId → List ℕ
begun_text sync = codes "b " ++ decimal sync.file ++ codes " " ++ decimal sync.number ++ codes "\n"

-- a sync that returned well
unfoldable pub returned_text : SyncId → List ℕ
returned_text sync = codes "s " ++ decimal sync.file ++ codes " " ++ decimal sync.number ++ codes "\n"

abbrev pub line_text : LedgerLine → List ℕ
line_text (line.Written write) = written_text write
line_text (line.Begun sync) = begun_text sync
line_text (line.Returned sync) = returned_text sync
