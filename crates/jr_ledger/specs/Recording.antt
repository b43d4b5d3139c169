-- Believed: what is recorded when (of this project): a line for a write that ended whole, one before each sync, and one after a sync that returned
-- well.
use Rattle.std.specs.Prelude.{ℕ, Bool, true, false, List, []}
use Rattle.jr_model.specs.declared.events.Outcome.{Outcome}
use Rattle.jr_model.specs.declared.events.Outcome.TheVariants.{Whole, Failed, Short}
use Rattle.jr_model.specs.declared.events.WriteId.{WriteId}
use Rattle.jr_ledger.specs.declared.lines.LedgerLine.TheVariants as line
use Rattle.jr_ledger.specs.declared.lines.SyncId.{SyncId}
use Rattle.jr_ledger.specs.Lines.{line_text}

-- what is recorded so far and wasn't handed out yet, and how many syncs of each file were asked for
pub record RecorderState : Type 0 where
  pub text : List ℕ
  pub begun : List ℕ

-- what the end of a write adds
abbrev pub end_text : WriteId → Outcome → List ℕ
end_text write Whole = line_text (line.Written write)
end_text write Failed = []
end_text write (Short n) = []

-- what the return of a sync adds
abbrev pub return_text : SyncId → Bool → List ℕ
return_text sync true = line_text (line.Returned sync)
return_text sync false = []

-- the next sync of a file
abbrev pub next_sync : ℕ → ℕ → SyncId
next_sync file number = record { file = file; number = number }
