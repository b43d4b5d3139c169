-- Believed: whose failed call a file keeps the reason of.
use Rattle.std.specs.Prelude.{◌≡◌, ℕ}
use Rattle.jr_model.specs.declared.blocks.Dir.{Dir}
use Rattle.jr_io_blocks.specs.declared.failures.FailedCall.{FailedCall}

-- the call was to read or write so many bytes from this place on
pub record IsCallFor (way : Dir) (place count : ℕ) (call : FailedCall) : Type 0 where
  pub dir : call.dir ≡ way
  pub offset : call.offset ≡ place
  pub len : call.len ≡ count
