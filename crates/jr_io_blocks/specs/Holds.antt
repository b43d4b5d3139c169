-- Believed: what the launcher's answer says of a block device that it was to hold (launcher/launch).
use Rattle.std.specs.Prelude.{ℕ, ◌==◌, Option, None, Some, if◌then◌else◌}
use Rattle.jr_io_blocks.specs.declared.droppers.Hold.{Hold}
use Rattle.jr_io_blocks.specs.declared.droppers.Hold.TheVariants as hold

-- '.' it is held, '-' something else has claimed it; any other says that it isn't held
abbrev pub hold_by_byte : ℕ → Hold
hold_by_byte byte =
    if byte == 46 then hold.Held
    else if byte == 45 then hold.Busy
    else hold.Nothing

-- nor is it without an answer
abbrev pub hold_by : Option ℕ → Hold
hold_by None = hold.Nothing
hold_by (Some byte) = hold_by_byte byte
