-- Believed: what the launcher's answer says of the system's cache (launcher/launch).
use Rattle.std.specs.Prelude.{ℕ, ◌==◌, Bool, true, false, Option, None, Some, if◌then◌else◌}
use Rattle.jr_io_blocks.specs.declared.droppers.Cached.{Cached}
use Rattle.jr_io_blocks.specs.declared.droppers.Cached.TheVariants as cached

-- ':' nothing of the file, '.' nothing of these bytes, '~' some of them, '-' always all; with any other it can't be seen
abbrev pub cached_by_byte : ℕ → Cached
cached_by_byte byte =
    if byte == 58 then cached.Nothing
    else if byte == 46 then cached.Others
    else if byte == 126 then cached.These
    else if byte == 45 then cached.All
    else cached.Unseen

-- nor without an answer
abbrev pub cached_by : Option ℕ → Cached
cached_by None = cached.Unseen
cached_by (Some byte) = cached_by_byte byte

-- no more of the file can be had out of the cache, or be seen there
abbrev pub is_over : Cached → Bool
is_over cached.Nothing = true
is_over cached.Others = false
is_over cached.These = false
is_over cached.All = true
is_over cached.Unseen = true
