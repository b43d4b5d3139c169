-- Believed: which files of a plan have to be held before they are written, and which may be written then (of this project).
use Rattle.std.specs.Prelude.{ℕ, Bool, true, false, ◌&&◌, List, [], Option, Some, None, Result, Ok, Err, length, map, slice_get, if◌then◌else◌}
use Rattle.std.specs.List.{list_any, range_with_len}
use Rattle.jr_model.specs.Plan.{SubJob}
use Rattle.jr_io_devices.specs.declared.uses.Use.{Use}
use Rattle.jr_io_blocks.specs.declared.droppers.Hold.{Hold}
use Rattle.jr_io_blocks.specs.declared.droppers.Hold.TheVariants as hold
use Rattle.jr_io_files.specs.declared.shares.SharedFile.{SharedFile}
use Rattle.jr_io_files.specs.Opened.{is_device}
use Rattle.jr_io_files.specs.Uses.{writes_file}

-- one of these files, if there is one of this number, is a block device
abbrev pub is_device_at : Option SharedFile → Bool
is_device_at None = false
is_device_at (Some shared) = is_device shared

-- a block device that a clone writes has to be held
abbrev pub needs_hold : List SubJob → List SharedFile → ℕ → Bool
needs_hold clones files index = list_any (writes_file index) clones && is_device_at (slice_get files index)

-- which of a plan's files have to be held, in their order
abbrev pub to_be_held : List SubJob → List SharedFile → List Bool
to_be_held clones files = map (needs_hold clones files) (range_with_len 0 (length files))

-- which are, as the words say: none is looked at if those that are in use may be written too
abbrev pub held_by : Bool → List SubJob → List SharedFile → List Bool
held_by devices_in_use clones files = if devices_in_use then [] else to_be_held clones files

-- a device may be written that is held, and of which nothing else is seen to use it
abbrev pub may_be_written : {E : Type 0} → Hold → Result (Option Use) E → Bool
may_be_written hold.Held (Ok None) = true
may_be_written hold.Held (Ok (Some by)) = false
may_be_written hold.Held (Err error) = false
may_be_written hold.Busy found = false
may_be_written hold.Nothing found = false

-- a plain file is used by what is seen to use it; where that can't be seen nothing does
abbrev pub user_of : {E : Type 0} → Result (Option Use) E → Option Use
user_of (Ok found) = found
user_of (Err error) = None
