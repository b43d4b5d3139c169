-- Believed: what contracts see of a file of the system that engines share, and what is done to the files before a run (of this project).
use Rattle.std.specs.Prelude.{ℕ, Bool, ◌||◌, List, []}
use Rattle.std.specs.Arc.{arc_value}
use Rattle.jr_io_blocks.specs.Parts.{FileView, named_view}
use Rattle.jr_io_files.specs.declared.opened.OpenedFile.{OpenedFile}
use Rattle.jr_io_files.specs.declared.shares.Reads.{Reads}
use Rattle.jr_io_files.specs.declared.shares.Reads.TheVariants as reads
use Rattle.jr_io_files.specs.declared.shares.SharedFile.{SharedFile}

-- the name by which it was opened
abbrev pub name_of : OpenedFile → List ℕ
name_of opened = opened.file

-- the system has a cache of plain files and of block devices
abbrev pub has_cache : OpenedFile → Bool
has_cache opened = opened.is_plain || opened.numbers.is_block_device

-- what is known of it
abbrev pub shared_view : SharedFile → FileView
shared_view shared = named_view (name_of (arc_value shared.file))

abbrev pub is_device : SharedFile → Bool
is_device shared = (arc_value shared.file).numbers.is_block_device

-- which of a run's files are synced and dropped before it: all, unless checks read what the system has of them
abbrev pub files_to_begin : Reads → List SharedFile → List SharedFile
files_to_begin reads.Synced files = files
files_to_begin reads.Cached files = []
