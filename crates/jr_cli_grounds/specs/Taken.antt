-- Believed: how a run takes its files, as its words and its jobs say (of this project).
use Rattle.std.specs.Prelude.{ℕ, Bool, true, false, ◌||◌, List, Option, None, map, if◌then◌else◌}
use Rattle.std.specs.List.{list_any}
use Rattle.jr_io_files.specs.declared.claims.Claims.{Claims}
use Rattle.jr_io_files.specs.declared.shares.Reads.{Reads}
use Rattle.jr_io_files.specs.declared.shares.Reads.TheVariants as reads
use Rattle.jr_plan.specs.declared.wishes.Wish.{Wish}
use Rattle.jr_plan.specs.declared.wishes.Wish.TheVariants as wish

-- checks read what was synced, unless the words say that they read what the system has
abbrev pub reads_of : Bool → Reads
reads_of cached = if cached then reads.Cached else reads.Synced

-- devices in use are written only if the words allow it
abbrev pub claims_of : Bool → Bool → Claims
claims_of cached in_use = record { reads = reads_of cached; devices_in_use = in_use }

-- the pipes by which engines have what is cached dropped: none if checks read what the system has
abbrev pub drop_pipes_of : Bool → Option (List ℕ) → Option (List ℕ)
drop_pipes_of cached pipes = if cached then None else pipes

-- all jobs of the file say direct=1
abbrev pub is_direct : Wish → Bool
is_direct wish.Cached = false
is_direct wish.Direct = true
is_direct wish.Mixed = false

-- which files are to go past the cache, in their order
abbrev pub directs_of : List Wish → List Bool
directs_of wishes = map is_direct wishes

-- the launcher is asked while files are taken if one is a device, or is to go past the cache
abbrev pub asks_launcher : Bool → List Wish → Bool
asks_launcher has_device wishes = has_device || list_any is_direct wishes
