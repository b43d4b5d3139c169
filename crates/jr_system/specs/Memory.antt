-- Believed: how much memory the history of a run may take, about, and when a run is to stop for lack of it (of this project).
use Rattle.std.specs.Prelude.{ℕ, ◌+◌, ◌*◌, ◌/◌, nat_lt, min, Bool, false, ◌&&◌, ◌||◌, List, sum_by, Option, Some, None, if◌then◌else◌}
use Rattle.jr_model.specs.Plan.{SubJob}
use Rattle.jr_system.specs.Extents.{checked_percent}

-- how many I/Os a clone has at the most, with a check of each write that is judged
abbrev pub ios_of : SubJob → ℕ
ios_of job = job.cells * job.passes + job.cells * job.passes * checked_percent job / 100

-- how many bytes are kept of an I/O, about, as measured: more if several workers have books
abbrev pub bytes_an_io : ℕ → ℕ
bytes_an_io workers = if nat_lt 1 workers then 300 else 210

abbrev pub history_bytes : List SubJob → ℕ → ℕ
history_bytes clones workers = sum_by ios_of clones * bytes_an_io workers

-- 16 MiB
abbrev pub reserve : ℕ
reserve = 16777216

-- less than a quarter of what the program has is left: reports take memory too
abbrev pub is_short_of_pages : ℕ → ℕ → Bool
is_short_of_pages used free = nat_lt free (used / 4 + reserve)

-- less is left of the addresses that it may have than it has: lists that grow at once take as many more
abbrev pub is_short_of_addresses : ℕ → Option ℕ → Bool
is_short_of_addresses used None = false
is_short_of_addresses used (Some left) = nat_lt left (used + reserve)

-- a run is to stop
abbrev pub is_short : ℕ → ℕ → Option ℕ → Bool
is_short used free addresses = is_short_of_pages used free || is_short_of_addresses used addresses

-- how much more the program can get
abbrev pub left_in : ℕ → Option ℕ → ℕ
left_in free None = free
left_in free (Some left) = min free left

-- a history is watched that isn't small and may take more than a half of it
abbrev pub is_watched : ℕ → ℕ → Bool
is_watched bytes left = nat_lt reserve bytes && nat_lt (left / 2) bytes
