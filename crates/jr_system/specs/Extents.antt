-- Believed: how many bytes the jobs of a plan read, write and have judged, if no check is skipped (of this project).
use Rattle.std.specs.Prelude.{ℕ, ◌+◌, ◌-◌, ◌*◌, ◌/◌, List, sum_by, if◌then◌else◌}
use Rattle.jr_model.specs.declared.workloads.IoType.{IoType}
use Rattle.jr_model.specs.declared.workloads.IoType.TheVariants as io
use Rattle.jr_model.specs.Plan.{SubJob}
use Rattle.jr_model.specs.Rounds.{has_rounds}

-- how many hundredths of what a verified job of this type moves are judged, where so many hundredths of a mixed one are reads: what it
-- writes is read back, and a job that only reads has its reads judged
abbrev pub checked_percent_by_type : IoType → ℕ → ℕ
checked_percent_by_type io.Read reads = 100
checked_percent_by_type io.RandRead reads = 100
checked_percent_by_type io.Write reads = 100
checked_percent_by_type io.RandWrite reads = 100
checked_percent_by_type io.ReadWrite reads = 100 - reads
checked_percent_by_type io.RandRw reads = 100 - reads

-- how many hundredths of what a clone moves are judged
abbrev pub checked_percent : SubJob → ℕ
checked_percent job = if has_rounds job then checked_percent_by_type job.io_type job.read_percent else 0

-- what the passes of a clone read and write
abbrev pub own_bytes : SubJob → ℕ
own_bytes job = job.cells * job.passes * job.cell

-- and with what is judged
abbrev pub bytes_of : SubJob → ℕ
bytes_of job = own_bytes job + own_bytes job * checked_percent job / 100

abbrev pub extent_of : List SubJob → ℕ
extent_of clones = sum_by bytes_of clones
