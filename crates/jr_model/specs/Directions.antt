-- Believed: which directions an I/O type has (fio's manual, "I/O type").
use Rattle.std.specs.Prelude.{Bool, true, false}
use Rattle.jr_model.specs.declared.workloads.IoType.{IoType}
use Rattle.jr_model.specs.declared.workloads.IoType.TheVariants as io

-- the I/O type has reads
abbrev pub has_reads : IoType → Bool
has_reads io.Read = true
has_reads io.RandRead = true
has_reads io.ReadWrite = true
has_reads io.RandRw = true
has_reads io.Write = false
has_reads io.RandWrite = false

-- the I/O type has writes
abbrev pub has_writes : IoType → Bool
has_writes io.Write = true
has_writes io.RandWrite = true
has_writes io.ReadWrite = true
has_writes io.RandRw = true
has_writes io.Read = false
has_writes io.RandRead = false
