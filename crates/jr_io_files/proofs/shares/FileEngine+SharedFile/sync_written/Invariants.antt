use Rattle.std.proofs.Common.{length, IfErr}
use Rattle.jr_io_files.specs.Engines.{NamesFile}
use Rattle.jr_io_files.proofs.shares.FileEngine+SharedFile.sync_written.Given as goal

abbrev pub invariant-loop-index : goal.invariant-loop-index
invariant-loop-index l = IfErr l.settled (λ failed. NamesFile failed.fault (length l.self.files))
