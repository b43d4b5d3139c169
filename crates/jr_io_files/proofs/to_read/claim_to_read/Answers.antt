use Rattle.std.proofs.Common.{length, ap, ◌∙◌}
use Rattle.jr_io_files.proofs.ToReadLemmas.{as_many}
use Rattle.jr_io_files.proofs.to_read.claim_to_read.Goals as goal

pub locked_to_read-requires : goal.locked_to_read-requires
locked_to_read-requires g c = ap length c.as_slice.ensures.value ∙ as_many _ _ _ c.in_ok-files.ensures.ok
