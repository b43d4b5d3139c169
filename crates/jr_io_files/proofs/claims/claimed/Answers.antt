use Rattle.std.proofs.Common.{length, ap, ◌∙◌}
use Rattle.jr_io_files.specs.Engines.{opened_view}
use Rattle.jr_io_files.specs.Opened.{shared_view}
use Rattle.jr_io_files.proofs.EngineLemmas.{as_many}
use Rattle.jr_io_files.proofs.claims.claimed.Goals as goal

pub taken-requires : goal.taken-requires
taken-requires g c = ap length c.as_slice.ensures.value ∙ as_many shared_view opened_view _ _ c.in_ok-files.ensures.ok
