use Rattle.jr_laws_log.proofs.IntactLaws.{unended_is_unlogged}
use Rattle.jr_laws_log.proofs.intact.unended_is_unlogged.Goals as goal

pub returns : goal.returns
returns c = unended_is_unlogged
