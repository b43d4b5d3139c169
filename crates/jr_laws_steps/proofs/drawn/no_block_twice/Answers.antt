use Rattle.jr_laws_steps.proofs.OnceLaws.{no_block_twice-law}
use Rattle.jr_laws_steps.proofs.drawn.no_block_twice.Goals as goal

pub returns : goal.returns
returns c = no_block_twice-law
