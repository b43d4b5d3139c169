use Rattle.jr_after_chunks.proofs.GridLaws.{no_chunk_is_parts}
use Rattle.jr_after_chunks.proofs.laws.no_chunk_is_parts.Goals as goal

pub returns : goal.returns
returns c = no_chunk_is_parts
