use Rattle.jr_after_chunks.proofs.GridLaws.{each_chunk_comes}
use Rattle.jr_after_chunks.proofs.laws.each_chunk_comes.Goals as goal

pub returns : goal.returns
returns c = each_chunk_comes
