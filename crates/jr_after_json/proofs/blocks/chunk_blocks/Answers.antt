use Rattle.std.proofs.Common.{◌∙◌}
use Rattle.jr_after_json.proofs.Overs.{chunks_listed}
use Rattle.jr_after_json.proofs.blocks.chunk_blocks.Goals as goal

pub returns : goal.returns
returns c = chunks_listed c.args.plan.now c.args.chunks.now _ c.args.file c.args.size _ (c.as_slice.ensures.value ∙ c.in_ok-bads.ensures) c.in_ok-blocks.ensures
