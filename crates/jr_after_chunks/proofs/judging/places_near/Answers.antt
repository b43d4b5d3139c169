use Rattle.std.proofs.Common.{ℕ, flat_map, ap, ◌∙◌}
use Rattle.jr_after_chunks.specs.Index.{part_of, places_at}
use Rattle.jr_after_chunks.specs.Judging.{over_at}
use Rattle.jr_after_chunks.proofs.IndexLemmas.{over_by_index}
use Rattle.jr_after_chunks.proofs.judging.places_near.Goals as goal

pub returns : goal.returns
returns c =
    let chunk = c.args.chunk.now in
    let named = c.args.named.now in
    ap (flat_map (over_at chunk named)) (c.places_over.ensures ∙ ap (λ (part : ℕ). places_at c.args.index.now (chunk.file, part)) c.part_of.ensures.value ∙ c.requires.indexed chunk.file (part_of chunk.offset))
    ∙ over_by_index chunk named c.requires.some
