use Rattle.std.proofs.Common.{length, ◌∙◌}
use Rattle.std.proofs.lemmas.List.Elements.{All-same}
use Rattle.jr_after.specs.Parts.{CanHold}
use Rattle.jr_after_chunks.specs.Judging.{named_over}
use Rattle.jr_after_chunks.proofs.Over.{all_can_hold}
use Rattle.jr_after_chunks.proofs.judging.judged_at.Goals as goal

pub finding_of-requires-clause-parts : goal.finding_of-requires-clause-parts
finding_of-requires-clause-parts c =
    let chunk = c.args.chunk.now in
    All-same (CanHold chunk (length c.args.room.now)) c.in-Some.over.now (named_over chunk c.args.named.now) (c.in-Some.ensures ∙ c.requires.places)
    (all_can_hold chunk (length c.args.room.now) c.args.named.now c.requires.room c.requires.fit)

pub finding_of-requires-2-clause-parts : goal.finding_of-requires-2-clause-parts
finding_of-requires-2-clause-parts c =
    let chunk = c.args.chunk.now in
    All-same (CanHold chunk (length c.args.room.now)) c.as_slice.result.now (named_over chunk c.args.named.now) (c.as_slice.ensures.value ∙ c.in_ok-over.ensures ∙ c.requires.places)
    (all_can_hold chunk (length c.args.room.now) c.args.named.now c.requires.room c.requires.fit)
