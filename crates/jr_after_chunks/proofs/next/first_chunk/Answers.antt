use Rattle.std.proofs.Common.{◌≡◌, ◌+◌, drop, ap, sym, ◌∙◌}
use Rattle.jr_plan.proofs.ListLemmas.{drop_at}
use Rattle.jr_after_chunks.specs.Next.{earlier, next_chunk, own_chunk}
use Rattle.jr_after_chunks.proofs.NextLemmas.{earlier_assoc}
use Rattle.jr_after_chunks.proofs.next.first_chunk.Goals as goal

pub loop-i-preserved : goal.loop-i-preserved
loop-i-preserved c =
    let clones = c.args.plan.now.clones in
    let file = c.args.file in
    let from = c.args.from in
    let i = c.loop-i.i in
    let job = c.clone_at.result.now in
    let rest = next_chunk (drop (i + 1) clones) file from in
    let next : next_chunk (drop i clones) file from ≡ earlier (own_chunk job file from) rest = ap (λ jobs. next_chunk jobs file from) (drop_at clones i job c.clone_at.ensures.value) in
    ap (λ first. earlier first rest) (c.earlier-first.ensures ∙ ap (earlier c.loop-i.first) c.own_chunk.ensures)
    ∙ earlier_assoc c.loop-i.first (own_chunk job file from) rest
    ∙ ap (earlier c.loop-i.first) (sym next)
    ∙ c.loop-i.invariant
