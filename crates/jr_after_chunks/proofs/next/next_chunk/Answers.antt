use Rattle.std.proofs.Common.{sym, subst}
use Rattle.std.specs.Prelude.{IfSome}
use Rattle.jr_after_chunks.specs.Next.{IsNext, IsReadable}
use Rattle.jr_after_chunks.proofs.NextLemmas.{next_is_next, next_is_readable}
use Rattle.jr_after_chunks.proofs.next.next_chunk.Goals as goal

pub returns-clause-next : goal.returns-clause-next
returns-clause-next c =
    subst (IsNext c.args.plan.now.clones c.args.file c.args.from) (sym c.first_chunk.ensures) (next_is_next c.args.plan.now.clones c.args.file c.args.from)

pub returns-clause-readable : goal.returns-clause-readable
returns-clause-readable c =
    subst (λ found. IfSome found (IsReadable c.args.file)) (sym c.first_chunk.ensures) (next_is_readable c.args.plan.now c.args.file c.args.from c.facts.ensures)
