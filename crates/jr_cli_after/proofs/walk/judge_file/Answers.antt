use Rattle.std.proofs.Common.{◌≡◌, ◌+◌, ℕ, Some, sym, ap, subst, ◌∙◌, arith}
use Rattle.jr_model.specs.Plan.{Plan}
use Rattle.jr_after_chunks.specs.Next.{next_chunk}
use Rattle.jr_cli_after.specs.Reading.{IsRow}
use Rattle.jr_cli_after.proofs.Walks.{walk_begins, walk_ends, walk_on}
use Rattle.jr_cli_after.proofs.walk.judge_file.Goals as goal

pub loop-first-init : goal.loop-first-init
loop-first-init g c = (omega arith, walk_begins c.args.judge.now c.args.file _ c.new-told.result (c.new-told.ensures c.args.judge.now))

pub loop-first-preserved : goal.loop-first-preserved
loop-first-preserved g c =
    let first = c.in-Some.first in
    let asked = c.args.judge.now in
    let row = c.in_ok-row.row in
    let next : next_chunk asked.plan.clones c.args.file c.loop-first.from ≡ Some first =
    ap (λ (p : Plan). next_chunk p.clones c.args.file c.loop-first.from) (sym c.plan.ensures) ∙ sym c.in-Some.ensures.value in
    let is : IsRow asked.plan first row.chunks.items row.piece = subst (λ (p : Plan). IsRow p first row.chunks.items row.piece) c.plan-in-Some.ensures c.in_ok-row.ensures in
    let end : row.piece.offset + c.from.result ≡ row.piece.offset + row.piece.len = ap (λ (n : ℕ). row.piece.offset + n) c.from.ensures in (
      omega (arith, end, is.high),
      walk_on asked c.args.file _ c.loop-first.from c.loop-first.told c.judge_row.new.told _ _ first row.piece row.chunks.items (row.piece.offset + c.from.result) end c.loop-first.invariant.1 next c.in-Some.ensures.readable.file_is c.in-Some.ensures.next.from_there is c.in_ok-judge_row.ensures,
    )

pub returns : goal.returns
returns g c =
    walk_ends c.args.judge.now c.args.file _ c.loop-first.from c.loop-first.told _ c.loop-first.invariant.1
    (ap (λ (p : Plan). next_chunk p.clones c.args.file c.loop-first.from) (sym c.plan.ensures) ∙ sym c.in_default.ensures.value)
