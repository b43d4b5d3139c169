use Rattle.std.proofs.Common.{◌≡◌, ◌*◌, ap, ◌∙◌, arith}
use Rattle.jr_after.proofs.held.chunk_alone.Goals as goal

pub overflow_add-piece : goal.overflow_add-piece
overflow_add-piece c =
    let same : c.from.result * c.from-2.result ≡ c.args.i * c.args.planned.now.method.interval =
    ap (λ n. n * c.from-2.result) c.from.ensures ∙ ap (λ n. c.args.i * n) c.from-2.ensures in
    omega (arith, same, c.requires.from)
