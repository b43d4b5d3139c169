use Rattle.std.proofs.Common.{List, ◌++◌, ap, append-nil, sym, ◌∙◌, arith}
use Rattle.std.proofs.lemmas.Option.{slice_get_past}
use Rattle.jr_rounds_rest.specs.declared.tasks.Task.{Task}
use Rattle.jr_rounds_rest.proofs.LeftLemmas.{none_left}
use Rattle.jr_rounds_rest.proofs.left.add_left.Goals as goal

pub returns-then-i-clones : goal.returns-then-i-clones
returns-then-i-clones c =
    let left = c.args.left.now.items in
    sym (append-nil left)
    ∙ ap (λ (more : List Task). left ++ more)
    (sym (none_left c.args.plan.now c.args.round.now c.args.ledger.now c.args.i c.args.task.now (slice_get_past c.args.round.now.clones c.args.i (omega arith))))
