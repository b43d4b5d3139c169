use Rattle.std.proofs.Common.{◌≡◌, ◌++◌, drop}
use Rattle.jr_rounds_rest.specs.Left.{checks_from}
use Rattle.jr_rounds_rest.proofs.unchecked.checks_from.Given as goal

-- the checks so far, and those of this one and the other pieces
abbrev pub invariant-loop-piece : goal.invariant-loop-piece
invariant-loop-piece l =
    l.tasks.items ++ checks_from l.original l.task (drop l.piece-index l.pieces) ≡ checks_from l.original l.fn.first l.pieces
