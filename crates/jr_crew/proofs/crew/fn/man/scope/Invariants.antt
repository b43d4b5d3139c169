use Rattle.std.proofs.Common.{◌≡◌, ◌+◌, ◌≤◌}
use Rattle.std.specs.Prelude.{vec_capacity, vec_len}
use Rattle.std.specs.Vec.Iter.{into_iter_len}
use Rattle.jr_crew.proofs.crew.fn.man.scope.Given as goal

-- there is room for those that are left
abbrev pub invariant-loop-verifier : goal.invariant-loop-verifier
invariant-loop-verifier g l =
    (goal.iterator-loop-verifier g).can_next l.verifier-iterator
    × (goal.iterator-loop-verifier g).is_finite l.verifier-iterator
    × (vec_capacity l.started ≡ l.wanted)
    × (vec_len l.started + into_iter_len l.verifier-iterator ≤ l.wanted)
