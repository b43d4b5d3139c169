use Rattle.std.proofs.Common.{◌≡◌, ℕ, length}
use Rattle.std.specs.Prelude.{None, fold, nat_eq}
use Rattle.std.specs.HashSet.{contains}
use Rattle.jr_replay_history.specs.WriteEnds.{last_by}
use Rattle.jr_replay_history.proofs.last_writes.last_by.Given as goal

abbrev pub invariant-loop-end : goal.invariant-loop-end
invariant-loop-end l =
    fold (last_by (λ (io : ℕ). contains nat_eq l.raced io) l.file l.block) None l.left
    ≡ fold (last_by (λ (io : ℕ). contains nat_eq l.raced io) l.file l.block) None l.ends

abbrev pub decreases-loop-end : goal.decreases-loop-end
decreases-loop-end l = length l.left
