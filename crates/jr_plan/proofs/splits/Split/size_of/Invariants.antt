use Rattle.std.proofs.Common.{◌≡◌, drop}
use Rattle.jr_model.specs.Draws.{size_at}
use Rattle.jr_plan.proofs.splits.Split.size_of.Given as goal

-- what is left of t, over the entries still to come, gives the size that is sought
abbrev pub invariant-loop-size : goal.invariant-loop-size
invariant-loop-size l = size_at (drop l.size-index l.size-items) l.left ≡ size_at l.self l.t
