use Rattle.std.proofs.Common.{◌≡◌, map}
use Rattle.jr_crew.proofs.ran.all_dones.Given as goal

-- those so far
abbrev pub invariant-loop-book : goal.invariant-loop-book
invariant-loop-book l = map (λ dones. dones.items) l.all.items ≡ l.yielded
