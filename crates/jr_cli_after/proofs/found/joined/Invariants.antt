use Rattle.std.proofs.Common.{◌≡◌, take, flat_map}
use Rattle.jr_cli_after.proofs.found.joined.Given as goal

-- those so far
abbrev pub invariant-loop-one : goal.invariant-loop-one
invariant-loop-one l = l.all.items ≡ flat_map (λ one. one.items) (take l.one-index l.found)
