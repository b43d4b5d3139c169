use Rattle.std.specs.Prelude.{◌≡◌, ◌++◌, take, map}
use Rattle.jr_crew.proofs.outcomes.rule_all.Given as goal

-- those so far are settled
abbrev pub invariant-loop-one : goal.invariant-loop-one
invariant-loop-one l =
    map (λ one. one.served.now) l.settled.items ≡ map (λ one. one.served.now) l.initial.settled.items ++ take l.one-index l.served
