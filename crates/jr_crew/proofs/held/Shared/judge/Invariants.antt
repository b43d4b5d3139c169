use Rattle.std.specs.Prelude.{◌≡◌, ◌++◌, take, map}
use Rattle.jr_crew.proofs.held.Shared.judge.Given as goal

-- those so far were taken in
abbrev pub invariant-loop-one : goal.invariant-loop-one
invariant-loop-one g l =
    map (λ one. one.served.now) l.told.items ≡ map (λ one. one.served.now) l.initial.told.items ++ map (λ one. one.served.now) (take l.one-index l.settled)
