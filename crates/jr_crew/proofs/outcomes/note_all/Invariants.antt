use Rattle.std.specs.Prelude.{take, map}
use Rattle.jr_crew.specs.Working.{AreDone}
use Rattle.jr_crew.proofs.outcomes.note_all.Given as goal

-- the book has those so far
abbrev pub invariant-loop-one : goal.invariant-loop-one
invariant-loop-one l = AreDone l.inline (map (λ one. one.served.now) (take l.one-index l.told)) l.initial.book l.book
