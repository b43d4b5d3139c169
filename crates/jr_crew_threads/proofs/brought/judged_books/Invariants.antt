use Rattle.std.proofs.Common.{[], flat_map, length}
use Rattle.std.specs.Prelude.{All, IfOk}
use Rattle.std.specs.Vec.Iter.{into_iter_items}
use Rattle.jr_crew_channel.specs.Passes.{pass_state}
use Rattle.jr_crew_threads.specs.Judging.{AreSaidOf, IsJudging}
use Rattle.jr_crew_threads.specs.Parts.{IsMore}
use Rattle.jr_crew_threads.proofs.brought.judged_books.Given as goal

-- the books so far, and their parts; what is left has its parts too
abbrev pub invariant-loop-one : goal.invariant-loop-one
invariant-loop-one g l =
    AreSaidOf (λ book. book.items) (flat_map (λ one. (pass_state one.part.pass).taken) l.yielded) l.books.items
    × IsMore (length l.yielded) [] (flat_map (λ one. (pass_state one.part.pass).taken) l.yielded) (pass_state l.initial.channel.pass) (pass_state l.channel.pass)
    × All (λ one. IfOk one.book (λ book. IsJudging (pass_state one.part.pass) book.items)) (into_iter_items l.one-iterator)
