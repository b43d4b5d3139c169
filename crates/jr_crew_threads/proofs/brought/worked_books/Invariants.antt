use Rattle.std.proofs.Common.{◌≡◌, [], flat_map, length, map}
use Rattle.std.specs.Prelude.{All, IfOk, Ok}
use Rattle.std.specs.Vec.Iter.{into_iter_items}
use Rattle.jr_crew_channel.specs.Passes.{pass_state}
use Rattle.jr_crew_threads.specs.Parts.{IsMore, IsPutter}
use Rattle.jr_crew_threads.proofs.brought.worked_books.Given as goal

-- the engines and books so far, and their parts; what is left has its parts too
abbrev pub invariant-loop-one : goal.invariant-loop-one
invariant-loop-one g l =
    (l.engines.items ≡ map (λ one. one.0) l.yielded)
    × (map Ok l.books.items ≡ map (λ one. one.1.book) l.yielded)
    × IsMore (length l.yielded) (flat_map (λ one. (pass_state one.1.part.pass).put) l.yielded) [] (pass_state l.initial.channel.pass) (pass_state l.channel.pass)
    × All (λ one. IfOk one.1.book (λ book. IsPutter (pass_state one.1.part.pass))) (into_iter_items l.one-iterator)
