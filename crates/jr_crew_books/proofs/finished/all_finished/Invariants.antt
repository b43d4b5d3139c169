use Rattle.std.proofs.Common.{◌≡◌, ℕ, ◌<◌, true}
use Rattle.std.specs.Prelude.{slice_get, Some}
use Rattle.jr_model.specs.declared.events.Started.{Started}
use Rattle.jr_model.specs.History.{started}
use Rattle.jr_crew_books.specs.Finished.{is_finished}
use Rattle.jr_crew_books.proofs.finished.all_finished.Given as goal

-- all up to here have come to their end
abbrev pub invariant-loop-id : goal.invariant-loop-id
invariant-loop-id l =
    (k : ℕ) (io : Started) → k < l.id → slice_get (started l.account.history) k ≡ Some io → is_finished l.account.history k io ≡ true
