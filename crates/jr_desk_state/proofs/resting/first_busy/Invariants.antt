use Rattle.std.proofs.Common.{◌≡◌, ℕ, ◌<◌, true}
use Rattle.std.specs.Prelude.{Some}
use Rattle.jr_model.specs.Legal.{is_at_rest}
use Rattle.jr_model.specs.Plan.{SubJob, clone_of}
use Rattle.jr_desk_state.proofs.resting.first_busy.Given as goal

abbrev pub invariant-loop-clone : goal.invariant-loop-clone
invariant-loop-clone l =
    (clone : ℕ) (job : SubJob) → clone_of l.fn.plan clone ≡ Some job → clone < l.clone → is_at_rest l.fn.board.history.items job ≡ true
