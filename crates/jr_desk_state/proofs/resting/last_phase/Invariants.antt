use Rattle.std.proofs.Common.{◌≡◌, ◌<◌, ◌≤◌, ℕ}
use Rattle.std.specs.Prelude.{Some}
use Rattle.jr_model.specs.Plan.{SubJob, clone_of}
use Rattle.jr_desk_state.proofs.resting.last_phase.Given as goal

abbrev pub invariant-loop-clone : goal.invariant-loop-clone
invariant-loop-clone l = (c : ℕ) (job : SubJob) → clone_of l.fn.plan c ≡ Some job → c < l.clone → job.phase ≤ l.last
