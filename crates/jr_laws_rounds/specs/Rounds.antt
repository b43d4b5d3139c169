-- Claimed: what the current round of a clone says of its groups (of this project).
use Rattle.std.specs.Prelude.{◌≡◌, ◌==◌, ℕ, true, false, not, ◌&&◌, List, slice_get, Some}
use Rattle.std.specs.List.{list_any, list_all}
use Rattle.jr_model.specs.declared.events.Event.{Event}
use Rattle.jr_model.specs.declared.events.WriteId.{WriteId}
use Rattle.jr_model.specs.declared.workloads.Draw.{Draw}
use Rattle.jr_model.specs.History.{same_write}
use Rattle.jr_model.specs.Legal.{is_legal, is_halted}
use Rattle.jr_model.specs.Plan.{Plan, SubJob, clone_of}
use Rattle.jr_model.specs.Rounds.{pass_of, write_id, is_write_draw, has_rounds, group_index, is_full, is_settled, waits_for_round, rounds_closed, all_issued}
use Rattle.jr_model.specs.PlanFacts.{IsPlanned}
use Rattle.jr_backlog.specs.Rounds.{is_due, is_closed}
use Rattle.jr_backlog.specs.CurrentRound.{current_round}
use Rattle.jr_backlog.specs.Kept.{rounds_of}
use Rattle.jr_laws_rounds.specs.Standing.{IsInPass, is_under_way}

-- a clone whose writes are checked in rounds and that isn't halted, after a legal history, in this pass
pub record HasRound (plan : Plan) (history : List Event) (job : SubJob) (pass : ℕ) : Type 0 where
  pub planned : IsPlanned plan
  pub legal : is_legal plan history ≡ true
  pub there : clone_of plan job.clone ≡ Some job
  pub in_pass : IsInPass history job pass
  pub rounds : has_rounds job ≡ true
  pub runs : is_halted history job ≡ false

-- a group of the pass waits for its checks exactly where the current round is under way
abbrev pub WaitsUnderWay : Type 0
WaitsUnderWay =
    (plan : Plan) (history : List Event) (job : SubJob) (pass : ℕ)
    → HasRound plan history job pass
    → waits_for_round history (pass_of job pass) ≡ is_under_way (current_round job history)

-- where all draws of the pass were issued, its groups are closed exactly where the current round is
abbrev pub ClosedAtEnd : Type 0
ClosedAtEnd =
    (plan : Plan) (history : List Event) (job : SubJob) (pass : ℕ)
    → HasRound plan history job pass
    → all_issued history (pass_of job pass) ≡ true
    → rounds_closed history (pass_of job pass) ≡ is_closed (current_round job history)

-- the writes that the current round still has to check are writes of the pass
abbrev pub LeftInPass : Type 0
LeftInPass =
    (plan : Plan) (history : List Event) (job : SubJob) (pass : ℕ)
    → HasRound plan history job pass
    → list_all (λ (write : WriteId). (write.clone == job.clone) && (write.pass == pass)) (current_round job history).to_check ≡ true

-- where the round is due, they are exactly those of full groups that aren't settled
abbrev pub LeftAreUnsettled : Type 0
LeftAreUnsettled =
    (plan : Plan) (history : List Event) (job : SubJob) (pass k : ℕ) (draw : Draw)
    → HasRound plan history job pass
    → slice_get (pass_of job pass).draws k ≡ Some draw
    → is_write_draw draw ≡ true
    → (is_due (current_round job history)
    && list_any (same_write (write_id (pass_of job pass) draw)) (current_round job history).to_check)
    ≡ (is_full history (pass_of job pass) (group_index (pass_of job pass) draw.number)
    && not (is_settled history (write_id (pass_of job pass) draw)))

-- the round that is left by the calls that a desk makes at a clone's events is the current round
abbrev pub KeptIsCurrent : Type 0
KeptIsCurrent =
    (plan : Plan) (history : List Event) (job : SubJob)
    → IsPlanned plan
    → is_legal plan history ≡ true
    → clone_of plan job.clone ≡ Some job
    → has_rounds job ≡ true
    → is_halted history job ≡ false
    → rounds_of job history ≡ current_round job history
