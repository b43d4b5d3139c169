-- Claimed: what a clone may do next, by where it stands: the pass that it is in, its current round, and what it has in
-- flight (of this project).
use Rattle.std.specs.Prelude.{◌≡◌, ◌<◌, ◌==◌, ℕ, suc, nat_lt, Bool, true, false, not, ◌&&◌, ◌||◌, List, take, slice_get, Option, Some, None, if◌then◌else◌}
use Rattle.std.specs.List.{list_any, list_all}
use Rattle.jr_model.specs.declared.events.Event.{Event}
use Rattle.jr_model.specs.declared.events.Event.TheVariants.{Issue}
use Rattle.jr_model.specs.declared.events.WriteId.{WriteId}
use Rattle.jr_model.specs.declared.workloads.Draw.{Draw}
use Rattle.jr_model.specs.Choice.{choice_of_clone}
use Rattle.jr_model.specs.History.{first_given}
use Rattle.jr_model.specs.Legal.{is_legal, is_halted, has_room, is_clear, phase_is_open, takes_up, check_or_skip}
use Rattle.jr_model.specs.Plan.{Plan, SubJob, clone_of, issued_as}
use Rattle.jr_model.specs.Rounds.{Pass, pass_of, passes_of, write_id, is_write_draw, issued_count, all_issued, has_rounds, no_issue_flies, nothing_flies_of, pass_finished, clone_finished}
use Rattle.jr_model.specs.PlanFacts.{IsPlanned}
use Rattle.jr_backlog.specs.Rounds.{Round, is_due, is_closed}
use Rattle.jr_backlog.specs.CurrentRound.{current_round}

-- the clone is in this pass: those before it are finished, and none after it has begun
pub record IsInPass (history : List Event) (job : SubJob) (pass : ℕ) : Type 0 where
  pub within : pass < job.passes
  pub before : list_all (pass_finished history) (take pass (passes_of job)) ≡ true
  pub after : (later : ℕ) → pass < later → issued_count history (pass_of job later) ≡ 0

-- the round is due, and not each of its writes was passed
abbrev pub is_under_way : Round → Bool
is_under_way round = is_due round && not (is_closed round)

-- the check or skip of the draw's write, unless it was taken up or something in flight bars it
abbrev pub take_up : Plan → List Event → ℕ → Pass → Option Draw → Option Event
take_up plan history worker pass None = None
take_up plan history worker pass (Some draw) =
    if list_any (takes_up (write_id pass draw)) history || not (is_clear plan history pass.job false draw.piece) then None
    else Some (check_or_skip history worker pass draw)

-- the same of a write of the clone
abbrev pub take_up_write : Plan → List Event → ℕ → SubJob → WriteId → Option Event
take_up_write plan history worker job write =
    let pass = pass_of job write.pass in
    take_up plan history worker pass (slice_get pass.draws write.number)

-- the issue of a draw, unless something in flight bars it or its phase isn't open
abbrev pub issue_of : Plan → List Event → ℕ → Pass → Option Draw → Option Event
issue_of plan history worker pass None = None
issue_of plan history worker pass (Some draw) =
    if is_clear plan history pass.job (is_write_draw draw) draw.piece && phase_is_open plan history pass.job
    then Some (Issue worker (issued_as pass.job draw.dir) (write_id pass draw) draw.piece)
    else None

-- the issue of the next draw: of this pass, or of the next one where this one is finished
abbrev pub next_issue : Plan → List Event → ℕ → SubJob → ℕ → Option Event
next_issue plan history worker job pass =
    let here = pass_of job pass in
    let next = pass_of job (suc pass) in
    if pass_finished history here
    then (if nat_lt (suc pass) job.passes then issue_of plan history worker next (slice_get next.draws 0) else None)
    else issue_of plan history worker here (slice_get here.draws (issued_count history here))

-- the step of a clone that is in this pass: while a round is under way a check or skip of one of its writes, and else the
-- issue of its next draw
abbrev pub step_in_pass : Plan → List Event → ℕ → SubJob → ℕ → Option Event
step_in_pass plan history worker job pass =
    let round = current_round job history in
    if is_halted history job || not (has_room history job) then None
    else (if has_rounds job && is_under_way round
    then (if no_issue_flies history job.clone then first_given (take_up_write plan history worker job) round.to_check else None)
    else next_issue plan history worker job pass)

-- this is the least step of the clone
abbrev pub ChoiceByStanding : Type 0
ChoiceByStanding =
    (plan : Plan) (history : List Event) (worker clone pass : ℕ) (job : SubJob)
    → IsPlanned plan
    → is_legal plan history ≡ true
    → clone_of plan clone ≡ Some job
    → IsInPass history job pass
    → choice_of_clone plan history worker job ≡ step_in_pass plan history worker job pass

-- the pass that a clone is in is finished where all its draws were issued, nothing of the clone is in flight, and the
-- current round is closed
abbrev pub FinishedByStanding : Type 0
FinishedByStanding =
    (plan : Plan) (history : List Event) (clone pass : ℕ) (job : SubJob)
    → IsPlanned plan
    → is_legal plan history ≡ true
    → clone_of plan clone ≡ Some job
    → IsInPass history job pass
    → is_halted history job ≡ false
    → pass_finished history (pass_of job pass)
    ≡ (all_issued history (pass_of job pass) && nothing_flies_of history job.clone && (not (has_rounds job) || is_closed (current_round job history)))

-- and a clone is finished where it is in its last pass and that is finished
abbrev pub CloneFinishedByStanding : Type 0
CloneFinishedByStanding =
    (plan : Plan) (history : List Event) (clone pass : ℕ) (job : SubJob)
    → IsPlanned plan
    → is_legal plan history ≡ true
    → clone_of plan clone ≡ Some job
    → IsInPass history job pass
    → clone_finished history job ≡ ((suc pass == job.passes) && pass_finished history (pass_of job pass))
