-- A list of steps of the machine, step by step.
use Rattle.std.proofs.Common.{◌≡◌, List, [], ◌∷◌, ◌++◌, true, refl, sym, ◌∙◌, ap, subst}
use Rattle.std.proofs.Common.{ℕ, ◌≤◌, length, take}
use Rattle.std.proofs.lemmas.List.{take_all}
use Rattle.std.specs.Prelude.{Some, None}
use Rattle.jr_model.specs.declared.events.Started.{Started}
use Rattle.jr_model.specs.declared.steps.Step.{Step}
use Rattle.jr_model.specs.declared.steps.StepReply.{StepReply}
use Rattle.jr_model.specs.Legal.{is_legal}
use Rattle.jr_model.specs.Machine.{State, Played, first_state, machine_run, machine_step}
use Rattle.jr_model.specs.Plan.{Plan}
use Rattle.jr_model.proofs.MachineLaws.{legal_run}
use Rattle.jr_model.specs.PlanFacts.{IsPlanned}
use Rattle.jr_model.proofs.PlanLemmas.{numbered_of}
use Rattle.jr_engines.specs.Answers.{AnswerParts}
use Rattle.jr_laws_bytes.specs.Memory.{CoversFiles}
use Rattle.jr_laws_bytes.proofs.Memories.{covers-fresh_memory}
use Rattle.jr_desk.specs.declared.plays.Player.{Player}
use Rattle.jr_desk.specs.DeskOf.{desk_in}
use Rattle.jr_desk.specs.Plays.{GoesOn, IsReady, KeepsReads, state_of}

abbrev with_step : Plan → Played → Step → Played
with_step plan played next =
    let stepped = machine_step plan played.state next in
    record { replies = played.replies ++ stepped.reply ∷ []; state = stepped.state }

run_more : (plan : Plan) (s : State) (steps : List Step) (next : Step) → machine_run plan s (steps ++ next ∷ []) ≡ with_step plan (machine_run plan s steps) next
run_more plan s [] next = refl
run_more plan s (first ∷ steps) next =
    let stepped = machine_step plan s first in
    ap (λ (played : Played). record { replies = stepped.reply ∷ played.replies; state = played.state }) (run_more plan stepped.state steps next)

-- a player that made these steps, with these replies
pub record HasPlayed (plan : Plan) (steps : List Step) (replies : List StepReply) (player : Player) : Type 0 where
  pub played : machine_run plan (first_state plan) steps ≡ record { replies = replies; state = state_of player }
  pub its_plan : player.desk.plan ≡ plan
  pub covers : CoversFiles player.desk.plan player.engine.memory
  pub reads : KeepsReads player.desk.plan player.desk.history player.reads.items

-- it is ready for the next step
pub ready_on : (plan : Plan) (steps : List Step) (replies : List StepReply) (player : Player) → IsPlanned plan → HasPlayed plan steps replies player → IsReady player
ready_on plan steps replies player planned so = record {
  planned = subst IsPlanned (sym so.its_plan) planned;
  legal =
      subst (λ (p : Plan). is_legal p player.desk.history ≡ true) (sym so.its_plan)
      (subst (λ (played : Played). is_legal plan played.state.history ≡ true) so.played (legal_run plan steps (numbered_of plan planned)));
  covers = so.covers;
  reads = so.reads;
}

-- and goes on
pub played_on : (plan : Plan) (steps : List Step) (replies : List StepReply) (player new : Player) (next : Step) (reply : StepReply) → HasPlayed plan steps replies player → GoesOn player (machine_step player.desk.plan (state_of player) next) reply new → HasPlayed plan (steps ++ next ∷ []) (replies ++ reply ∷ []) new
played_on plan steps replies player new next reply so goes =
    let stepped = machine_step plan (state_of player) next in
    let same : machine_step player.desk.plan (state_of player) next ≡ stepped = ap (λ (p : Plan). machine_step p (state_of player) next) so.its_plan in record {
      played =
          run_more plan (first_state plan) steps next
          ∙ ap (λ (played : Played). with_step plan played next) so.played
          ∙ ap (λ (r : StepReply). record { replies = replies ++ r ∷ []; state = stepped.state }) (sym (goes.answer ∙ ap (λ s. s.reply) same))
          ∙ ap (λ (s : State). record { replies = replies ++ reply ∷ []; state = s }) (sym (goes.state ∙ ap (λ s. s.state) same));
      its_plan = goes.plan ∙ so.its_plan;
      covers = goes.covers;
      reads = goes.reads;
    }

none_kept : (plan : Plan) → KeepsReads plan [] []
none_kept plan = record {
  ended = λ io answer found. no_answer answer found;
  checks = λ io s check. no_io s check.0;
}
  where
    no_answer : {X : Type 0} (answer : AnswerParts) → None ≡ Some answer → X
    no_answer answer found = cc

    no_io : {X : Type 0} (s : Started) → None ≡ Some s → X
    no_io s at = cc

-- before the first step
pub first_played : (plan : Plan) (player : Player) → IsPlanned plan → state_of player ≡ first_state plan → player.desk.plan ≡ plan → player.reads.items ≡ [] → HasPlayed plan [] [] player
first_played plan player planned first same none = record {
  played = ap (λ (s : State). record { replies = []; state = s }) (sym first);
  its_plan = same;
  covers =
      subst (λ (p : Plan). CoversFiles p player.engine.memory) (sym same)
      (subst (λ (s : State). CoversFiles plan s.memory) (sym first) (covers-fresh_memory plan planned));
  reads =
      subst (λ (xs : List AnswerParts). KeepsReads player.desk.plan player.desk.history xs) (sym none)
      (subst (λ (s : State). KeepsReads player.desk.plan s.history []) (sym first) (none_kept player.desk.plan));
}

-- once it made them all, its replies and its desk are the machine's
pub played_all : (plan : Plan) (steps : List Step) (count : ℕ) (replies : List StepReply) (player : Player) → length steps ≤ count → HasPlayed plan (take count steps) replies player → (replies ≡ (machine_run plan (first_state plan) steps).replies) × (player.desk ≡ desk_in plan (machine_run plan (first_state plan) steps).state)
played_all plan steps count replies player all so =
    let played : machine_run plan (first_state plan) steps ≡ record { replies = replies; state = state_of player } =
    ap (λ (made : List Step). machine_run plan (first_state plan) made) (sym (take_all count steps all)) ∙ so.played in (
      sym (ap (λ (p : Played). p.replies) played),
      ap (λ (p : Plan). record player.desk { plan = p }) so.its_plan ∙ ap (λ (p : Played). desk_in plan p.state) (sym played),
    )
