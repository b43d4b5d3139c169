-- What is kept of a run goes on being that of its history, where an event is put to it.
use Rattle.std.proofs.Common.{◌≡◌, ◌^◌, ◌≤◌, ℕ, suc, List, [], ◌∷◌, length, true, sym, ◌∙◌, ap, subst, arith, length-append}
use Rattle.std.specs.Prelude.{Some}
use Rattle.std.proofs.Math.ListN.{set}
use Rattle.jr_model.specs.declared.events.Event.{Event}
use Rattle.jr_model.specs.History.{started}
use Rattle.jr_model.specs.Legal.{is_legal, may_happen}
use Rattle.jr_model.specs.Plan.{Plan, SubJob, clone_of}
use Rattle.jr_model.proofs.LegalLaws.{is_legal-more}
use Rattle.jr_model.proofs.PlanLemmas.{own_place, own_number}
use Rattle.jr_laws_steps.specs.Nexts.{IsNext, grown}
use Rattle.jr_laws_steps.proofs.StartedFew.{started_small}
use Rattle.jr_desk_totals.specs.Tallying.{CanCount, IsTallied}
use Rattle.jr_desk_totals.proofs.TallyMoves.{can_count}
use Rattle.jr_desk_tickets.specs.Handing.{IsHanded}
use Rattle.jr_desk_tickets.proofs.HandingMoves.{headers_within}
use Rattle.jr_desk_state.specs.declared.board.Board.{Board}
use Rattle.jr_desk_state.specs.declared.resting.Rested.{Rested}
use Rattle.jr_desk_state.specs.declared.standings.Standing.{Standing}
use Rattle.jr_desk_state.specs.Boards.{IsBoard, left_of}
use Rattle.jr_desk_state.specs.Flyings.{IsFlying}
use Rattle.jr_desk_state.specs.Rests.{AreRested}
use Rattle.jr_desk_state.specs.Standings.{AreOthersPrepared, AreStanding, IsStanding}
use Rattle.jr_desk_state.specs.Waitings.{AreWaiting}
use Rattle.jr_desk_state.specs.WriteLogs.{IsLog}
use Rattle.jr_desk_state.proofs.RestKept.{rested_grows}
use Rattle.jr_desk_state.proofs.StandingHere.{StandsHere}
use Rattle.jr_desk_state.proofs.StartingStandings.{standing_moves}

-- an event that may happen next after the history of a board
pub next_of : (plan : Plan) (board : Board) (event : Event) → IsBoard plan board → may_happen plan board.history.items event ≡ true
    → IsNext plan board.history.items event
next_of plan board event is may = record { planned = is.planned; legal = is.legal; may = may }

-- what was started is few
pub few_started : {plan : Plan} {board : Board} → IsBoard plan board → length (started board.history.items) ≤ 2 ^ 31
few_started {plan = plan} {board = board} is = started_small plan board.history.items is.planned is.legal

pub few_headers : {plan : Plan} {board : Board} → IsBoard plan board → length board.tickets.headers.items ≤ 2 ^ 31
few_headers {plan = plan} {board = board} is =
    omega (arith, headers_within plan board.history.items board.tickets is.tickets, few_started is)

-- a clone of the plan can be counted on
pub counts_on : {plan : Plan} {board : Board} {job : SubJob} (c : ℕ) → IsBoard plan board → clone_of plan c ≡ Some job → CanCount board.tallies c
counts_on {plan = plan} {board = board} {job = job} c is planned =
    can_count plan board.history.items board.tallies c job is.planned is.legal is.tallies planned

-- one clone moves with an event, and the others stand as before
pub one_moves : {plan : Plan} {board : Board} {c : ℕ} {job : SubJob} {standing : Standing} (event : Event) (new : Standing)
    → StandsHere plan board c job standing
    → IsStanding (grown board.history.items event) job new
    → ((other : SubJob) (one : Standing) → IsStanding board.history.items other one → clone_of plan other.clone ≡ Some other
    → (c ≡ other.clone → ⊥) → IsStanding (grown board.history.items event) other one)
    → AreStanding plan (grown board.history.items event) (set board.standings.items c new)
one_moves {plan = plan} {board = board} {c = c} {job = job} event new here moved others =
    let before = board.history.items in
    standing_moves plan before (grown before event) board.standings.items c job new here.is.standings here.planned moved
    (λ k other one there apart stood.
    others other one stood (own_place plan k other here.is.planned there)
    (λ (same : c ≡ other.clone). apart (same ∙ sym (own_number plan k other here.is.planned there))))

-- where each index goes on with the history, so does the board
pub board_grows : (plan : Plan) (before after : Board) (event : Event)
    → IsBoard plan before
    → may_happen plan before.history.items event ≡ true
    → after.history.items ≡ grown before.history.items event
    → IsHanded plan (grown before.history.items event) after.tickets
    → IsFlying plan (grown before.history.items event) after.flying
    → IsLog plan (grown before.history.items event) after.log
    → IsTallied plan (grown before.history.items event) after.tallies
    → AreStanding plan (grown before.history.items event) after.standings.items
    → after.rested ≡ before.rested
    → AreWaiting plan (grown before.history.items event) after.waiting
    → AreOthersPrepared plan after.last_issued after.standings.items
    → left_of after.standings.items ≤ after.left
    → after.left ≤ suc (length before.history.items)
    → IsBoard plan after
board_grows plan before after event is may history handed flying log tallies standings rested waiting others left few =
    let same = sym history in
    record {
      planned = is.planned;
      legal =
          subst (λ (h : List Event). is_legal plan h ≡ true) same (is_legal-more plan before.history.items event is.legal may);
      tickets = subst (λ (h : List Event). IsHanded plan h after.tickets) same handed;
      flying = subst (λ (h : List Event). IsFlying plan h after.flying) same flying;
      log = subst (λ (h : List Event). IsLog plan h after.log) same log;
      tallies = subst (λ (h : List Event). IsTallied plan h after.tallies) same tallies;
      standings = subst (λ (h : List Event). AreStanding plan h after.standings.items) same standings;
      rested =
          subst (λ (h : List Event). AreRested plan h after.rested) same
          (subst (λ (r : Rested). AreRested plan (grown before.history.items event) r) (sym rested)
          (rested_grows plan before.history.items event before.rested (next_of plan before event is may) is.rested));
      waiting = subst (λ (h : List Event). AreWaiting plan h after.waiting) same waiting;
      others = others;
      left = left;
      few = omega (arith, few, ap length history, length-append before.history.items (event ∷ []));
    }
