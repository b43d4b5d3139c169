-- What the board keeps, and where a ticket of its own stands.
use Rattle.std.proofs.Common.{◌≡◌, ◌<◌, List, [], length, sym, ◌∙◌, ap, subst, arith}
use Rattle.jr_model.specs.declared.events.Event.{Event}
use Rattle.jr_model.specs.declared.tickets.Ticket.{Ticket}
use Rattle.jr_model.specs.Legal.{is_legal}
use Rattle.jr_model.specs.Plan.{Plan}
use Rattle.jr_model.specs.PlanFacts.{IsPlanned}
use Rattle.jr_laws_steps.proofs.StartedLemmas.{started_below}
use Rattle.jr_desk_totals.specs.Tallying.{IsTallied}
use Rattle.jr_desk_tickets.specs.Handing.{IsHanded}
use Rattle.jr_desk_tickets.specs.Kept.{IsOwn}
use Rattle.jr_desk_tickets.proofs.HandingMoves.{handed_length}
use Rattle.jr_desk_state.specs.declared.board.Board.{Board}
use Rattle.jr_desk_state.specs.Boards.{IsBoard, left_of}
use Rattle.jr_desk_state.specs.Flyings.{IsFlying}
use Rattle.jr_desk_state.specs.Rests.{AreRested}
use Rattle.jr_desk_state.specs.Standings.{AreOthersPrepared, AreStanding}
use Rattle.jr_desk_state.specs.declared.resting.Rested.{Rested}
use Rattle.jr_desk_state.specs.declared.waiting.Waiting.{Waiting}
use Rattle.jr_desk_state.specs.declared.written.CheckedLog.{CheckedLog}
use Rattle.jr_desk_state.specs.Waitings.{AreWaiting}
use Rattle.jr_desk_state.specs.WriteLogs.{IsLog}
use Rattle.jr_desk_state.proofs.EndingParts.{OwnParts, own_parts}

-- where no event is put to it, the board stays that of its history
pub board_stays : (plan : Plan) (before after : Board)
    → IsBoard plan before
    → after.history.items ≡ before.history.items
    → IsHanded plan before.history.items after.tickets
    → IsFlying plan before.history.items after.flying
    → after.log ≡ before.log
    → IsTallied plan before.history.items after.tallies
    → AreStanding plan before.history.items after.standings.items
    → after.rested ≡ before.rested
    → after.waiting ≡ before.waiting
    → AreOthersPrepared plan after.last_issued after.standings.items
    → left_of after.standings.items ≡ left_of before.standings.items
    → after.left ≡ before.left
    → IsBoard plan after
board_stays plan before after is history handed flying log tallies standings rested waiting others left same_left =
    let same = sym history in
    record {
      planned = is.planned;
      legal = ap (is_legal plan) history ∙ is.legal;
      tickets = subst (λ (h : List Event). IsHanded plan h after.tickets) same handed;
      flying = subst (λ (h : List Event). IsFlying plan h after.flying) same flying;
      log = subst (λ (l : CheckedLog). IsLog plan after.history.items l) (sym log)
          (subst (λ (h : List Event). IsLog plan h before.log) same is.log);
      tallies = subst (λ (h : List Event). IsTallied plan h after.tallies) same tallies;
      standings = subst (λ (h : List Event). AreStanding plan h after.standings.items) same standings;
      rested = subst (λ (r : Rested). AreRested plan after.history.items r) (sym rested)
          (subst (λ (h : List Event). AreRested plan h before.rested) same is.rested);
      waiting = subst (λ (w : Waiting). AreWaiting plan after.history.items w) (sym waiting)
          (subst (λ (h : List Event). AreWaiting plan h before.waiting) same is.waiting);
      others = others;
      left = omega (arith, left, same_left, is.left);
      few = omega (arith, same_left, ap length history, is.few);
    }

-- the parts of a ticket of the board's own
pub parts_of : (plan : Plan) (board : Board) (ticket : Ticket) → IsBoard plan board → IsOwn plan board.history.items ticket
    → OwnParts plan board.history.items ticket
parts_of plan board ticket is own = own_parts plan board.history.items ticket is.planned is.legal own

-- the ticket's number is one of those that were handed out
pub own_below : (plan : Plan) (board : Board) (ticket : Ticket) → IsBoard plan board → IsOwn plan board.history.items ticket
    → ticket.id < length board.tickets.states.items
own_below plan board ticket is own =
    let parts = parts_of plan board ticket is own in
    let below = started_below board.history.items ticket.id parts.io parts.at in
    omega (arith, below, handed_length plan board.history.items board.tickets is.tickets)

-- the board of no event
pub board_begins : (plan : Plan) (board : Board) → board.history.items ≡ []
    → IsPlanned plan
    → IsHanded plan [] board.tickets
    → IsFlying plan [] board.flying
    → IsLog plan [] board.log
    → IsTallied plan [] board.tallies
    → AreStanding plan [] board.standings.items
    → AreRested plan [] board.rested
    → AreWaiting plan [] board.waiting
    → AreOthersPrepared plan board.last_issued board.standings.items
    → left_of board.standings.items ≡ 0
    → board.left ≡ 0
    → IsBoard plan board
board_begins plan board none planned handed flying log tallies standings rested waiting others left same_left =
    let same = sym none in
    record {
      planned = planned;
      legal = ap (is_legal plan) none;
      tickets = subst (λ (h : List Event). IsHanded plan h board.tickets) same handed;
      flying = subst (λ (h : List Event). IsFlying plan h board.flying) same flying;
      log = subst (λ (h : List Event). IsLog plan h board.log) same log;
      tallies = subst (λ (h : List Event). IsTallied plan h board.tallies) same tallies;
      standings = subst (λ (h : List Event). AreStanding plan h board.standings.items) same standings;
      rested = subst (λ (h : List Event). AreRested plan h board.rested) same rested;
      waiting = subst (λ (h : List Event). AreWaiting plan h board.waiting) same waiting;
      others = others;
      left = omega (arith, left, same_left);
      few = omega (arith, same_left);
    }
