-- What is known of the board in a desk's box is known of it where the box lends it.
use Rattle.std.proofs.Common.{◌≡◌, true, sym, subst}
use Rattle.jr_model.specs.declared.events.Event.{Event}
use Rattle.jr_model.specs.Legal.{may_happen}
use Rattle.jr_model.specs.Plan.{Plan}
use Rattle.jr_desk_state.specs.declared.board.Board.{Board}
use Rattle.jr_desk_tickets.specs.Handing.{IsHanded}

pub handed : (plan : Plan) (board lent : Board) → lent ≡ board → IsHanded plan board.history.items board.tickets → IsHanded plan board.history.items lent.tickets
handed plan board lent same is = subst (λ (b : Board). IsHanded plan board.history.items b.tickets) (sym same) is

pub lent_may : (plan : Plan) (board lent : Board) (event : Event) → lent ≡ board → may_happen plan board.history.items event ≡ true → may_happen plan lent.history.items event ≡ true
lent_may plan board lent event same may = subst (λ (b : Board). may_happen plan b.history.items event ≡ true) (sym same) may
