-- Claimed: a law over the definitions alone: what holds of every plan and history.
use Rattle.std.specs.Prelude.{◌≡◌, ◌≤◌, ℕ, Bool, true, List, length}
use Rattle.jr_model.specs.declared.events.Event.{Event}
use Rattle.jr_model.specs.declared.tickets.TicketKind.{TicketKind}
use Rattle.jr_model.specs.History.{started}
use Rattle.jr_model.specs.Legal.{is_legal}
use Rattle.jr_model.specs.Plan.{Plan}
use Rattle.jr_model.specs.Totals.{moved}

-- in a legal history no more of a clone's I/Os of a kind end whole than I/Os and checks were started
abbrev pub MovedAreStarted : Type 0
MovedAreStarted =
    (plan : Plan) (history : List Event) (test : TicketKind → Bool) (clone : ℕ)
    → is_legal plan history ≡ true
    → length (moved history test clone) ≤ length (started history)
