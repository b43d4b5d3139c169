use Rattle.std.proofs.Common.{◌∙◌, ap}
use Rattle.std.specs.Option.{option_map}
use Rattle.std.proofs.lemmas.Option.{none-some, same_Some}
use Rattle.jr_model.specs.declared.tickets.Ticket.{Ticket}
use Rattle.jr_desk_state.proofs.starting.seed_of.Goals as goal

pub returns-in-None : goal.returns-in-None
returns-in-None c plan history ticket is at =
    absurd (none-some ticket.seed (c.in-None.ensures plan history is ∙ ap (option_map (λ (t : Ticket). t.seed)) at))

pub returns-in-Some : goal.returns-in-Some
returns-in-Some c plan history ticket is at =
    same_Some c.in-Some.seed ticket.seed (c.in-Some.ensures plan history is ∙ ap (option_map (λ (t : Ticket). t.seed)) at)
