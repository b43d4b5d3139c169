use Rattle.std.proofs.Common.{◌≡◌, Bool, true, false, refl, sym, ◌∙◌, ap, inl, inr}
use Rattle.std.proofs.Math.ListN.{set}
use Rattle.std.specs.Prelude.{Some}
use Rattle.jr_model.specs.declared.events.Outcome.{Outcome}
use Rattle.jr_model.specs.declared.events.Outcome.TheVariants.{Whole, Failed, Short}
use Rattle.jr_desk_tickets.specs.declared.table.IoState.{IoState}
use Rattle.jr_desk_tickets.specs.Handing.{by_outcome}
use Rattle.jr_desk_tickets.proofs.HandingMoves.{handed_end}
use Rattle.jr_desk_tickets.proofs.table.TicketTable.end.Goals as goal
use Rattle.jr_desk_tickets.proofs.table.TicketTable.end.Goals.{in-Whole, in-Whole-2, in-Failed}

same_end : (raced : Bool) (given outcome : Outcome) → given ≡ outcome → by_outcome raced (Some outcome) ≡ by_outcome raced (Some given)
same_end raced given outcome same = sym (ap {B = IoState} (λ (how : Outcome). by_outcome raced (Some how)) same)

whole_end : (raced is : Bool) (given : Outcome) → raced ≡ is → given ≡ Whole → by_outcome is (Some Whole) ≡ by_outcome raced (Some given)
whole_end raced is given told same = sym (ap (λ (b : Bool). by_outcome b (Some Whole)) told) ∙ same_end raced given Whole same

pub returns : goal.returns
returns c plan history worker next same is =
    handed_end plan history worker c.args.id c.args.outcome c.args.raced c.args.self.now _ next same refl refl
    (ap (set c.args.self.now.states.items c.args.id)
    (elim c.match-outcome.branch [
      | in-Whole w ↦ w.t-6-is ∙ whole_end c.args.raced true c.args.outcome w.if-raced.true w.in-Whole.is
      | in-Whole-2 w ↦ w.t-6-is ∙ whole_end c.args.raced false c.args.outcome w.if-raced.false w.in-Whole-2.is
      | in-Failed w ↦
          elim w.in-Failed.is [
            | inl failed ↦ w.t-6-is ∙ same_end c.args.raced c.args.outcome Failed failed
            | inr short ↦ w.t-6-is ∙ same_end c.args.raced c.args.outcome (Short short.0) short.1
          ]
    ])) is
