use Rattle.std.proofs.Common.{◌≡◌, subst}
use Rattle.std.specs.List.Sorted.{IsPartitionPoint}
use Rattle.std.specs.declared.cmp.Ordering.TheVariants.{Less, Greater}
use Rattle.jr_model.specs.History.{write_order}
use Rattle.jr_model.proofs.Equality.{write_order_total}
use Rattle.jr_backlog.specs.Rounds.{Round}
use Rattle.jr_backlog.proofs.OrderedKeys.{rising}
use Rattle.jr_backlog.proofs.rounds.Rounds.place_of.Goals as goal

pub returns-in-Err-clause-missed : goal.returns-in-Err-clause-missed
returns-in-Err-clause-missed c =
    subst (λ (round : Round). IsPartitionPoint (λ other. write_order other c.args.write.now ≡ Less) (λ other. write_order other c.args.write.now ≡ Greater) round.to_check c.in-Err.place) c.self.view_is
    (c.in-Err.ensures.position (rising write_order_total c.args.write.now c.self.inside.to_check.items c.self.invariant.1))
