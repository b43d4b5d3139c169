use Rattle.std.proofs.Common.{arith}
use Rattle.std.proofs.lemmas.Option.{slice_get_within}
use Rattle.jr_model.specs.History.{started}
use Rattle.jr_crew_books.proofs.Settling.{all_settled}
use Rattle.jr_crew_books.proofs.finished.all_finished.Goals as goal

pub returns : goal.returns
returns c all =
    let history = c.args.account.now.history in
    all_settled history
    (λ id io at. c.loop-id.invariant id io (omega (arith, slice_get_within (started history) id io at, c.count-id-end.ensures)) at)
