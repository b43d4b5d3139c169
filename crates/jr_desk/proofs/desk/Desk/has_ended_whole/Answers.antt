use Rattle.std.proofs.Common.{◌∙◌, ap}
use Rattle.jr_model.specs.History.{outcome_of, ended_whole}
use Rattle.jr_desk.specs.DeskState.{DeskState}
use Rattle.jr_desk.proofs.Boxed.{handed}
use Rattle.jr_desk.proofs.desk.Desk.has_ended_whole.Goals as goal

pub returns : goal.returns
returns c =
    c.has_ended_whole.ensures c.self.inside.plan c.self.inside.board.value.history.items c.self.invariant.legal (handed c.self.inside.plan c.self.inside.board.value c.deref.result.now c.deref.ensures c.self.invariant.tickets)
    ∙ ap (λ (d : DeskState). ended_whole (outcome_of d.history c.args.id)) c.self.view_is
