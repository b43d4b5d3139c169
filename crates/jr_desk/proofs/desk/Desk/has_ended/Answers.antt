use Rattle.std.proofs.Common.{◌∙◌, ap}
use Rattle.std.specs.Prelude.{is_some}
use Rattle.jr_model.specs.History.{outcome_of}
use Rattle.jr_desk.specs.DeskState.{DeskState}
use Rattle.jr_desk.proofs.Boxed.{handed}
use Rattle.jr_desk.proofs.desk.Desk.has_ended.Goals as goal

pub returns : goal.returns
returns c =
    c.has_ended.ensures c.self.inside.plan c.self.inside.board.value.history.items c.self.invariant.legal (handed c.self.inside.plan c.self.inside.board.value c.deref.result.now c.deref.ensures c.self.invariant.tickets)
    ∙ ap (λ (d : DeskState). is_some (outcome_of d.history c.args.id)) c.self.view_is
