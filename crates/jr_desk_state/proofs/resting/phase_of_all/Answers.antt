use Rattle.std.proofs.Common.{◌≡◌, ◌∙◌, min, sym, ap, arith, inl, inr}
use Rattle.jr_model.specs.Legal.{is_at_rest}
use Rattle.jr_desk_state.proofs.RestMoves.{opens_all, opens_next}
use Rattle.jr_desk_state.proofs.resting.phase_of_all.Goals.{then-not-is_at_rest, else-not-is_at_rest}
use Rattle.jr_desk_state.proofs.resting.phase_of_all.Goals as goal

pub loop-clone-preserved : goal.loop-clone-preserved
loop-clone-preserved c =
    let history = c.args.board.now.history.items in
    let job = c.clone_at.result.now in
    let rests : c.is_at_rest.result ≡ is_at_rest history job = c.is_at_rest.ensures job c.clone_at.ensures.value in
    opens_next history c.args.plan.now.clones c.loop-clone.clone c.loop-clone.phase c.if-not-is_at_rest.phase job c.clone_at.ensures.value
    (omega (arith, c.phase-own.ensures))
    (elim c.if-not-is_at_rest.branch [
      | then-not-is_at_rest w ↦ inr (sym rests ∙ w.if-not-is_at_rest.true, w.phase-is ∙ w.min-phase.ensures ∙ ap (min c.loop-clone.phase) c.phase-own.ensures)
      | else-not-is_at_rest w ↦ inl (sym rests ∙ w.if-not-is_at_rest.false, w.phase-is)
    ])
    c.loop-clone.invariant

pub returns : goal.returns
returns c =
    opens_all c.args.plan.now c.args.board.now.history.items c.loop-clone.clone c.loop-clone.phase (omega arith) c.loop-clone.invariant
