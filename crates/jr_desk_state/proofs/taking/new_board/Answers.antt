-- Each part is that of the empty history.
use Rattle.std.proofs.Common.{[], refl, arith}
use Rattle.std.proofs.lemmas.Option.{slice_get_within}
use Rattle.jr_desk_state.proofs.EndingBoards.{board_begins}
use Rattle.jr_desk_state.proofs.StartingStandings.{others_prepared}
use Rattle.jr_desk_state.proofs.WaitingMoves.{waiting_none}
use Rattle.jr_desk_state.proofs.taking.new_board.Goals as goal

pub returns-clause-board : goal.returns-clause-board
returns-clause-board c =
    let plan = c.args.plan.now in
    board_begins plan _ c.new-5.ensures.items c.clones.ensures.facts (c.new-6.ensures plan) (c.in_ok-flying.ensures plan)
    c.in_ok-log.ensures c.in_ok-tallies.ensures c.in_ok-standings.ensures.stand
    (record {
      leading = λ clone job there before. absurd (omega (arith, before));
      earlier = λ clone job first there at before.
          absurd (omega (arith, slice_get_within plan.clones _ first at, c.clones-2.ensures.value));
      last = c.last_phase.ensures;
    })
    (waiting_none plan [] _ c.in_ok-waiting.ensures.few c.in_ok-waiting.ensures.none)
    (others_prepared plan 0 _ c.in_ok-standings.ensures.prepared) c.in_ok-standings.ensures.left refl
