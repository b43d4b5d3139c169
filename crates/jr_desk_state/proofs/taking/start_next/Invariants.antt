use Rattle.jr_desk_state.specs.Boards.{left_of}
use Rattle.jr_desk_state.proofs.Takings.{IsTaking}
use Rattle.jr_desk_state.proofs.taking.start_next.Given as goal

abbrev pub invariant-choices : goal.invariant-choices
invariant-choices l = IsTaking l.plan l.worker l.initial.board.history.items l.board

abbrev pub decreases-choices : goal.decreases-choices
decreases-choices l = left_of l.board.standings.items
