-- A mark fewer, and all else stays.
use Rattle.jr_desk_state.proofs.WaitingMoves.{waiting_released}
use Rattle.jr_desk_state.proofs.waiting.release.Goals as goal

pub returns-clause-board : goal.returns-clause-board
returns-clause-board c =
    let is = c.requires in
    record {
      planned = is.planned;
      legal = is.legal;
      tickets = is.tickets;
      flying = is.flying;
      log = is.log;
      tallies = is.tallies;
      standings = is.standings;
      rested = is.rested;
      waiting =
          waiting_released c.args.plan.now c.args.board.now.history.items c.args.board.now.waiting c.release.new.self is.waiting
          c.release.ensures.len c.release.ensures.others;
      others = is.others;
      left = is.left;
      few = is.few;
    }
