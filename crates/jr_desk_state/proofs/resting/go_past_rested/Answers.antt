-- The clones that are passed by are looked at again, and all else stays.
use Rattle.jr_desk_state.proofs.resting.go_past_rested.Goals as goal

pub returns-then-earliest-clones-clause-board : goal.returns-then-earliest-clones-clause-board
returns-then-earliest-clones-clause-board c =
    let is = c.requires in
    record {
      planned = is.planned;
      legal = is.legal;
      tickets = is.tickets;
      flying = is.flying;
      log = is.log;
      tallies = is.tallies;
      standings = is.standings;
      rested = record { leading = c.first_busy.ensures; earlier = c.earliest_busy.ensures; last = is.rested.last };
      waiting = is.waiting;
      others = is.others;
      left = is.left;
      few = is.few;
    }
