-- A mark more, and all else stays.
use Rattle.std.proofs.Common.{sym, ◌∙◌}
use Rattle.std.proofs.lemmas.Bool.{or_right}
use Rattle.jr_model.specs.Legal.{is_at_rest}
use Rattle.jr_desk_state.specs.Waitings.{is_blocked}
use Rattle.jr_desk_state.proofs.WaitingMoves.{waiting_marked}
use Rattle.jr_desk_state.proofs.waiting.mark_rested.Goals as goal

pub returns-then-is_at_rest-clause-board : goal.returns-then-is_at_rest-clause-board
returns-then-is_at_rest-clause-board c =
    let plan = c.args.plan.now in
    let history = c.args.board.now.history.items in
    let is = c.requires in
    record {
      planned = is.planned;
      legal = is.legal;
      tickets = is.tickets;
      flying = is.flying;
      log = is.log;
      tallies = is.tallies;
      standings = is.standings;
      rested = is.rested;
      waiting =
          waiting_marked plan history c.args.board.now.waiting c.mark.new.self c.args.clone is.waiting c.mark.ensures.len
          c.mark.ensures.others
          (λ job there. or_right (is_blocked history job) (is_at_rest history job)
          (sym (c.is_at_rest.ensures job there) ∙ c.if-is_at_rest.true));
      others = is.others;
      left = is.left;
      few = is.few;
    }
