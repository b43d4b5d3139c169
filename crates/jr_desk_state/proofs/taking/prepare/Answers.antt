-- All parts stay those of the history.
use Rattle.std.proofs.Common.{refl, sym, ◌∙◌, subst}
use Rattle.jr_desk_state.specs.declared.flying.Flying.{Flying}
use Rattle.jr_desk_state.specs.Boards.{IsBoard}
use Rattle.jr_desk_state.proofs.EndingBoards.{board_stays}
use Rattle.jr_desk_state.proofs.taking.prepare.Goals as goal

pub prepare_last-requires-clause-within : goal.prepare_last-requires-clause-within
prepare_last-requires-clause-within c clone job standing there got =
    (c.go_past_rested.ensures.board.standings.each clone job standing there got).in_pass.within

pub returns-in_err-prepare_last-clause-board : goal.returns-in_err-prepare_last-clause-board
returns-in_err-prepare_last-clause-board c =
    let board = c.go_past_rested.new.board in
    let history = board.history.items in
    let is = c.go_past_rested.ensures.board in
    board_stays c.args.plan.now board _ is refl
    (record {
      launches = c.reserve.ensures.launches ∙ is.tickets.launches;
      headers = c.reserve.ensures.headers ∙ is.tickets.headers;
      states = c.reserve.ensures.states ∙ is.tickets.states;
    })
    (c.in_ok-commit.ensures.kept c.args.plan.now history is.flying) refl is.tallies
    (c.prepare_last.ensures.kept history is.standings) refl refl c.prepare_last.ensures.others
    c.prepare_last.ensures.left refl

pub returns-in_err-reserve-2-clause-board : goal.returns-in_err-reserve-2-clause-board
returns-in_err-reserve-2-clause-board c =
    let board = c.go_past_rested.new.board in
    let history = board.history.items in
    let is = c.go_past_rested.ensures.board in
    board_stays c.args.plan.now board _ is c.reserve-2.ensures.items
    (record {
      launches = c.reserve.ensures.launches ∙ is.tickets.launches;
      headers = c.reserve.ensures.headers ∙ is.tickets.headers;
      states = c.reserve.ensures.states ∙ is.tickets.states;
    })
    (c.in_ok-commit.ensures.kept c.args.plan.now history is.flying) refl is.tallies
    (c.prepare_last.ensures.kept history is.standings) refl refl c.prepare_last.ensures.others
    c.prepare_last.ensures.left refl

pub returns-clause-board : goal.returns-clause-board
returns-clause-board c =
    let board = c.go_past_rested.new.board in
    let history = board.history.items in
    let is = c.go_past_rested.ensures.board in
    board_stays c.args.plan.now board _ is c.reserve-2.ensures.items
    (record {
      launches = c.reserve.ensures.launches ∙ is.tickets.launches;
      headers = c.reserve.ensures.headers ∙ is.tickets.headers;
      states = c.reserve.ensures.states ∙ is.tickets.states;
    })
    (c.in_ok-commit.ensures.kept c.args.plan.now history is.flying) refl is.tallies
    (c.prepare_last.ensures.kept history is.standings) refl refl c.prepare_last.ensures.others
    c.prepare_last.ensures.left refl

pub prepare_last-requires-clause-count : goal.prepare_last-requires-clause-count
prepare_last-requires-clause-count c = c.go_past_rested.ensures.board.standings.count

pub returns-in_err-commit-clause-board : goal.returns-in_err-commit-clause-board
returns-in_err-commit-clause-board c =
    let board = c.go_past_rested.new.board in
    let is = c.go_past_rested.ensures.board in
    subst (λ (flying : Flying). IsBoard c.args.plan.now (record board { flying = flying })) (sym c.in_err-commit.ensures.err) is

pub returns-in_err-reserve-clause-board : goal.returns-in_err-reserve-clause-board
returns-in_err-reserve-clause-board c =
    let board = c.go_past_rested.new.board in
    let history = board.history.items in
    let is = c.go_past_rested.ensures.board in
    board_stays c.args.plan.now board _ is refl
    (record {
      launches = c.reserve.ensures.launches ∙ is.tickets.launches;
      headers = c.reserve.ensures.headers ∙ is.tickets.headers;
      states = c.reserve.ensures.states ∙ is.tickets.states;
    })
    (c.in_ok-commit.ensures.kept c.args.plan.now history is.flying) refl is.tallies is.standings refl refl is.others refl refl
