-- The index of each part takes the step that the end is.
use Rattle.std.proofs.Common.{◌≡◌, ℕ, List, length, get_or, refl, sym, ◌∙◌, ap, subst, arith, ◌∷◌, ◌++◌, []}
use Rattle.std.proofs.Math.ListN.{set}
use Rattle.std.specs.Prelude.{Some, slice_get}
use Rattle.std.proofs.lemmas.Bool.{and_parts}
use Rattle.std.proofs.lemmas.Option.{slice_get_read}
use Rattle.jr_model.specs.declared.events.Event.{Event}
use Rattle.jr_model.specs.declared.events.Event.TheVariants.{End}
use Rattle.jr_model.specs.declared.events.Outcome.{Outcome}
use Rattle.jr_model.specs.History.{flies, is_probe, started}
use Rattle.jr_model.specs.Legal.{end_fits, is_halted}
use Rattle.jr_model.specs.Plan.{Plan, SubJob, clone_of}
use Rattle.jr_model.specs.Races.{has_raced}
use Rattle.jr_model.specs.declared.blocks.Piece.{Piece}
use Rattle.jr_model.proofs.PlaceLemmas.{got_set}
use Rattle.jr_writes.specs.LoggedWrites.{logged}
use Rattle.jr_laws_steps.specs.Nexts.{IsNext, grown}
use Rattle.jr_desk_totals.specs.declared.tallies.Counts.{Counts}
use Rattle.jr_desk_totals.proofs.TallyMoves.{can_count, can_end, counts_are}
use Rattle.jr_desk_state.specs.declared.board.Board.{Board}
use Rattle.jr_desk_state.specs.Boards.{IsBoard}
use Rattle.jr_backlog.specs.Rounds.{is_to_check}
use Rattle.jr_backlog.specs.Deferred.{Deferred, is_committed, round_now}
use Rattle.jr_desk_state.specs.declared.standings.Standing.{Standing}
use Rattle.jr_desk_state.specs.Standings.{IsPrepared, IsStanding}
use Rattle.jr_desk_state.proofs.EndingBoards.{board_stays, own_below, parts_of}
use Rattle.jr_desk_state.proofs.LogMoves.{file_there, log_fresh, own_fits}
use Rattle.jr_desk_state.proofs.StandingMoves.{check_left}
use Rattle.jr_desk_state.proofs.StandingHere.{clone_stands, stands_at, stands_now}
use Rattle.jr_desk_state.proofs.StandingSets.{left_passed, prepared_same, prepared_settled_now, read_after_set}
use Rattle.jr_desk_state.proofs.StandingSets.{standing_resettled, standings_set}
use Rattle.jr_desk_state.proofs.StandingStays.{standings_ended}
use Rattle.jr_desk_state.proofs.StartingBoards.{board_grows, next_of}
use Rattle.jr_desk_state.proofs.StartingStandings.{left_same, others_moved}
use Rattle.jr_desk_state.proofs.WaitingMoves.{ends_free, waiting_grows}
use Rattle.jr_model.proofs.OptionLemmas.{on_error}
use Rattle.jr_desk_state.proofs.ending.end_released.Goals as goal

-- what is read at a clone's place tells whether it is halted
halted_read : (plan : Plan) (board : Board) (clone : ℕ) (job : SubJob) (counts : Counts) → IsBoard plan board
    → clone_of plan clone ≡ Some job
    → counts ≡ get_or board.tallies.counts.items clone counts → counts.is_halted ≡ is_halted board.history.items job
halted_read plan board clone job counts is planned read =
    let history = board.history.items in
    let there = (can_count plan history board.tallies clone job is.planned is.legal is.tallies planned).counts in
    let at = slice_get_read board.tallies.counts.items (length board.tallies.counts.items) clone counts refl there read in
    ap (λ (k : Counts). k.is_halted) (counts_are plan history board.tallies clone job counts is.tallies planned at)

-- what is read of a race is that of the history
raced_here : (c : goal.After-ended) → c.has_raced-raced.result ≡ has_raced c.args.board.now.history.items c.args.ticket.now.id
raced_here c =
    let history = c.args.board.now.history.items in
    let ticket = c.args.ticket.now in
    let flying = and_parts (flies history ticket.id) (end_fits ticket.worker c.args.outcome (slice_get (started history) ticket.id)) c.requires.may in
    c.has_raced-raced.ensures c.args.plan.now history c.requires.board.flying flying.0

pub index_mut-requires : goal.index_mut-requires
index_mut-requires c =
    let board = c.args.board.now in
    let parts = parts_of c.args.plan.now board c.args.ticket.now c.requires.board c.requires.own in
    let there = clone_stands c.args.plan.now board c.args.ticket.now.write.clone parts.job c.requires.board parts.planned in
    omega (arith, there, board.standings.ok.0)

pub returns-in_err-reserve-clause-board : goal.returns-in_err-reserve-clause-board
returns-in_err-reserve-clause-board c =
    let is = c.requires.board in
    board_stays c.args.plan.now c.args.board.now _ is c.reserve.ensures.items is.tickets is.flying refl
    is.tallies is.standings refl refl is.others refl refl

pub returns-in_err-commit-clause-board : goal.returns-in_err-commit-clause-board
returns-in_err-commit-clause-board c =
    let plan = c.args.plan.now in
    let board = c.args.board.now in
    let history = board.history.items in
    let clone = c.args.ticket.now.write.clone in
    let old = c.index_mut.result.now in
    let is = c.requires.board in
    let parts = parts_of plan board c.args.ticket.now is c.requires.own in
    board_stays plan board _ is c.reserve.ensures.items is.tickets is.flying refl is.tallies
    (standings_set plan history clone parts.job board.standings.items (record old { rounds = c.commit.new.self }) parts.planned is.standings
    (standing_resettled history parts.job old c.commit.new.self (ap round_now c.in_err-commit.ensures.err)
    (stands_now plan board clone parts.job old is parts.planned c.index_mut.ensures.value))) refl refl
    (others_moved plan board.last_issued clone board.standings.items old (record old { rounds = c.commit.new.self }) parts.job is.others
    parts.planned (stands_at plan board clone parts.job old is parts.planned c.index_mut.ensures.value)
    (prepared_same parts.job old c.commit.new.self c.in_err-commit.ensures.err))
    (left_same board.standings.items clone old (record old { rounds = c.commit.new.self })
    (stands_at plan board clone parts.job old is parts.planned c.index_mut.ensures.value)
    (ap (λ (d : Deferred). length (round_now d).to_check) c.in_err-commit.ensures.err))
    refl

pub log_end-requires-clause-file : goal.log_end-requires-clause-file
log_end-requires-clause-file c =
    let board = c.args.board.now in
    let is = c.requires.board in
    file_there c.args.plan.now board.history.items c.args.ticket.now board.log is.planned is.legal c.requires.own is.log

pub log_end-requires-clause-fits : goal.log_end-requires-clause-fits
log_end-requires-clause-fits c writes =
    own_fits c.args.plan.now c.args.board.now.history.items c.args.ticket.now c.requires.board.planned c.requires.board.legal c.requires.own

pub log_end-requires-clause-fresh : goal.log_end-requires-clause-fresh
log_end-requires-clause-fresh c writes =
    let plan = c.args.plan.now in
    let board = c.args.board.now in
    let ticket = c.args.ticket.now in
    ap (λ log. logged log ticket.write) c.requires.board.log.entries
    ∙ log_fresh plan board.history.items c.args.outcome ticket
    (next_of plan board (End ticket.worker ticket.id c.args.outcome) c.requires.board c.requires.may) c.requires.own writes

pub returns-in_err-log_end-clause-board : goal.returns-in_err-log_end-clause-board
returns-in_err-log_end-clause-board c =
    let plan = c.args.plan.now in
    let board = c.args.board.now in
    let history = board.history.items in
    let clone = c.args.ticket.now.write.clone in
    let old = c.index_mut.result.now in
    let is = c.requires.board in
    let parts = parts_of plan board c.args.ticket.now is c.requires.own in
    board_stays plan board _ is c.reserve.ensures.items is.tickets is.flying c.in_err-log_end.ensures.err is.tallies
    (standings_set plan history clone parts.job board.standings.items (record old { rounds = c.commit.new.self }) parts.planned is.standings
    (standing_resettled history parts.job old c.commit.new.self (ap round_now c.in_ok-commit.ensures.ok)
    (stands_now plan board clone parts.job old is parts.planned c.index_mut.ensures.value))) refl refl
    (others_moved plan board.last_issued clone board.standings.items old (record old { rounds = c.commit.new.self }) parts.job is.others
    parts.planned (stands_at plan board clone parts.job old is parts.planned c.index_mut.ensures.value)
    (prepared_settled_now parts.job old c.commit.new.self (ap is_committed c.in_ok-commit.ensures.ok)))
    (left_same board.standings.items clone old (record old { rounds = c.commit.new.self })
    (stands_at plan board clone parts.job old is parts.planned c.index_mut.ensures.value)
    (ap (λ (d : Deferred). length (round_now d).to_check) c.in_ok-commit.ensures.ok))
    refl

pub index-requires : goal.index-requires
index-requires c =
    let plan = c.args.plan.now in
    let board = c.args.board.now in
    let is = c.requires.board in
    let parts = parts_of plan board c.args.ticket.now is c.requires.own in
    let clone = c.args.ticket.now.write.clone in
    let can = can_count plan board.history.items board.tallies clone parts.job is.planned is.legal is.tallies parts.planned in
    omega (arith, can.counts, board.tallies.counts.ok.0)

pub index_mut-requires-2 : goal.index_mut-requires-2
index_mut-requires-2 c =
    let board = c.args.board.now in
    let parts = parts_of c.args.plan.now board c.args.ticket.now c.requires.board c.requires.own in
    let there = clone_stands c.args.plan.now board c.args.ticket.now.write.clone parts.job c.requires.board parts.planned in
    omega (arith, there, board.standings.ok.0)

pub check_off-passed-requires-clause-settled : goal.check_off-passed-requires-clause-settled
check_off-passed-requires-clause-settled c =
    let board = c.args.board.now in
    let clone = c.args.ticket.now.write.clone in
    let parts = parts_of c.args.plan.now board c.args.ticket.now c.requires.board c.requires.own in
    let there = clone_stands c.args.plan.now board clone parts.job c.requires.board parts.planned in
    let new : Standing = record c.index_mut.result.now { rounds = c.commit.new.self } in
    let read = read_after_set board.standings.items clone new c.index_mut-2.result.now there c.index_mut-2.ensures.value in
    ap (λ (s : Standing). is_committed s.rounds) read
    ∙ ap is_committed c.in_ok-commit.ensures.ok

pub check_off-passed-requires-clause-left : goal.check_off-passed-requires-clause-left
check_off-passed-requires-clause-left c probe whole going =
    let plan = c.args.plan.now in
    let board = c.args.board.now in
    let history = board.history.items in
    let ticket = c.args.ticket.now in
    let clone = ticket.write.clone in
    let old = c.index_mut.result.now in
    let is = c.requires.board in
    let parts = parts_of plan board ticket is c.requires.own in
    let new : Standing = record old { rounds = c.commit.new.self } in
    let there = clone_stands plan board clone parts.job is parts.planned in
    let read = read_after_set board.standings.items clone new c.index_mut-2.result.now there c.index_mut-2.ensures.value in
    let stands : IsStanding history parts.job new =
    standing_resettled history parts.job old c.commit.new.self (ap round_now c.in_ok-commit.ensures.ok)
    (stands_now plan board clone parts.job old is parts.planned c.index_mut.ensures.value) in
    let next = next_of plan board (End ticket.worker ticket.id c.args.outcome) is c.requires.may in
    let halted : c.index.result.now.is_halted ≡ is_halted history parts.job =
    halted_read plan board clone parts.job c.index.result.now is parts.planned c.index.ensures in
    ap (λ (s : Standing). is_to_check s.rounds.round ticket.write) read
    ∙ ap (is_to_check c.commit.new.self.round) (sym parts.write)
    ∙ check_left plan history parts.job new stands ticket.worker ticket.id parts.io
    (subst (λ (o : Outcome). IsNext plan history (End ticket.worker ticket.id o)) whole next) parts.at (ap is_probe parts.kind ∙ probe)
    parts.named (sym halted ∙ going) (ap is_committed c.in_ok-commit.ensures.ok)

pub end-requires : goal.end-requires
end-requires c = own_below c.args.plan.now c.args.board.now c.args.ticket.now c.requires.board c.requires.own

pub ended-requires-clause-count : goal.ended-requires-clause-count
ended-requires-clause-count c =
    let board = c.args.board.now in
    let is = c.requires.board in
    let parts = parts_of c.args.plan.now board c.args.ticket.now is c.requires.own in
    can_count c.args.plan.now board.history.items board.tallies c.args.ticket.now.write.clone parts.job is.planned is.legal is.tallies
    parts.planned

pub ended-requires-clause-block : goal.ended-requires-clause-block
ended-requires-clause-block c = (parts_of c.args.plan.now c.args.board.now c.args.ticket.now c.requires.board c.requires.own).small

pub ended-requires-clause-flying : goal.ended-requires-clause-flying
ended-requires-clause-flying c =
    let plan = c.args.plan.now in
    let board = c.args.board.now in
    let ticket = c.args.ticket.now in
    let is = c.requires.board in
    let parts = parts_of plan board ticket is c.requires.own in
    can_end plan board.history.items ticket.worker ticket.id c.args.outcome parts.io board.tallies ticket.write.clone ticket.kind parts.at
    parts.clone parts.kind (next_of plan board (End ticket.worker ticket.id c.args.outcome) is c.requires.may) is.tallies

pub overflow_sub-board : goal.overflow_sub-board
overflow_sub-board c =
    let plan = c.args.plan.now in
    let board = c.args.board.now in
    let clone = c.args.ticket.now.write.clone in
    let old = c.index_mut.result.now in
    let is = c.requires.board in
    let parts = parts_of plan board c.args.ticket.now is c.requires.own in
    let new : Standing = record old { rounds = c.commit.new.self } in
    let there = clone_stands plan board clone parts.job is parts.planned in
    omega (
      arith,
      is.left,
      left_passed board.standings.items clone old new c.index_mut-2.result.now c.check_off-passed.new.standing c.check_off-passed.result
          (stands_at plan board clone parts.job old is parts.planned c.index_mut.ensures.value)
          (ap (λ (d : Deferred). length (round_now d).to_check) c.in_ok-commit.ensures.ok)
          (read_after_set board.standings.items clone new c.index_mut-2.result.now there c.index_mut-2.ensures.value)
          c.check_off-passed.ensures.left,
    )

pub returns-clause-board : goal.returns-clause-board
returns-clause-board c =
    let plan = c.args.plan.now in
    let board = c.args.board.now in
    let history = board.history.items in
    let ticket = c.args.ticket.now in
    let clone = ticket.write.clone in
    let outcome = c.args.outcome in
    let old = c.index_mut.result.now in
    let is = c.requires.board in
    let parts = parts_of plan board ticket is c.requires.own in
    let event = End ticket.worker ticket.id outcome in
    let next = next_of plan board event is c.requires.may in
    let new : Standing = record old { rounds = c.commit.new.self } in
    let there = clone_stands plan board clone parts.job is parts.planned in
    let stands : IsStanding history parts.job new =
    standing_resettled history parts.job old c.commit.new.self (ap round_now c.in_ok-commit.ensures.ok)
    (stands_now plan board clone parts.job old is parts.planned c.index_mut.ensures.value) in
    let halted : c.index.result.now.is_halted ≡ is_halted history parts.job =
    halted_read plan board clone parts.job c.index.result.now is parts.planned c.index.ensures in
    let found : IsStanding history parts.job c.index_mut-2.result.now =
    subst (IsStanding history parts.job)
    (sym (read_after_set board.standings.items clone new c.index_mut-2.result.now there c.index_mut-2.ensures.value)) stands in
    board_grows plan board _ event is c.requires.may
    (c.push_reserved.ensures.items ∙ ap (λ (h : List Event). grown h event) c.reserve.ensures.items)
    (c.end.ensures plan history ticket.worker next (raced_here c) is.tickets)
    (c.end-2.ensures plan history ticket.worker outcome next is.flying)
    (c.in_ok-log_end.ensures.kept plan history next c.requires.own (raced_here c) is.log)
    (c.ended.ensures plan history ticket.worker ticket.id parts.io parts.at parts.clone parts.kind
    (ap (λ (p : Piece). p.len) parts.piece) next is.tallies)
    (standings_ended plan history ticket.worker outcome ticket (set board.standings.items clone new)
    c.check_off-passed.new.standing parts next
    (standings_set plan history clone parts.job board.standings.items new parts.planned is.standings stands)
    (c.check_off-passed.ensures.kept plan history parts.job ticket.worker ticket.id parts.io next parts.at parts.kind parts.write
    parts.named halted found)) refl
    (waiting_grows plan history event board.waiting next
    (ends_free history ticket.worker ticket.id clone outcome parts.io board.waiting.words.items parts.at parts.clone c.requires.free)
    is.waiting)
    (others_moved plan board.last_issued clone (set board.standings.items clone new) new c.check_off-passed.new.standing parts.job
    (others_moved plan board.last_issued clone board.standings.items old new parts.job is.others parts.planned
    (stands_at plan board clone parts.job old is parts.planned c.index_mut.ensures.value)
    (prepared_settled_now parts.job old c.commit.new.self (ap is_committed c.in_ok-commit.ensures.ok)))
    parts.planned (got_set board.standings.items clone new there)
    (λ was. c.check_off-passed.ensures.prepared parts.job
    (subst (IsPrepared parts.job)
    (sym (read_after_set board.standings.items clone new c.index_mut-2.result.now there c.index_mut-2.ensures.value)) was)))
    (omega (
      arith,
      is.left,
      left_passed board.standings.items clone old new c.index_mut-2.result.now c.check_off-passed.new.standing c.check_off-passed.result
          (stands_at plan board clone parts.job old is parts.planned c.index_mut.ensures.value)
          (ap (λ (d : Deferred). length (round_now d).to_check) c.in_ok-commit.ensures.ok)
          (read_after_set board.standings.items clone new c.index_mut-2.result.now there c.index_mut-2.ensures.value)
          c.check_off-passed.ensures.left,
    ))
    (omega (arith, is.few))

pub log_end-requires-clause-expected : goal.log_end-requires-clause-expected
log_end-requires-clause-expected c = c.requires.expected

pub push_reserved-requires : goal.push_reserved-requires
push_reserved-requires c = omega (arith, c.in_ok-reserve.ensures.ok)

pub returns-clause-ok : goal.returns-clause-ok
returns-clause-ok c =
    c.push_reserved.ensures.items
    ∙ ap (λ (history : List Event). history ++ End c.args.ticket.now.worker c.args.ticket.now.id c.args.outcome ∷ []) c.reserve.ensures.items

pub returns-in_err-log_end-clause-err : goal.returns-in_err-log_end-clause-err
returns-in_err-log_end-clause-err c = on_error _ _ c.reserve.ensures.items
