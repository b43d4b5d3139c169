use Rattle.std.proofs.Common.{refl, arith}
use Rattle.jr_model.specs.declared.events.Event.TheVariants.{Skip}
use Rattle.jr_laws_steps.proofs.StepLaws.{may_skip_of}
use Rattle.jr_desk_tickets.proofs.HandingMoves.{handed_skip}
use Rattle.jr_desk_state.proofs.FlyingMoves.{flying_skip}
use Rattle.jr_desk_state.proofs.LogMoves.{log_skip}
use Rattle.jr_desk_state.proofs.StandingHere.{clone_stands, prepared, stands, stands_here}
use Rattle.jr_desk_state.proofs.StandingMoves.{skip_left, skipped_here, stays_other_skip}
use Rattle.jr_desk_state.proofs.StartingBoards.{board_grows, counts_on, next_of, one_moves}
use Rattle.jr_desk_state.proofs.StartingStandings.{left_falls, others_prepared, prepared_moves}
use Rattle.jr_desk_state.proofs.WaitingMoves.{waiting_grows}
use Rattle.jr_desk_state.proofs.starting.skip.Goals as goal

pub skipped-requires : goal.skipped-requires
skipped-requires c =
    let step = may_skip_of c.args.plan.now c.args.board.now.history.items c.args.worker c.args.write c.requires.may in
    counts_on c.args.write.clone c.requires.board step.named.planned

pub index_mut-requires : goal.index_mut-requires
index_mut-requires c =
    let plan = c.args.plan.now in
    let board = c.args.board.now in
    let step = may_skip_of plan board.history.items c.args.worker c.args.write c.requires.may in
    omega (arith, clone_stands plan board c.args.write.clone step.job c.requires.board step.named.planned, board.standings.ok.0)

pub skip-requires-clause-there : goal.skip-requires-clause-there
skip-requires-clause-there c =
    let step = may_skip_of c.args.plan.now c.args.board.now.history.items c.args.worker c.args.write c.requires.may in
    let here = stands_here c.args.write.clone c.requires.board step.named.planned c.index_mut.ensures.value in
    let next = next_of c.args.plan.now c.args.board.now (Skip c.args.worker c.args.write) c.requires.board c.requires.may in
    (skipped_here c.args.plan.now c.args.board.now.history.items step.job c.index_mut.result.now (stands here) c.args.worker c.args.write
    next here.planned).1

pub skip-requires-clause-settled : goal.skip-requires-clause-settled
skip-requires-clause-settled c =
    let step = may_skip_of c.args.plan.now c.args.board.now.history.items c.args.worker c.args.write c.requires.may in
    let here = stands_here c.args.write.clone c.requires.board step.named.planned c.index_mut.ensures.value in
    (prepared here c.requires.ready).settled

pub skip-requires-clause-left : goal.skip-requires-clause-left
skip-requires-clause-left c =
    let step = may_skip_of c.args.plan.now c.args.board.now.history.items c.args.worker c.args.write c.requires.may in
    let here = stands_here c.args.write.clone c.requires.board step.named.planned c.index_mut.ensures.value in
    let next = next_of c.args.plan.now c.args.board.now (Skip c.args.worker c.args.write) c.requires.board c.requires.may in
    skip_left c.args.plan.now c.args.board.now.history.items step.job c.index_mut.result.now (stands here) c.args.worker c.args.write
    next here.planned (skip-requires-clause-settled c)

pub returns-clause-fewer : goal.returns-clause-fewer
returns-clause-fewer c =
    let step = may_skip_of c.args.plan.now c.args.board.now.history.items c.args.worker c.args.write c.requires.may in
    let here = stands_here c.args.write.clone c.requires.board step.named.planned c.index_mut.ensures.value in
    left_falls c.args.board.now.standings.items c.args.write.clone c.index_mut.result.now c.skip.new.self here.at c.skip.ensures.fewer

pub overflow_sub-board : goal.overflow_sub-board
overflow_sub-board c =
    let step = may_skip_of c.args.plan.now c.args.board.now.history.items c.args.worker c.args.write c.requires.may in
    let here = stands_here c.args.write.clone c.requires.board step.named.planned c.index_mut.ensures.value in
    let fewer = left_falls c.args.board.now.standings.items c.args.write.clone c.index_mut.result.now c.skip.new.self here.at
    c.skip.ensures.fewer in
    omega (arith, fewer, c.requires.board.left)

pub returns-clause-ready : goal.returns-clause-ready
returns-clause-ready c =
    let step = may_skip_of c.args.plan.now c.args.board.now.history.items c.args.worker c.args.write c.requires.may in
    let here = stands_here c.args.write.clone c.requires.board step.named.planned c.index_mut.ensures.value in
    let write = c.args.write in
    let ready = c.requires.ready in
    record {
      history = omega (arith, ready.history, c.push_reserved.ensures.len, c.push_reserved.ensures.capacity, returns-clause-fewer c);
      launches = ready.launches;
      headers = ready.headers;
      states = ready.states;
      flying = ready.flying;
      standings =
          prepared_moves c.args.plan.now c.args.board.now.standings.items write.clone step.job c.skip.new.self ready.standings here.planned
          (c.skip.ensures.prepared step.job (prepared here ready));
    }

pub returns-clause-board : goal.returns-clause-board
returns-clause-board c =
    let step = may_skip_of c.args.plan.now c.args.board.now.history.items c.args.worker c.args.write c.requires.may in
    let here = stands_here c.args.write.clone c.requires.board step.named.planned c.index_mut.ensures.value in
    let plan = c.args.plan.now in
    let board = c.args.board.now in
    let history = board.history.items in
    let worker = c.args.worker in
    let write = c.args.write in
    let is = here.is in
    let e = Skip worker write in
    let next = next_of plan board e is c.requires.may in
    board_grows plan board _ e is next.may c.push_reserved.ensures.items
    (handed_skip plan history worker write board.tickets next is.tickets)
    (flying_skip plan history worker write board.flying next is.flying)
    (log_skip plan history worker write next board.log is.log)
    (c.skipped.ensures plan history worker write refl next is.tallies)
    (one_moves e c.skip.new.self here (c.skip.ensures.kept plan history step.job worker next here.planned (stands here))
    (λ other one stood. stays_other_skip plan history other one stood worker write next)) refl
    (waiting_grows plan history e board.waiting next (λ other marked. tt) is.waiting)
    (others_prepared plan board.last_issued _ (returns-clause-ready c).standings)
    (let fewer = returns-clause-fewer c in omega (arith, fewer, is.left)) (omega (arith, is.few))
