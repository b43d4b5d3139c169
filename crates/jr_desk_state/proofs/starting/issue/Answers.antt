use Rattle.std.proofs.Common.{◌≡◌, true, length, refl, arith}
use Rattle.std.proofs.lemmas.Option.{slice_get_within}
use Rattle.jr_model.specs.declared.events.Event.TheVariants.{Issue}
use Rattle.jr_model.specs.declared.events.Started.{Started}
use Rattle.jr_model.specs.History.{kind_for, started}
use Rattle.jr_model.specs.Rounds.{has_rounds}
use Rattle.jr_backlog.specs.Rounds.{comes_last, takes_writes}
use Rattle.jr_laws_steps.proofs.DrawnLaws.{start_fits}
use Rattle.jr_laws_steps.proofs.StepLaws.{may_issue_of}
use Rattle.jr_desk_state.proofs.LogMoves.{log_issue}
use Rattle.jr_desk_state.proofs.IssueMoves.{issue_fills}
use Rattle.jr_desk_state.proofs.StandingHere.{clone_stands, prepared, stands, stands_here}
use Rattle.jr_desk_state.proofs.StandingMoves.{stays_other_issue}
use Rattle.jr_desk_state.proofs.StartingBoards.{board_grows, counts_on, few_headers, few_started, next_of, one_moves}
use Rattle.jr_desk_state.proofs.StartingStandings.{added_few, left_set, others_kept, others_prepared}
use Rattle.jr_desk_state.proofs.StartingTickets.{declines_planned, issue_io, issue_ticket}
use Rattle.jr_desk_state.proofs.WaitingMoves.{waiting_grows}
use Rattle.jr_desk_state.proofs.starting.issue.Goals as goal

pub overflow_cast-id : goal.overflow_cast-id
overflow_cast-id c =
    let is = c.requires.board in
    omega (arith, c.count-id.ensures c.args.plan.now c.args.board.now.history.items is.tickets, few_started is)

pub index_mut-requires : goal.index_mut-requires
index_mut-requires c =
    let board = c.args.board.now in
    let job = c.clone_at-job.result.now in
    let there = clone_stands c.args.plan.now board c.args.write.clone job c.requires.board c.clone_at-job.ensures.value in
    omega (arith, there, board.standings.ok.0)

pub issue-requires-clause-prepared : goal.issue-requires-clause-prepared
issue-requires-clause-prepared c =
    prepared (stands_here c.args.write.clone c.requires.board c.clone_at-job.ensures.value c.index_mut.ensures.value) c.requires.ready

pub issue-requires-clause-pass : goal.issue-requires-clause-pass
issue-requires-clause-pass c =
    let here = stands_here c.args.write.clone c.requires.board c.clone_at-job.ensures.value c.index_mut.ensures.value in
    (stands here).in_pass.within

-- what is issued fits its round
fits_round : (c : goal.After-index_mut) → has_rounds c.clone_at-job.result.now ≡ true
    → (takes_writes c.index_mut.result.now.rounds.round ≡ true) × (comes_last c.index_mut.result.now.rounds.round c.args.write ≡ true)
fits_round c rounds =
    let here = stands_here c.args.write.clone c.requires.board c.clone_at-job.ensures.value c.index_mut.ensures.value in
    let next = next_of c.args.plan.now c.args.board.now (Issue c.args.worker c.args.kind c.args.write c.args.piece) c.requires.board c.requires.may in
    issue_fills c.args.plan.now c.args.board.now.history.items c.args.worker c.args.kind c.args.write c.args.piece
    c.clone_at-job.result.now c.index_mut.result.now next here.planned rounds (stands here) (prepared here c.requires.ready).settled

pub issue-requires-clause-room : goal.issue-requires-clause-room
issue-requires-clause-room c rounds writes = (fits_round c rounds).0

pub issue-requires-clause-last : goal.issue-requires-clause-last
issue-requires-clause-last c rounds writes = (fits_round c rounds).1

pub issued-requires : goal.issued-requires
issued-requires c = counts_on c.args.write.clone c.requires.board c.clone_at-job.ensures.value

pub hand-requires-clause-few : goal.hand-requires-clause-few
hand-requires-clause-few c = omega (arith, few_headers c.requires.board)

pub returns-clause-ticket : goal.returns-clause-ticket
returns-clause-ticket c =
    let here = stands_here c.args.write.clone c.requires.board c.clone_at-job.ensures.value c.index_mut.ensures.value in
    let next = next_of c.args.plan.now c.args.board.now (Issue c.args.worker c.args.kind c.args.write c.args.piece) c.requires.board c.requires.may in
    let plan = c.args.plan.now in
    let history = c.args.board.now.history.items in
    let job = c.clone_at-job.result.now in
    issue_ticket plan (length (started history)) c.args.worker c.args.kind c.kind_for.result c.args.write c.args.piece c.count-id.result
    c.issue.result c.method.result job here.planned c.kind_for.ensures (c.count-id.ensures plan history here.is.tickets)
    (c.issue.ensures.seed plan history c.args.worker c.args.piece next here.planned (stands here)) c.method.ensures

pub returns-clause-board : goal.returns-clause-board
returns-clause-board c =
    let here = stands_here c.args.write.clone c.requires.board c.clone_at-job.ensures.value c.index_mut.ensures.value in
    let plan = c.args.plan.now in
    let board = c.args.board.now in
    let history = board.history.items in
    let worker = c.args.worker in
    let dir = c.args.kind in
    let write = c.args.write in
    let piece = c.args.piece in
    let is = here.is in
    let e = Issue worker dir write piece in
    let io : Started = record { worker = worker; kind = kind_for dir; write = write; piece = piece } in
    let id = c.count-id.ensures plan history is.tickets in
    let next = next_of plan board e is c.requires.may in
    board_grows plan board _ e is next.may c.push_reserved.ensures.items
    (c.hand.ensures plan history e io next refl (returns-clause-ticket c) is.tickets)
    (c.start.ensures plan history e io next refl
    (issue_io plan (length (started history)) worker (kind_for dir) c.dir_for.result c.declines.result write piece c.count-id.result _ refl
    c.dir_for.ensures (declines_planned plan write.clone c.clone_at-job.result.now c.declines.result here.planned c.declines.ensures) id)
    is.flying)
    (log_issue plan history worker dir write piece next board.log is.log)
    (c.issued.ensures plan history worker dir write piece refl next is.tallies)
    (one_moves e c.issue.new.self here (c.issue.ensures.kept plan history worker piece next here.planned id (stands here))
    (λ other one stood. stays_other_issue plan history other one stood worker dir write piece next)) refl
    (waiting_grows plan history e board.waiting next (λ other marked. tt) is.waiting)
    (others_kept plan write.clone board.standings.items c.issue.new.self
    (others_prepared plan write.clone board.standings.items c.requires.ready.standings))
    (omega (
      arith,
      is.left,
      left_set board.standings.items write.clone c.index_mut.result.now c.issue.new.self here.at,
      c.issue.ensures.left,
      c.added_by.ensures,
    ))
    (omega (arith, is.few, c.added_by.ensures, added_few c.clone_at-job.result.now dir))

pub start-requires-clause-fits : goal.start-requires-clause-fits
start-requires-clause-fits c =
    let next = next_of c.args.plan.now c.args.board.now (Issue c.args.worker c.args.kind c.args.write c.args.piece) c.requires.board c.requires.may in
    start_fits c.args.plan.now c.args.board.now.history.items (Issue c.args.worker c.args.kind c.args.write c.args.piece)
    (record { worker = c.args.worker; kind = kind_for c.args.kind; write = c.args.write; piece = c.args.piece }) next refl

pub push_reserved-requires : goal.push_reserved-requires
push_reserved-requires c = omega (arith, c.requires.ready.history)

pub overflow_add-board : goal.overflow_add-board
overflow_add-board c =
    omega (arith, c.requires.board.few, c.requires.ready.history, c.args.board.now.history.ok.0, c.added_by.ensures, added_few c.clone_at-job.result.now c.args.kind)

pub clone_at-job-requires : goal.clone_at-job-requires
clone_at-job-requires c =
    let plan = c.args.plan.now in
    let write = c.args.write in
    let step = may_issue_of plan c.args.board.now.history.items c.args.worker c.args.kind write c.args.piece c.requires.may in
    slice_get_within plan.clones write.clone step.job step.named.planned
