use Rattle.std.proofs.Common.{◌≡◌, ◌<◌, length, refl, sym, ◌∙◌, ap, arith}
use Rattle.std.specs.Prelude.{Option, unwrap_or}
use Rattle.std.proofs.lemmas.Option.{slice_get_within}
use Rattle.jr_model.specs.declared.blocks.Dir.TheVariants.{Read}
use Rattle.jr_model.specs.declared.contents.Expected.{Expected}
use Rattle.jr_model.specs.declared.contents.Expected.TheVariants as expected
use Rattle.jr_model.specs.declared.events.Event.TheVariants.{Probe}
use Rattle.jr_model.specs.declared.events.Started.{Started}
use Rattle.jr_model.specs.declared.tickets.TicketKind.TheVariants as kind
use Rattle.jr_model.specs.History.{started}
use Rattle.jr_laws_steps.proofs.StepLaws.{may_probe_of}
use Rattle.jr_laws_steps.proofs.DrawnLaws.{start_fits}
use Rattle.jr_desk_state.proofs.LogMoves.{log_probe}
use Rattle.jr_desk_state.proofs.StandingHere.{clone_stands, stands, stands_here}
use Rattle.jr_desk_state.proofs.StandingMoves.{taken_up_here, stays_other_probe}
use Rattle.jr_desk_state.proofs.StartingBoards.{board_grows, counts_on, few_headers, few_started, next_of, one_moves}
use Rattle.jr_desk_state.proofs.StartingStandings.{left_same, others_moved}
use Rattle.jr_desk_state.proofs.StartingTickets.{declines_planned, issue_io, method_planned, probe_expects, seed_kept, ticket_made}
use Rattle.jr_desk_state.proofs.WaitingMoves.{waiting_grows}
use Rattle.jr_desk_state.proofs.starting.probe.Goals as goal
use Rattle.jr_desk_state.proofs.starting.probe.Goals.{After-index_mut}

-- the write was issued in the pass that its clone is in
issued_here : (c : After-index_mut)
    → (c.args.write.pass ≡ c.index_mut.result.now.pass) × (c.args.write.number < length c.index_mut.result.now.issued.items)
issued_here c =
    let here = stands_here c.args.write.clone c.requires.board c.clone_at-job.ensures.value c.index_mut.ensures.value in
    let next = next_of c.args.plan.now c.args.board.now (Probe c.args.worker c.args.write c.args.piece) c.requires.board c.requires.may in
    taken_up_here c.args.plan.now c.args.board.now.history.items c.clone_at-job.result.now c.index_mut.result.now (stands here)
    c.args.worker c.args.write c.args.piece next here.planned

pub overflow_cast-id : goal.overflow_cast-id
overflow_cast-id c =
    let is = c.requires.board in
    omega (arith, c.count-id.ensures c.args.plan.now c.args.board.now.history.items is.tickets, few_started is)

pub clone_at-job-requires : goal.clone_at-job-requires
clone_at-job-requires c =
    let plan = c.args.plan.now in
    let write = c.args.write in
    let step = (may_probe_of plan c.args.board.now.history.items c.args.worker write c.args.piece c.requires.may).0 in
    slice_get_within plan.clones write.clone step.job step.named.planned

pub probed-requires : goal.probed-requires
probed-requires c = counts_on c.args.write.clone c.requires.board c.clone_at-job.ensures.value

pub index_mut-requires : goal.index_mut-requires
index_mut-requires c =
    let board = c.args.board.now in
    let job = c.clone_at-job.result.now in
    let there = clone_stands c.args.plan.now board c.args.write.clone job c.requires.board c.clone_at-job.ensures.value in
    omega (arith, there, board.standings.ok.0)

pub take_up-io-requires : goal.take_up-io-requires
take_up-io-requires c = (issued_here c).1

pub hand-requires-clause-few : goal.hand-requires-clause-few
hand-requires-clause-few c = omega (arith, few_headers c.requires.board)

pub returns-clause-ticket : goal.returns-clause-ticket
returns-clause-ticket c =
    let here = stands_here c.args.write.clone c.requires.board c.clone_at-job.ensures.value c.index_mut.ensures.value in
    let pass = sym (issued_here (goal.at.returns-clause-ticket c).After-index_mut).0 in
    let plan = c.args.plan.now in
    let history = c.args.board.now.history.items in
    let write = c.args.write in
    ticket_made plan (length (started history)) c.args.worker kind.Probe write c.args.piece c.count-id.result c.seed_of.result
    c.method.result c.args.expected (c.count-id.ensures plan history here.is.tickets)
    (seed_kept write c.take_up-io.result c.seed_of.result here pass c.take_up-io.ensures.id
    (λ t there. c.seed_of.ensures plan history t here.is.tickets there))
    (method_planned plan write.clone c.clone_at-job.result.now c.method.result here.planned c.method.ensures)
    (sym (ap (λ (o : Option Expected). unwrap_or o expected.Nothing) c.requires.judged)
    ∙ probe_expects c.args.worker write c.args.piece here pass c.requires.may)

pub returns-clause-board : goal.returns-clause-board
returns-clause-board c =
    let here = stands_here c.args.write.clone c.requires.board c.clone_at-job.ensures.value c.index_mut.ensures.value in
    let plan = c.args.plan.now in
    let board = c.args.board.now in
    let history = board.history.items in
    let worker = c.args.worker in
    let write = c.args.write in
    let piece = c.args.piece in
    let is = here.is in
    let job = c.clone_at-job.result.now in
    let standing = c.index_mut.result.now in
    let e = Probe worker write piece in
    let io : Started = record { worker = worker; kind = kind.Probe; write = write; piece = piece } in
    let next = next_of plan board e is c.requires.may in
    board_grows plan board _ e is next.may c.push_reserved.ensures.items
    (c.hand.ensures plan history e io next refl (returns-clause-ticket c) is.tickets)
    (c.start.ensures plan history e io next refl
    (issue_io plan (length (started history)) worker kind.Probe Read c.declines.result write piece c.count-id.result _ refl refl
    (declines_planned plan write.clone job c.declines.result here.planned c.declines.ensures) (c.count-id.ensures plan history is.tickets))
    is.flying)
    (log_probe plan history worker write piece next board.log is.log)
    (c.probed.ensures plan history worker write piece refl next is.tallies)
    (one_moves e c.take_up-io.new.self here (c.take_up-io.ensures.kept plan history job worker write piece next here.planned refl (stands here))
    (λ other one stood. stays_other_probe plan history other one stood worker write piece next)) refl
    (waiting_grows plan history e board.waiting next (λ other marked. tt) is.waiting)
    (others_moved plan board.last_issued write.clone board.standings.items standing c.take_up-io.new.self job is.others here.planned here.at
    (c.take_up-io.ensures.prepared job))
    (omega (
      arith,
      is.left,
      left_same board.standings.items write.clone standing c.take_up-io.new.self here.at c.take_up-io.ensures.left,
    ))
    (omega (arith, is.few))

pub start-requires-clause-fits : goal.start-requires-clause-fits
start-requires-clause-fits c =
    let next = next_of c.args.plan.now c.args.board.now (Probe c.args.worker c.args.write c.args.piece) c.requires.board c.requires.may in
    start_fits c.args.plan.now c.args.board.now.history.items (Probe c.args.worker c.args.write c.args.piece)
    (record { worker = c.args.worker; kind = kind.Probe; write = c.args.write; piece = c.args.piece }) next refl
