-- The index of each part takes the step that the verdict is, or stays.
use Rattle.std.proofs.Common.{◌≡◌, List, refl, sym, ◌∙◌, ap, arith}
use Rattle.std.proofs.lemmas.Option.{slice_get_within, same_Some}
use Rattle.jr_model.specs.declared.events.Event.{Event}
use Rattle.jr_model.specs.declared.events.Event.TheVariants.{Verdict as Judged}
use Rattle.jr_model.specs.Plan.{SubJob}
use Rattle.jr_laws_steps.specs.Nexts.{grown}
use Rattle.jr_desk_totals.proofs.TallyMoves.{can_count, can_judge, tallied_same}
use Rattle.jr_desk_state.proofs.EndingBoards.{board_stays, own_below, parts_of}
use Rattle.jr_desk_state.proofs.FlyingMoves.{flying_verdict}
use Rattle.jr_desk_state.proofs.LogMoves.{log_verdict}
use Rattle.jr_desk_state.proofs.StandingStays.{standings_judged}
use Rattle.jr_desk_state.proofs.StartingBoards.{board_grows, next_of}
use Rattle.jr_desk_state.proofs.WaitingMoves.{waiting_grows}
use Rattle.jr_desk_state.proofs.ending.judge_one.Goals as goal

pub returns-in_err-reserve-clause-board : goal.returns-in_err-reserve-clause-board
returns-in_err-reserve-clause-board c =
    let is = c.requires.board in
    board_stays c.args.plan.now c.args.board.now _ is c.reserve.ensures.items is.tickets is.flying refl
    is.tallies is.standings refl refl is.others refl refl

pub returns-in_err-reserve-2-clause-board : goal.returns-in_err-reserve-2-clause-board
returns-in_err-reserve-2-clause-board c =
    let plan = c.args.plan.now in
    let board = c.args.board.now in
    let is = c.requires.board in
    board_stays plan board _ is c.reserve.ensures.items is.tickets is.flying refl
    (tallied_same plan board.history.items board.tallies c.reserve-2.new.self is.tallies c.reserve-2.ensures.counts
    c.reserve-2.ensures.totals c.reserve-2.ensures.bads) is.standings refl refl is.others refl refl

pub clone_at-requires : goal.clone_at-requires
clone_at-requires c =
    let parts = parts_of c.args.plan.now c.args.board.now c.args.ticket.now c.requires.board c.requires.own in
    slice_get_within c.args.plan.now.clones c.args.ticket.now.write.clone parts.job parts.planned

pub judge-requires : goal.judge-requires
judge-requires c = own_below c.args.plan.now c.args.board.now c.args.ticket.now c.requires.board c.requires.own

pub judged-requires-clause-count : goal.judged-requires-clause-count
judged-requires-clause-count c =
    let plan = c.args.plan.now in
    let history = c.args.board.now.history.items in
    let is = c.requires.board in
    let parts = parts_of plan c.args.board.now c.args.ticket.now is c.requires.own in
    can_count plan history c.reserve-2.new.self c.args.ticket.now.write.clone parts.job is.planned is.legal
    (tallied_same plan history c.args.board.now.tallies c.reserve-2.new.self is.tallies c.reserve-2.ensures.counts
    c.reserve-2.ensures.totals c.reserve-2.ensures.bads) parts.planned

pub judged-requires-clause-awaited : goal.judged-requires-clause-awaited
judged-requires-clause-awaited c =
    let plan = c.args.plan.now in
    let board = c.args.board.now in
    let history = board.history.items in
    let ticket = c.args.ticket.now in
    let is = c.requires.board in
    let parts = parts_of plan board ticket is c.requires.own in
    can_judge plan history c.args.by ticket.id c.args.verdict parts.io c.reserve-2.new.self ticket.write.clone parts.at parts.clone
    (next_of plan board (Judged c.args.by ticket.id c.args.verdict) is c.requires.may)
    (tallied_same plan history board.tallies c.reserve-2.new.self is.tallies c.reserve-2.ensures.counts c.reserve-2.ensures.totals
    c.reserve-2.ensures.bads)

pub returns-clause-board : goal.returns-clause-board
returns-clause-board c =
    let plan = c.args.plan.now in
    let board = c.args.board.now in
    let history = board.history.items in
    let ticket = c.args.ticket.now in
    let by = c.args.by in
    let verdict = c.args.verdict in
    let is = c.requires.board in
    let parts = parts_of plan board ticket is c.requires.own in
    let next = next_of plan board (Judged by ticket.id verdict) is c.requires.may in
    let fatal : parts.job.is_fatal ≡ c.is_fatal-is_fatal.result =
    ap (λ (j : SubJob). j.is_fatal) (same_Some parts.job c.clone_at.result.now (sym parts.planned ∙ c.clone_at.ensures.value))
    ∙ sym c.is_fatal-is_fatal.ensures in
    board_grows plan board _ (Judged by ticket.id verdict) is c.requires.may
    (c.push_reserved.ensures.items ∙ ap (λ (h : List Event). grown h (Judged by ticket.id verdict)) c.reserve.ensures.items)
    (c.judge.ensures plan history by verdict next is.tickets)
    (flying_verdict plan history by ticket.id verdict board.flying next is.flying)
    (log_verdict plan history by ticket.id verdict next board.log is.log)
    (c.judged.ensures plan history by ticket.id parts.io parts.job parts.at parts.write parts.piece parts.planned fatal next
    (tallied_same plan history board.tallies c.reserve-2.new.self is.tallies c.reserve-2.ensures.counts c.reserve-2.ensures.totals
    c.reserve-2.ensures.bads))
    (standings_judged plan history by ticket.id verdict board.standings.items next is.standings) refl
    (waiting_grows plan history (Judged by ticket.id verdict) board.waiting next (λ other marked. tt) is.waiting)
    is.others is.left (omega (arith, is.few))
