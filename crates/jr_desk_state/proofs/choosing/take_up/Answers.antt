use Rattle.std.proofs.Common.{◌≡◌, true, false, length, sym, ◌∙◌, ap, arith, refl}
use Rattle.std.specs.Prelude.{Option, Some, None, is_some}
use Rattle.jr_model.specs.declared.blocks.Piece.{Piece}
use Rattle.jr_desk_state.proofs.ChoiceBoards.{barred_gives, clear_gives, entry, entry_there, found_is, handed_fits, left_here}
use Rattle.jr_desk_state.proofs.ChoiceBoards.{piece_there, taken_gives}
use Rattle.jr_desk_state.proofs.choosing.take_up.Goals as goal

pub returns-in_err-issued-clause-step : goal.returns-in_err-issued-clause-step
returns-in_err-issued-clause-step c clone job there at rounds declines runs left =
    let below = entry_there (left_here clone c.args.write c.requires.board there at rounds runs left) in
    let past = c.in_err-issued.ensures.lookup.3 in
    absurd (omega (arith, below, past, ap length c.deref.ensures.value))

pub returns-then-issued-clause-step : goal.returns-then-issued-clause-step
returns-then-issued-clause-step c clone job there at rounds declines runs left =
    let here = left_here clone c.args.write c.requires.board there at rounds runs left in
    let found = c.in_ok-issued.ensures.lookup in
    let its = entry here c.deref.ensures.value found.3.0 found.1 in
    taken_gives its c.args.plan.now c.args.worker c.if-issued.true

pub returns-in_err-piece-clause-step : goal.returns-in_err-piece-clause-step
returns-in_err-piece-clause-step c clone job there at rounds declines runs left =
    let here = left_here clone c.args.write c.requires.board there at rounds runs left in
    let found = c.in_ok-issued.ensures.lookup in
    let its = entry here c.deref.ensures.value found.3.0 found.1 in
    let none : ◌≡◌ {A = Option Piece} None (Some its.draw.piece) =
    c.in_err-piece.ensures c.args.plan.now c.args.board.now.history.items c.requires.board.tickets
    ∙ piece_there its c.args.plan.now c.args.worker in
    cc

pub is_clear-requires-clause-fits : goal.is_clear-requires-clause-fits
is_clear-requires-clause-fits c =
    handed_fits c.args.plan.now c.args.board.now c.in_ok-issued.field-0.now.id c.in_ok-piece.piece c.requires.board
    (sym (c.in_ok-piece.ensures c.args.plan.now c.args.board.now.history.items c.requires.board.tickets))

pub returns-then-not-is_clear-clause-step : goal.returns-then-not-is_clear-clause-step
returns-then-not-is_clear-clause-step c clone job there at rounds declines runs left =
    let here = left_here clone c.args.write c.requires.board there at rounds runs left in
    let found = c.in_ok-issued.ensures.lookup in
    let its = entry here c.deref.ensures.value found.3.0 found.1 in
    let plan = c.args.plan.now in
    let history = c.args.board.now.history.items in
    barred_gives its plan c.args.worker c.in_ok-piece.piece (c.in_ok-piece.ensures plan history c.requires.board.tickets)
    (c.if-not-is_clear.ensures plan history job c.requires.board.flying declines)

pub returns-in-Some-clause-step : goal.returns-in-Some-clause-step
returns-in-Some-clause-step c clone job there at rounds declines runs left =
    let here = left_here clone c.args.write c.requires.board there at rounds runs left in
    let found = c.in_ok-issued.ensures.lookup in
    let its = entry here c.deref.ensures.value found.3.0 found.1 in
    let plan = c.args.plan.now in
    let history = c.args.board.now.history.items in
    clear_gives its plan c.args.worker c.in_ok-piece.piece (c.in_ok-piece.ensures plan history c.requires.board.tickets)
    c.if-issued.false (c.if-not-is_clear.ensures plan history job c.requires.board.flying declines) true
    (ap is_some c.in-Some.ensures ∙ found_is here its.draw its.drawn)

pub returns-in-None-clause-step : goal.returns-in-None-clause-step
returns-in-None-clause-step c clone job there at rounds declines runs left =
    let here = left_here clone c.args.write c.requires.board there at rounds runs left in
    let found = c.in_ok-issued.ensures.lookup in
    let its = entry here c.deref.ensures.value found.3.0 found.1 in
    let plan = c.args.plan.now in
    let history = c.args.board.now.history.items in
    clear_gives its plan c.args.worker c.in_ok-piece.piece (c.in_ok-piece.ensures plan history c.requires.board.tickets)
    c.if-issued.false (c.if-not-is_clear.ensures plan history job c.requires.board.flying declines) false
    (ap is_some c.in-None.ensures ∙ found_is here its.draw its.drawn)

pub is_clear-requires-clause-settled : goal.is_clear-requires-clause-settled
is_clear-requires-clause-settled c = c.requires.ready.flying

pub returns-in-Some-clause-judged : goal.returns-in-Some-clause-judged
returns-in-Some-clause-judged c = sym c.found.ensures ∙ c.in-Some.is

pub returns-in-None-clause-judged : goal.returns-in-None-clause-judged
returns-in-None-clause-judged c = refl
