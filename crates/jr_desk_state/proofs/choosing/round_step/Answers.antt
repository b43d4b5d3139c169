use Rattle.std.proofs.Common.{◌≡◌, ◌≤◌, length, sym, ◌∙◌, add-one, arith}
use Rattle.std.specs.Prelude.{Some, slice_get}
use Rattle.std.specs.Option.{option_map}
use Rattle.std.proofs.lemmas.Option.{slice_get_past}
use Rattle.jr_desk_state.specs.declared.choosing.Chosen.{Chosen}
use Rattle.jr_desk_state.proofs.ChoiceBoards.{search_on, search_found, search_over, search_starts, some_mapped}
use Rattle.jr_desk_state.proofs.choosing.round_step.Goals as goal

pub loop-place-preserved : goal.loop-place-preserved
loop-place-preserved c =
    let plan = c.args.plan.now in
    let board = c.args.board.now in
    let standing = c.args.standing.now in
    let event = λ (chosen : Chosen). chosen.event in
    let here : slice_get standing.rounds.round.to_check c.loop-place.place ≡ Some c.in-Some.write = sym c.write_at.ensures ∙ c.in-Some.is in
    rw add-one
    (search_on plan board c.requires.board standing c.requires.settled c.args.worker c.args.declines c.loop-place.place c.in-Some.write here
    c.loop-place.invariant (option_map event c.take_up-step.result) c.take_up-step.ensures.step
    (some_mapped event c.take_up-step.result ∙ sym c.is_some.ensures ∙ c.if-is_some.false))

pub returns-then-is_some-clause-step : goal.returns-then-is_some-clause-step
returns-then-is_some-clause-step c clone job there at rounds waits runs under_way =
    let plan = c.args.plan.now in
    let board = c.args.board.now in
    let standing = c.args.standing.now in
    let event = λ (chosen : Chosen). chosen.event in
    let here : slice_get standing.rounds.round.to_check c.loop-place.place ≡ Some c.in-Some.write = sym c.write_at.ensures ∙ c.in-Some.is in
    search_found plan board c.requires.board standing c.requires.settled c.args.worker c.args.declines c.loop-place.place c.in-Some.write here
    c.loop-place.invariant (option_map event c.take_up-step.result) c.take_up-step.ensures.step
    (some_mapped event c.take_up-step.result ∙ sym c.is_some.ensures ∙ c.if-is_some.true) clone job there at rounds waits runs

pub returns-clause-step : goal.returns-clause-step
returns-clause-step c clone job there at rounds waits runs under_way =
    let standing = c.args.standing.now in
    let behind : length standing.rounds.round.to_check ≤ c.loop-place.place = omega (arith, c.loop-place-test.false, c.left-place-end.ensures) in
    search_over c.args.plan.now c.args.board.now c.requires.board standing c.requires.settled c.args.worker c.args.declines c.loop-place.place
    (slice_get_past standing.rounds.round.to_check c.loop-place.place behind) c.loop-place.invariant clone job there at rounds waits runs

pub returns-in_default-clause-step : goal.returns-in_default-clause-step
returns-in_default-clause-step c clone job there at rounds waits runs under_way =
    search_over c.args.plan.now c.args.board.now c.requires.board c.args.standing.now c.requires.settled c.args.worker c.args.declines c.loop-place.place
    (sym c.write_at.ensures ∙ c.in_default.is) c.loop-place.invariant clone job there at rounds waits runs

pub loop-place-init : goal.loop-place-init
loop-place-init c = search_starts c.args.plan.now c.args.board.now c.args.standing.now c.args.worker c.args.declines

pub take_up-step-requires-clause-board : goal.take_up-step-requires-clause-board
take_up-step-requires-clause-board c = c.requires.board

pub write_at-requires : goal.write_at-requires
write_at-requires c = c.requires.settled
