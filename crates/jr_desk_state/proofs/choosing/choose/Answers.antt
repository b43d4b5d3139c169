use Rattle.std.proofs.Common.{◌≡◌, ◌+◌, ◌<◌, ◌≤◌, ℕ, true, sym, ◌∙◌, ap, arith, add-one}
use Rattle.std.specs.Prelude.{is_some, Some, None}
use Rattle.jr_model.specs.Choice.{choice_of_clone}
use Rattle.jr_model.specs.Plan.{Plan, SubJob, clone_of}
use Rattle.jr_model.proofs.PlaceLemmas.{item_at}
use Rattle.jr_desk_state.specs.declared.board.Board.{Board}
use Rattle.jr_desk_state.specs.declared.choosing.Chosen.{Chosen}
use Rattle.jr_desk_state.specs.Boards.{IsBoard}
use Rattle.jr_desk_state.specs.Waitings.{is_marked}
use Rattle.jr_desk_state.proofs.ChoiceBoards.{some_mapped}
use Rattle.jr_desk_state.proofs.ChoiceLists.{given_here, given_behind, given_between, given_past}
use Rattle.jr_desk_state.proofs.RestKept.{none_at_rest}
use Rattle.jr_desk_state.proofs.WaitingMoves.{none_waiting}
use Rattle.jr_desk_state.proofs.choosing.choose.Goals as goal

-- a clone that is gone past has no step
gone_past : (plan : Plan) (board : Board) (worker from next : ℕ) → IsBoard plan board
    → ((c : ℕ) → from ≤ c → c < next → is_marked board.waiting.words.items c ≡ true)
    → (c : ℕ) (job : SubJob) → from ≤ c → c < next → clone_of plan c ≡ Some job
    → choice_of_clone plan board.history.items worker job ≡ None
gone_past plan board worker from next is passed c job after before there =
    none_waiting plan c job board.history.items worker is.planned is.legal there (is.waiting.each c job there (passed c after before))

pub loop-clone-init : goal.loop-clone-init
loop-clone-init c =
    let plan = c.args.plan.now in
    let board = c.args.board.now in
    let is = c.requires.board in
    given_between (choice_of_clone plan board.history.items c.args.worker) plan.clones board.rested.leading c.next_unmarked-clone.result
    c.next_unmarked-clone.ensures.start
    (given_past (choice_of_clone plan board.history.items c.args.worker) plan.clones board.rested.leading
    (λ clone job before there.
    none_at_rest plan is.planned clone job there board.history.items is.legal c.args.worker (is.rested.leading clone job there before)))
    (gone_past plan board c.args.worker board.rested.leading c.next_unmarked-clone.result is c.next_unmarked-clone.ensures.passed)

pub returns-then-is_some-clause-step : goal.returns-then-is_some-clause-step
returns-then-is_some-clause-step c =
    let plan = c.args.plan.now in
    let board = c.args.board.now in
    let choose = choice_of_clone plan board.history.items c.args.worker in
    let found = item_at plan.clones c.loop-clone.clone (omega (arith, c.loop-clone-test.true, c.clones.ensures.value)) in
    let given = c.step_of_clone-step.ensures.step found.0 found.1 in
    let some = some_mapped (λ (chosen : Chosen). chosen.event) c.step_of_clone-step.result ∙ sym c.is_some.ensures in
    given
    ∙ sym (given_here choose plan.clones c.loop-clone.clone found.0 found.1 c.loop-clone.invariant
    (ap is_some (sym given) ∙ some ∙ c.if-is_some.true))

pub loop-clone-preserved : goal.loop-clone-preserved
loop-clone-preserved c =
    let plan = c.args.plan.now in
    let board = c.args.board.now in
    let choose = choice_of_clone plan board.history.items c.args.worker in
    let found = item_at plan.clones c.loop-clone.clone (omega (arith, c.loop-clone-test.true, c.clones.ensures.value)) in
    let given = c.step_of_clone-step.ensures.step found.0 found.1 in
    let some = some_mapped (λ (chosen : Chosen). chosen.event) c.step_of_clone-step.result ∙ sym c.is_some.ensures in
    let behind = given_behind choose plan.clones c.loop-clone.clone found.0 found.1 c.loop-clone.invariant
    (ap is_some (sym given) ∙ some ∙ c.if-is_some.false) in
    given_between choose plan.clones (c.loop-clone.clone + 1) c.next_unmarked-clone-in-loop-clone.result c.next_unmarked-clone-in-loop-clone.ensures.start
    (rw add-one behind)
    (gone_past plan board c.args.worker (c.loop-clone.clone + 1) c.next_unmarked-clone-in-loop-clone.result c.requires.board
    c.next_unmarked-clone-in-loop-clone.ensures.passed)
