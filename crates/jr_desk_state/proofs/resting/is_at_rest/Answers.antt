use Rattle.std.proofs.Common.{length, refl, arith}
use Rattle.std.proofs.lemmas.Option.{slice_get_read}
use Rattle.jr_desk_state.proofs.RestMoves.{AreNone, read_at, busy, pass_within, rests_halted, rests_last, rests_later, runs_on}
use Rattle.jr_desk_state.proofs.resting.is_at_rest.Goals.{then-counts-gt0-via-then-counts-gt0, then-counts-gt0-via-else-counts-gt0+then-counts-gt0-2, then-counts-gt0-via-else-counts-gt0+else-counts-gt0-2+then-counts-gt0-3}
use Rattle.jr_desk_state.proofs.resting.is_at_rest.Goals as goal

pub returns-then-counts-gt0 : goal.returns-then-counts-gt0
returns-then-counts-gt0 c =
    let counts = c.args.board.now.tallies.counts in
    let read = slice_get_read counts.items (length counts.items) c.args.clone c.index-counts.result.now refl (omega (arith, counts.ok.0)) c.index-counts.ensures in
    busy c.args.plan.now c.args.board.now c.args.clone c.index-counts.result.now c.requires.board read
    (elim c.then-counts-gt0.branch [
      | then-counts-gt0-via-then-counts-gt0 w ↦ omega arith
      | then-counts-gt0-via-else-counts-gt0+then-counts-gt0-2 w ↦ omega arith
      | then-counts-gt0-via-else-counts-gt0+else-counts-gt0-2+then-counts-gt0-3 w ↦ omega arith
    ])

pub returns-then-counts : goal.returns-then-counts
returns-then-counts c =
    let counts = c.args.board.now.tallies.counts in
    let read = slice_get_read counts.items (length counts.items) c.args.clone c.index-counts.result.now refl (omega (arith, counts.ok.0)) c.index-counts.ensures in
    let none : AreNone c.index-counts.result.now = record { issues = omega arith; checks = omega arith; verdicts = omega arith } in
    rests_halted c.args.plan.now c.args.board.now c.args.clone c.index-counts.result.now c.requires.board read none c.if-counts.true

pub overflow_add-standing : goal.overflow_add-standing
overflow_add-standing c =
    let standings = c.args.board.now.standings in
    let read = slice_get_read standings.items (length standings.items) c.args.clone c.index-standing.result.now refl (omega (arith, standings.ok.0)) c.index-standing.ensures in
    let within = pass_within c.args.plan.now c.args.board.now c.args.clone c.index-standing.result.now c.clone_at.result.now c.requires.board c.clone_at.ensures.value read in
    omega (arith, within, c.clone_at.ensures.limited.passes_most)

pub returns-then-standing-passes : goal.returns-then-standing-passes
returns-then-standing-passes c =
    let standings = c.args.board.now.standings in
    let counts = c.args.board.now.tallies.counts in
    let read = read_at c.args.plan.now c.args.board.now c.args.clone c.index-standing.result.now c.index-counts.result.now c.requires.board (omega (arith, standings.ok.0)) (omega (arith, counts.ok.0)) c.index-standing.ensures c.index-counts.ensures in
    let none : AreNone c.index-counts.result.now = record { issues = omega arith; checks = omega arith; verdicts = omega arith } in
    rests_later c.args.plan.now c.args.board.now c.args.clone c.index-standing.result.now c.index-counts.result.now c.clone_at.result.now read none c.if-counts.false c.clone_at.ensures.value (omega arith)

pub pass_is_finished-requires-clause-runs : goal.pass_is_finished-requires-clause-runs
pass_is_finished-requires-clause-runs c =
    let counts = c.args.board.now.tallies.counts in
    let read = slice_get_read counts.items (length counts.items) c.args.clone c.index-counts.result.now refl (omega (arith, counts.ok.0)) c.index-counts.ensures in
    runs_on c.args.plan.now c.args.board.now c.args.clone c.index-counts.result.now c.requires.board read c.if-counts.false

pub returns : goal.returns
returns c =
    let standings = c.args.board.now.standings in
    let counts = c.args.board.now.tallies.counts in
    let read = read_at c.args.plan.now c.args.board.now c.args.clone c.index-standing.result.now c.index-counts.result.now c.requires.board (omega (arith, standings.ok.0)) (omega (arith, counts.ok.0)) c.index-standing.ensures c.index-counts.ensures in
    let none : AreNone c.index-counts.result.now = record { issues = omega arith; checks = omega arith; verdicts = omega arith } in
    rests_last c.args.plan.now c.args.board.now c.args.clone c.index-standing.result.now c.index-counts.result.now c.clone_at.result.now read none c.if-counts.false c.clone_at.ensures.value (omega arith) c.pass_is_finished.result c.pass_is_finished.ensures
