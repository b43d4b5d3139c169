use Rattle.std.proofs.Common.{◌∙◌, not, sym, ap, arith, inl, inr}
use Rattle.jr_desk_state.proofs.RestMoves.{finished_where, read_at, unfinished, with_rounds, without_rounds}
use Rattle.jr_desk_state.proofs.resting.pass_is_finished.Goals.{then-not-is_over-via-then-not-is_over, then-not-is_over-via-else-not-is_over+then-counts-gt0, then-not-is_over-via-else-not-is_over+else-counts-gt0+then-counts-gt0-2}
use Rattle.jr_desk_state.proofs.resting.pass_is_finished.Goals as goal

pub returns-then-not-is_over : goal.returns-then-not-is_over
returns-then-not-is_over c =
    let standings = c.args.board.now.standings in
    let counts = c.args.board.now.tallies.counts in
    let read = read_at c.args.plan.now c.args.board.now c.args.clone c.index-standing.result.now c.index-counts.result.now c.requires.board (omega (arith, standings.ok.0)) (omega (arith, counts.ok.0)) c.index-standing.ensures c.index-counts.ensures in
    unfinished c.args.plan.now c.args.board.now c.args.clone c.index-standing.result.now c.index-counts.result.now read
    (elim c.then-not-is_over.branch [
      | then-not-is_over-via-then-not-is_over w ↦ inl (sym c.is_over.ensures ∙ w.if-not-is_over.true)
      | then-not-is_over-via-else-not-is_over+then-counts-gt0 w ↦ inr (omega arith)
      | then-not-is_over-via-else-not-is_over+else-counts-gt0+then-counts-gt0-2 w ↦ inr (omega arith)
    ])
    c.requires.runs

pub returns-then-not-has_rounds : goal.returns-then-not-has_rounds
returns-then-not-has_rounds c =
    let standings = c.args.board.now.standings in
    let counts = c.args.board.now.tallies.counts in
    let read = read_at c.args.plan.now c.args.board.now c.args.clone c.index-standing.result.now c.index-counts.result.now c.requires.board (omega (arith, standings.ok.0)) (omega (arith, counts.ok.0)) c.index-standing.ensures c.index-counts.ensures in
    finished_where c.args.plan.now c.args.board.now c.args.clone c.index-standing.result.now c.index-counts.result.now read
    (sym c.if-not-is_over.ensures) (omega arith) (omega arith) c.requires.runs _
    (without_rounds c.args.plan.now c.args.clone c.clone_at.result.now c.index-standing.result.now _ c.clone_at.ensures.value (ap not c.if-not-has_rounds.true) (sym c.if-not-has_rounds.ensures))

pub returns-else-not-has_rounds : goal.returns-else-not-has_rounds
returns-else-not-has_rounds c =
    let standings = c.args.board.now.standings in
    let counts = c.args.board.now.tallies.counts in
    let read = read_at c.args.plan.now c.args.board.now c.args.clone c.index-standing.result.now c.index-counts.result.now c.requires.board (omega (arith, standings.ok.0)) (omega (arith, counts.ok.0)) c.index-standing.ensures c.index-counts.ensures in
    finished_where c.args.plan.now c.args.board.now c.args.clone c.index-standing.result.now c.index-counts.result.now read
    (sym c.if-not-is_over.ensures) (omega arith) (omega arith) c.requires.runs _
    (with_rounds c.args.plan.now c.args.clone c.clone_at.result.now c.index-standing.result.now _ c.clone_at.ensures.value c.is_closed.ensures (sym c.if-not-has_rounds.ensures))
