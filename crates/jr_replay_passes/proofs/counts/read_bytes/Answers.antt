use Rattle.std.proofs.Common.{◌≡◌, ◌+◌, ◌<◌, ◌^◌, sym, arith}
use Rattle.jr_model.specs.Totals.{is_read, moved_by}
use Rattle.jr_replay_passes.proofs.Moves.{bytes_fit, total_more, total_same}
use Rattle.jr_replay_passes.proofs.counts.read_bytes.Goals as goal
use Rattle.jr_replay_passes.proofs.counts.read_bytes.Goals.{in-Some, in-None}

pub overflow_add-total : goal.overflow_add-total
overflow_add-total c =
    let small : c.in-Some.io.piece.len < 2 ^ 32 = omega arith in
    let fits = bytes_fit (moved_by c.args.ios.now is_read c.args.clone) c.args.events.now c.loop-event.event-index _ c.in-Some.io c.loop-event.total c.loop-event-test.true (sym c.in-Some.ensures) small c.requires c.loop-event.invariant.most in
    omega (arith, fits)

pub loop-event-preserved : goal.loop-event-preserved
loop-event-preserved c =
    elim c.match-read_by.branch [
      | in-Some w ↦
          let small : w.in-Some.io.piece.len < 2 ^ 32 = omega arith in
          let next : c.match-read_by.total ≡ c.loop-event.total + w.in-Some.io.piece.len = omega arith in
          let both = total_more (moved_by c.args.ios.now is_read c.args.clone) c.args.events.now c.loop-event.event-index _ w.in-Some.io c.loop-event.total c.match-read_by.total c.loop-event-test.true (sym w.in-Some.ensures) small c.loop-event.invariant.is c.loop-event.invariant.most next in
          record { is = both.0; most = both.1 }
      | in-None w ↦
          let both = total_same (moved_by c.args.ios.now is_read c.args.clone) c.args.events.now c.loop-event.event-index _ c.loop-event.total c.match-read_by.total c.loop-event-test.true (sym w.in-None.ensures) c.loop-event.invariant.is c.loop-event.invariant.most w.total-is in
          record { is = both.0; most = both.1 }
    ]
