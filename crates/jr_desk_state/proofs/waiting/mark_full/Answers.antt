-- A mark more, and all else stays.
use Rattle.std.proofs.Common.{◌≡◌, length, refl, arith}
use Rattle.std.specs.Prelude.{Some, slice_get}
use Rattle.std.proofs.lemmas.Option.{slice_get_read}
use Rattle.jr_desk_state.proofs.WaitingMoves.{waiting_marked, waits_full}
use Rattle.jr_desk_state.proofs.waiting.mark_full.Goals as goal

pub returns-then-is_full-clause-board : goal.returns-then-is_full-clause-board
returns-then-is_full-clause-board c =
    let plan = c.args.plan.now in
    let board = c.args.board.now in
    let is = c.requires in
    let items = board.tallies.counts.items in
    let counted : slice_get items c.args.clone ≡ Some c.index.result.now =
    slice_get_read items (length items) c.args.clone c.index.result.now refl (omega (arith, c.if-clone-len.true, c.len.ensures)) c.index.ensures in
    record {
      planned = is.planned;
      legal = is.legal;
      tickets = is.tickets;
      flying = is.flying;
      log = is.log;
      tallies = is.tallies;
      standings = is.standings;
      rested = is.rested;
      waiting =
          waiting_marked plan board.history.items board.waiting c.mark.new.self c.args.clone is.waiting c.mark.ensures.len
          c.mark.ensures.others
          (waits_full plan board.history.items board.tallies c.args.clone c.index.result.now c.clone_at.result.now is.tallies
          c.clone_at.ensures.value counted (c.if-is_full.ensures refl));
      others = is.others;
      left = is.left;
      few = is.few;
    }
