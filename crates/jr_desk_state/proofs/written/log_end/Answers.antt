-- The log takes the step that the end is, where it is of a file that a clone checks.
use Rattle.std.proofs.Common.{◌≡◌, ◌∙◌, true, false, Bool, not, ◌&&◌, ap, sym, rules}
use Rattle.std.specs.Prelude.{Some}
use Rattle.jr_model.specs.History.{is_write, ended_whole}
use Rattle.jr_desk_state.specs.WriteLogs.{is_checked_file}
use Rattle.jr_desk_state.proofs.LogMoves.{flag_is, log_whole, log_broken, log_elsewhere, log_unwritten}
use Rattle.jr_desk_state.proofs.written.log_end.Goals as goal
use Rattle.jr_desk_state.proofs.written.log_end.Goals.{then-ne-via-then-ne, then-ne-via-else-ne+then-not-index}

pub returns-then-ne-clause-kept : goal.returns-then-ne-clause-kept
returns-then-ne-clause-kept c plan history next own raced is =
    let ticket = c.args.ticket.now in
    let log = c.args.log.now in
    elim c.then-ne.branch [
      | then-ne-via-then-ne w ↦
          let kind : is_write ticket.kind ≡ false = search rules in
          log_unwritten plan history ticket c.args.outcome next own log is kind
      | then-ne-via-else-ne+then-not-index w ↦
          let kind : is_write ticket.kind ≡ true = search rules in
          let flag = flag_is plan history log ticket.piece.file w.index.result.now is c.requires.file w.index.ensures in
          let dropped : is_checked_file plan ticket.piece.file ≡ false = sym flag ∙ search rules in
          log_elsewhere plan history ticket c.args.outcome next own log is kind dropped
    ]

pub returns-in_ok-settle-clause-kept : goal.returns-in_ok-settle-clause-kept
returns-in_ok-settle-clause-kept c plan history next own raced is =
    let ticket = c.args.ticket.now in
    let log = c.args.log.now in
    let kind : is_write ticket.kind ≡ true = search rules in
    let flag = flag_is plan history log ticket.piece.file c.index.result.now is c.requires.file c.index.ensures in
    let mine : is_checked_file plan ticket.piece.file ≡ true = sym flag ∙ search rules in
    let whole : (ended_whole (Some c.args.outcome) && not c.args.raced) ≡ true = search rules in
    record {
      entries =
          c.in_ok-settle.ensures.ok
          ∙ log_whole plan history ticket c.args.outcome next own log is c.args.expected.now kind mine
          (ap (λ (b : Bool). ended_whole (Some c.args.outcome) && not b) (sym raced) ∙ whole) (c.requires.expected kind);
      files = is.files;
    }

pub returns-else-eq-clause-kept : goal.returns-else-eq-clause-kept
returns-else-eq-clause-kept c plan history next own raced is =
    let ticket = c.args.ticket.now in
    let log = c.args.log.now in
    let kind : is_write ticket.kind ≡ true = search rules in
    let broken : (ended_whole (Some c.args.outcome) && not c.args.raced) ≡ false = search rules in
    record {
      entries =
          c.unsettle.ensures.entries
          ∙ log_broken plan history ticket c.args.outcome next own log is kind
          (ap (λ (b : Bool). ended_whole (Some c.args.outcome) && not b) (sym raced) ∙ broken);
      files = is.files;
    }
