use Rattle.std.proofs.Common.{rules, ◌≡◌, ◌+◌, [], length, Err, None, Some, sym, ap, ◌∙◌}
use Rattle.std.specs.List.{slice_split}
use Rattle.jr_ledger.specs.declared.faults.LedgerFault.TheVariants.{Line}
use Rattle.jr_ledger.specs.Fields.{read_line}
use Rattle.jr_ledger.specs.Reading.{is_newline, lines_read}
use Rattle.jr_ledger.proofs.ReadingLemmas.{read_more, read_refused}
use Rattle.jr_ledger.proofs.reader.lines_below.Goals as goal

pub returns-in_default-read_line-clause-err : goal.returns-in_default-read_line-clause-err
returns-in_default-read_line-clause-err c =
    let above = c.loop-line.lines.items in
    let line = c.in-Some.line.now in
    let none : read_line line ≡ None = cc in
    let place : c.len.result ≡ length above = search rules in
    read_refused above line c.loop-line.rest.now c.in-Some.after.now (lines_read [] 2 (slice_split is_newline c.args.text.now)) c.in-Some.ensures.0 c.loop-line.invariant none
    ∙ ap (λ n. Err (Line (n + 2))) (sym place)

pub loop-line-preserved : goal.loop-line-preserved
loop-line-preserved c =
    let above = c.loop-line.lines.items in
    let line = c.in-Some.line.now in
    let found = c.in-Some-read_line.found in
    let read : read_line line ≡ Some found = cc in
    read_more above line c.loop-line.rest.now c.in-Some.after.now (lines_read [] 2 (slice_split is_newline c.args.text.now)) c.in-Some.ensures.0 c.loop-line.invariant found c.push.new.self.items read c.in_ok-push.ensures.items
