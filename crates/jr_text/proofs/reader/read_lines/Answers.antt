use Rattle.std.proofs.Common.{◌≡◌, ◌<◌, ◌≤◌, List, length, get_or, Result, subst, sym, ◌∙◌, lit<, arith}
use Rattle.std.specs.List.{slice_split}
use Rattle.std.proofs.lemmas.List.{length_push}
use Rattle.std.proofs.lemmas.Iterator.Splits.{YieldsList-from_str_split}
use Rattle.std.proofs.lemmas.Iterator.Consumers.{YieldsList-turn, YieldsList-end}
use Rattle.std.proofs.lemmas.Result.{err_from_is_err_and}
use Rattle.jr_text.specs.JobText.{is_newline}
use Rattle.jr_text.specs.declared.faults.TextFault.{TextFault}
use Rattle.jr_text.specs.Records.{SectionText}
use Rattle.jr_text.specs.Reading.{and_line, IsRefusal}
use Rattle.jr_text.proofs.Grouping.{pass_is}
use Rattle.jr_text.proofs.Pass.{pass_end, pass_more, pass_refused}
use Rattle.jr_text.proofs.reader.read_lines.Goals as goal

pub loop-line-preserved : goal.loop-line-preserved
loop-line-preserved c =
    let text = c.args.text.now in
    let lines = slice_split is_newline text in
    let line = c.in-Some.line.now in
    let turn = YieldsList-turn (YieldsList-from_str_split 10 text (lit< tt) (cc) (cc) (cc)) c.loop-line.yielded _ c.loop-line.yielded_by _ _ c.in-Some.line c.in-Some.is c.next.ensures.steps in
    let within : c.loop-line.number < length lines = omega arith in
    let here : line ≡ get_or lines c.loop-line.number line = rw c.loop-line.invariant.2 turn.1 in
    let more = pass_more and_line c.loop-line.found.items c.read_line.new.found.items c.loop-line.number lines line within here c.in_ok-read_line.ensures.ok in
    let size = length_push c.loop-line.yielded c.in-Some.line in
    (tt, tt, omega arith, sym more ∙ c.loop-line.invariant.3)

pub returns-in_err-read_line-clause-err : goal.returns-in_err-read_line-clause-err
returns-in_err-read_line-clause-err c =
    let text = c.args.text.now in
    let lines = slice_split is_newline text in
    let line = c.in-Some.line.now in
    let turn = YieldsList-turn (YieldsList-from_str_split 10 text (lit< tt) (cc) (cc) (cc)) c.loop-line.yielded _ c.loop-line.yielded_by _ _ c.in-Some.line c.in-Some.is c.next.ensures.steps in
    let within : c.loop-line.number < length lines = omega arith in
    let here : line ≡ get_or lines c.loop-line.number line = rw c.loop-line.invariant.2 turn.1 in
    let e = c.in_err-read_line.field-0.0 in
    let refused = pass_refused e c.loop-line.found.items c.loop-line.number lines line within here c.in_err-read_line.ensures.err in
    let whole = c.loop-line.invariant.3 ∙ pass_is lines in
    let fault = err_from_is_err_and c.from_residual.result c.from_residual.ensures.1 in
    let P : Result (List SectionText) TextFault → Type 0 = IsRefusal e in
    rw (fault.1, fault.2) (subst P whole refused)

pub returns-clause-ok : goal.returns-clause-ok
returns-clause-ok c =
    let text = c.args.text.now in
    let lines = slice_split is_newline text in
    let end = YieldsList-end (YieldsList-from_str_split 10 text (lit< tt) (cc) (cc) (cc)) c.loop-line.yielded _ c.loop-line.yielded_by _ _ c.in-None.is c.next.ensures.steps in
    let last : length lines ≤ c.loop-line.number = omega arith in
    sym (c.loop-line.invariant.3 ∙ pass_is lines) ∙ pass_end and_line c.loop-line.found.items c.loop-line.number lines last
