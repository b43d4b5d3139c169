use Rattle.std.proofs.Common.{◌≡◌, ◌<◌, ◌≤◌, length, get_or, ap, sym, ◌∙◌, lit<, arith}
use Rattle.std.specs.List.{slice_split}
use Rattle.std.specs.Result.{result_err}
use Rattle.std.proofs.lemmas.List.{length_push}
use Rattle.std.proofs.lemmas.Iterator.Splits.{YieldsList-from_str_split}
use Rattle.std.proofs.lemmas.Iterator.Consumers.{YieldsList-turn, YieldsList-end}
use Rattle.jr_text.specs.JobText.{is_newline}
use Rattle.jr_text.specs.Reading.{open_below}
use Rattle.jr_text.proofs.Checks.{check_is}
use Rattle.jr_text.proofs.Pass.{pass_end, pass_faulty, pass_more}
use Rattle.jr_text.proofs.reader.first_fault.Goals as goal

pub loop-line-preserved : goal.loop-line-preserved
loop-line-preserved c =
    let text = c.args.text.now in
    let lines = slice_split is_newline text in
    let line = c.in-Some.line.now in
    let turn = YieldsList-turn (YieldsList-from_str_split 10 text (lit< tt) (cc) (cc) (cc)) c.loop-line.yielded _ c.loop-line.yielded_by _ _ c.in-Some.line c.in-Some.is c.next.ensures.steps in
    let within : c.loop-line.number < length lines = omega arith in
    let here : line ≡ get_or lines c.loop-line.number line = rw c.loop-line.invariant.2 turn.1 in
    let below = sym c.is_open_below.ensures ∙ c.in-Ok.is in
    let more = pass_more open_below c.loop-line.is_open c.in-Ok.below c.loop-line.number lines line within here below in
    let size = length_push c.loop-line.yielded c.in-Some.line in
    (tt, tt, omega arith, sym more ∙ c.loop-line.invariant.3)

pub returns-in-Err : goal.returns-in-Err
returns-in-Err c =
    let text = c.args.text.now in
    let lines = slice_split is_newline text in
    let line = c.in-Some.line.now in
    let turn = YieldsList-turn (YieldsList-from_str_split 10 text (lit< tt) (cc) (cc) (cc)) c.loop-line.yielded _ c.loop-line.yielded_by _ _ c.in-Some.line c.in-Some.is c.next.ensures.steps in
    let within : c.loop-line.number < length lines = omega arith in
    let here : line ≡ get_or lines c.loop-line.number line = rw c.loop-line.invariant.2 turn.1 in
    let fault = sym c.is_open_below.ensures ∙ c.in-Err.is in
    let found = pass_faulty open_below c.in-Err.fault c.loop-line.is_open c.loop-line.number lines line within here fault in
    ap result_err (sym found ∙ c.loop-line.invariant.3) ∙ check_is lines

pub returns : goal.returns
returns c =
    let text = c.args.text.now in
    let lines = slice_split is_newline text in
    let end = YieldsList-end (YieldsList-from_str_split 10 text (lit< tt) (cc) (cc) (cc)) c.loop-line.yielded _ c.loop-line.yielded_by _ _ c.in-None.is c.next.ensures.steps in
    let last : length lines ≤ c.loop-line.number = omega arith in
    ap result_err (sym (pass_end open_below c.loop-line.is_open c.loop-line.number lines last) ∙ c.loop-line.invariant.3) ∙ check_is lines
