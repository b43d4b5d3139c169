use Rattle.std.proofs.Common.{◌≡◌, ℕ, ◌<◌, ◌≤◌, length, take, slice_index_or, Option, IfSome, sym, ◌∙◌, lit<, arith}
use Rattle.std.specs.List.{slice_split}
use Rattle.std.proofs.lemmas.List.{length_push, length-set, take_more_set}
use Rattle.std.proofs.lemmas.List.Elements.{All-push}
use Rattle.std.proofs.lemmas.Iterator.Splits.{YieldsList-from_str_split}
use Rattle.std.proofs.lemmas.Iterator.Consumers.{YieldsList-turn, YieldsList-end}
use Rattle.std.proofs.lemmas.Result.{err_from_is_err_and}
use Rattle.jr_sizes.specs.Splits.{is_colon}
use Rattle.jr_sizes.proofs.EntryLemmas.{entries_next, entries_refused, entries_end}
use Rattle.jr_sizes.proofs.reading.entries_of.Goals as goal

pub returns-in_err-entries-clause-err : goal.returns-in_err-entries-clause-err
returns-in_err-entries-clause-err c =
    let parts = slice_split is_colon c.args.text.now in
    let part = c.in-Some.part.now in
    let turn = YieldsList-turn (YieldsList-from_str_split 58 c.args.text.now (lit< tt) (cc) (cc) (cc)) c.loop-part.yielded _ c.loop-part.yielded_by _ _ c.in-Some.part c.in-Some.is c.next.ensures.steps in
    let within : c.loop-part.count < length parts = omega arith in
    let here : part ≡ slice_index_or parts c.loop-part.count part = rw c.loop-part.invariant.2 turn.1 in
    let e = c.in_err-entries.field-0.0 in
    let refused = entries_refused (take c.loop-part.count c.loop-part.entries) e parts c.loop-part.count part within here (sym c.in_err-entries.ensures.value) in
    let fault = err_from_is_err_and c.from_residual.result c.from_residual.ensures.1 in
    rw (fault.1, fault.2) (sym c.loop-part.invariant.5 ∙ refused)

pub offset_bounds-entries-count : goal.offset_bounds-entries-count
offset_bounds-entries-count c =
    let turn = YieldsList-turn (YieldsList-from_str_split 58 c.args.text.now (lit< tt) (cc) (cc) (cc)) c.loop-part.yielded _ c.loop-part.yielded_by _ _ c.in-Some.part c.in-Some.is c.next.ensures.steps in
    omega arith

pub bounds-entries-count : goal.bounds-entries-count
bounds-entries-count c =
    let turn = YieldsList-turn (YieldsList-from_str_split 58 c.args.text.now (lit< tt) (cc) (cc) (cc)) c.loop-part.yielded _ c.loop-part.yielded_by _ _ c.in-Some.part c.in-Some.is c.next.ensures.steps in
    omega arith

pub loop-part-preserved : goal.loop-part-preserved
loop-part-preserved c =
    let parts = slice_split is_colon c.args.text.now in
    let part = c.in-Some.part.now in
    let turn = YieldsList-turn (YieldsList-from_str_split 58 c.args.text.now (lit< tt) (cc) (cc) (cc)) c.loop-part.yielded _ c.loop-part.yielded_by _ _ c.in-Some.part c.in-Some.is c.next.ensures.steps in
    let within : c.loop-part.count < length parts = omega arith in
    let here : part ≡ slice_index_or parts c.loop-part.count part = rw c.loop-part.invariant.2 turn.1 in
    let entry = c.in_ok-entries.field-0 in
    let front = take c.loop-part.count c.loop-part.entries in
    let room : c.loop-part.count < length c.loop-part.entries = omega arith in
    let taken = take_more_set c.loop-part.entries c.loop-part.count entry room in
    let size = length_push c.loop-part.yielded c.in-Some.part in
    let more = entries_next front entry parts c.loop-part.count part within here (sym c.in_ok-entries.ensures.value) in
    let small = All-push (λ (e : ℕ × Option ℕ). IfSome e.1 (λ n. n ≤ 100)) front entry c.loop-part.invariant.4 c.in_ok-entries.ensures.most in
    (tt, tt, omega arith, omega (arith, length-set c.loop-part.entries c.loop-part.count entry), rw taken small, rw taken (sym more ∙ c.loop-part.invariant.5))

pub returns-clause-ok : goal.returns-clause-ok
returns-clause-ok c =
    let parts = slice_split is_colon c.args.text.now in
    let end = YieldsList-end (YieldsList-from_str_split 58 c.args.text.now (lit< tt) (cc) (cc) (cc)) c.loop-part.yielded _ c.loop-part.yielded_by _ _ c.in-None.is c.next.ensures.steps in
    let last : length parts ≤ c.loop-part.count = omega arith in
    sym c.loop-part.invariant.5 ∙ entries_end (take c.loop-part.count c.loop-part.entries) parts c.loop-part.count last

pub returns-clause-count : goal.returns-clause-count
returns-clause-count c =
    let end = YieldsList-end (YieldsList-from_str_split 58 c.args.text.now (lit< tt) (cc) (cc) (cc)) c.loop-part.yielded _ c.loop-part.yielded_by _ _ c.in-None.is c.next.ensures.steps in
    omega arith
