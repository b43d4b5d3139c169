use Rattle.std.proofs.Common.{◌≡◌, ◌<◌, ◌≤◌, ◌++◌, ◌∷◌, [], List, ℕ, length, slice_index_or, append-nil, ap, sym, ◌∙◌, lit<, arith}
use Rattle.std.proofs.lemmas.List.{at_drop_all, length_push}
use Rattle.std.proofs.lemmas.Iterator.Splits.{YieldsList-from_str_split}
use Rattle.std.proofs.lemmas.Iterator.Consumers.{YieldsList-turn, YieldsList-end}
use Rattle.jr_job_adapt.specs.Keeping.{lines_in}
use Rattle.jr_job_adapt.proofs.WalkLemmas.{text_more}
use Rattle.jr_job_adapt.proofs.keeping.lines_of.Goals as goal

pub loop-line-preserved : goal.loop-line-preserved
loop-line-preserved c =
    let text = c.args.text.now in
    let all = lines_in text in
    let i = length c.loop-line.yielded in
    let line = c.in-Some.line.now in
    let turn = YieldsList-turn (YieldsList-from_str_split 10 text (lit< tt) (cc) (cc) (cc)) c.loop-line.yielded _ c.loop-line.yielded_by _ _ c.in-Some.line c.in-Some.is c.next.ensures.steps in
    let within : i < length all = omega arith in
    let here : line ≡ slice_index_or all i line = turn.1 in
    let added : c.push.new.self.items ≡ c.loop-line.lines.items ++ line ∷ [] =
    c.in_ok-push.ensures.items ∙ ap (λ (x : List ℕ). c.loop-line.lines.items ++ x ∷ []) c.in_ok-own.ensures in
    let size = length_push c.loop-line.yielded c.in-Some.line in
    (tt, tt, text_more c.loop-line.lines.items c.push.new.self.items all all i (length (c.loop-line.yielded ++ c.in-Some.line ∷ [])) line within here added size c.loop-line.invariant.2)

pub returns : goal.returns
returns c =
    let text = c.args.text.now in
    let all = lines_in text in
    let items = c.loop-line.lines.items in
    let end = YieldsList-end (YieldsList-from_str_split 10 text (lit< tt) (cc) (cc) (cc)) c.loop-line.yielded _ c.loop-line.yielded_by _ _ c.in-None.is c.next.ensures.steps in
    let past : length all ≤ length c.loop-line.yielded = omega arith in
    sym (append-nil items) ∙ ap (λ xs. items ++ xs) (sym (at_drop_all (λ xs. xs) all (length c.loop-line.yielded) past)) ∙ c.loop-line.invariant.2
