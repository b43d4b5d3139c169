-- The marks of one line more.
use Rattle.std.proofs.Common.{◌≡◌, ℕ, ◌+◌, ◌<◌, ◌≤◌, Bool, List, ◌++◌, length, drop, append_assoc, ap, ◌∙◌, sym, append-nil, slice_index_or}
use Rattle.std.proofs.lemmas.List.{at_drop_more, at_drop_all}
use Rattle.jr_text.specs.Records.{LineText}
use Rattle.jr_job_adapt.specs.declared.marks.Mark.{Mark}
use Rattle.jr_job_adapt.specs.Keeping.{line_marks, lines_marks}

-- what is made so far, and what the rest adds
pub more_made : {A : Type 0} (made new own rest whole : List A) → new ≡ made ++ own → own ++ rest ≡ whole → new ++ rest ≡ made ++ whole
more_made made new own rest whole added next =
    ap (λ ls. ls ++ rest) added ∙ append_assoc made own rest ∙ ap (λ ls. made ++ ls) next

pub lines_more : (out : Bool) (marks new : List Mark) (lines : List LineText) (i : ℕ) (line : LineText) → i < length lines → line ≡ slice_index_or lines i line → new ≡ marks ++ line_marks out line → new ++ lines_marks out (drop (i + 1) lines) ≡ marks ++ lines_marks out (drop i lines)
lines_more out marks new lines i line within here added =
    let rest = lines_marks out (drop (i + 1) lines) in
    let next : lines_marks out (drop i lines) ≡ line_marks out line ++ rest =
    at_drop_more (lines_marks out) lines i line within
    ∙ ap (λ x. line_marks out x ++ rest) (sym here) in
    more_made marks new (line_marks out line) rest (lines_marks out (drop i lines)) added (sym next)

pub lines_done : (out : Bool) (marks before : List Mark) (lines : List LineText) (i : ℕ) → length lines ≤ i → marks ++ lines_marks out (drop i lines) ≡ before → marks ≡ before
lines_done out marks before lines i past is =
    sym (append-nil marks) ∙ ap (λ ls. marks ++ ls) (sym (at_drop_all (lines_marks out) lines i past)) ∙ is
