use Rattle.std.proofs.Common.{◌≡◌, not}
use Rattle.std.specs.List.{position_or_len}
use Rattle.std.proofs.lemmas.List.Folds.{length-prefix_len}
use Rattle.jr_text.specs.JobText.{is_comment_mark}
use Rattle.jr_text.proofs.CutLemmas.{boundary_at_mark}
use Rattle.jr_text.proofs.cuts.before_comment.Goals as goal

pub range-requires-clause-end_boundary : goal.range-requires-clause-end_boundary
range-requires-clause-end_boundary c =
    let content = c.args.content.now in
    let count : c.comment_start-end.result ≡ position_or_len is_comment_mark content = cc (length-prefix_len (λ b. not (is_comment_mark b)) content) in
    rw count (boundary_at_mark content)
