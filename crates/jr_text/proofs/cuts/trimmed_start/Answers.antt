use Rattle.std.proofs.Common.{◌≡◌}
use Rattle.std.specs.List.{prefix_len}
use Rattle.std.proofs.lemmas.List.Folds.{length-prefix_len}
use Rattle.jr_text.specs.JobText.{is_blank}
use Rattle.jr_text.proofs.CutLemmas.{boundary_behind_blanks}
use Rattle.jr_text.proofs.cuts.trimmed_start.Goals as goal

pub range_from-requires : goal.range_from-requires
range_from-requires c =
    let text = c.args.text.now in
    let count : c.leading_blanks-blanks.result ≡ prefix_len is_blank text = cc (length-prefix_len is_blank text) in
    λ _. rw count (boundary_behind_blanks text c.utf8.text)
