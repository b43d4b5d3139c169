use Rattle.std.proofs.Common.{◌≡◌, reverse}
use Rattle.std.specs.List.{suffix_len}
use Rattle.std.proofs.lemmas.List.Folds.{length-prefix_len}
use Rattle.jr_text.specs.JobText.{is_blank}
use Rattle.jr_text.proofs.CutLemmas.{boundary_before_blanks}
use Rattle.jr_text.proofs.cuts.trimmed_end.Goals as goal

pub range-requires-clause-end_boundary : goal.range-requires-clause-end_boundary
range-requires-clause-end_boundary c =
    let text = c.args.text.now in
    let count : c.trailing_blanks-blanks.result ≡ suffix_len is_blank text = cc (length-prefix_len is_blank (reverse text)) in
    rw count (boundary_before_blanks text)
