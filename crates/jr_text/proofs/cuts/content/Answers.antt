use Rattle.std.proofs.Common.{ℕ, List, Bor, ap, ◌∙◌, sym, lit<, refl}
use Rattle.std.proofs.lemmas.Str.Pattern.{strip_suffix_char}
use Rattle.jr_text.specs.JobText.{content_of, trimmed}
use Rattle.jr_text.proofs.CutLemmas.{stripped}
use Rattle.jr_text.proofs.cuts.content.Goals as goal

pub returns : goal.returns
unfolding content_of
returns c =
    let line = c.args.line.now in
    let parts = strip_suffix_char 13 line c.strip_suffix.result c.strip_suffix.ensures.cases (lit< tt) in
    let shown = stripped line c.strip_suffix.result c.args.line refl parts in
    c.trimmed.ensures ∙ ap trimmed (ap (λ (x : Bor (List ℕ)). x.now) c.unwrap_or.ensures ∙ sym shown)
