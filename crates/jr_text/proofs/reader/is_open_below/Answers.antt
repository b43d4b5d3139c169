use Rattle.std.proofs.Common.{◌≡◌, ℕ, List, Bool, false, ap, sym, ◌∙◌, lit<}
use Rattle.std.proofs.lemmas.Str.Pattern.{strip_prefix_char}
use Rattle.jr_text.specs.JobText.{is_skipped}
use Rattle.jr_text.specs.Reading.{open_below, open_for_option}
use Rattle.jr_text.proofs.LineLemmas.{is_opening_none, open_below_option}
use Rattle.jr_text.proofs.reader.is_open_below.Goals as goal

pub returns-in-None-2 : goal.returns-in-None-2
returns-in-None-2 c =
    let content = c.content-content.result.now in
    let said : is_skipped content ≡ false = cc in
    let cases = strip_prefix_char 91 content c.strip_prefix.result c.strip_prefix.ensures.cases (lit< tt) in
    let none = rw c.in-None.is at cases in
    let l : ℕ × List ℕ = (c.args.number, content) in
    let line = open_below_option c.args.is_open l said (is_opening_none content none) in
    sym (ap (λ (said : List ℕ). open_below c.args.is_open (c.args.number, said)) (sym c.content-content.ensures) ∙ line
    ∙ ap (λ (b : Bool). open_for_option b c.args.number) c.if-is_open.true)

pub returns-in-None-3 : goal.returns-in-None-3
returns-in-None-3 c =
    let content = c.content-content.result.now in
    let said : is_skipped content ≡ false = cc in
    let cases = strip_prefix_char 91 content c.strip_prefix.result c.strip_prefix.ensures.cases (lit< tt) in
    let none = rw c.in-None.is at cases in
    let l : ℕ × List ℕ = (c.args.number, content) in
    let line = open_below_option c.args.is_open l said (is_opening_none content none) in
    sym (ap (λ (said : List ℕ). open_below c.args.is_open (c.args.number, said)) (sym c.content-content.ensures) ∙ line
    ∙ ap (λ (b : Bool). open_for_option b c.args.number) c.if-is_open.false)
