use Rattle.std.proofs.Common.{◌≡◌, ℕ, List, false, lit<}
use Rattle.std.proofs.lemmas.Str.Pattern.{strip_prefix_char}
use Rattle.jr_text.specs.JobText.{is_skipped}
use Rattle.jr_text.proofs.LineLemmas.{is_opening_none, and_line_option}
use Rattle.jr_text.proofs.reader.read_line.Goals as goal

pub returns-in-None-2-clause-ok : goal.returns-in-None-2-clause-ok
returns-in-None-2-clause-ok c =
    let content = c.content-content.result.now in
    let said : is_skipped content ≡ false = cc in
    let cases = strip_prefix_char 91 content c.strip_prefix.result c.strip_prefix.ensures.cases (lit< tt) in
    let none = rw c.in-None.is at cases in
    let l : ℕ × List ℕ = (c.args.number, content) in
    let line = and_line_option c.args.found.now.items l said (is_opening_none content none) in
    rw (← c.content-content.ensures, line) c.add_option.ensures.ok

pub returns-in-None-2-clause-err : goal.returns-in-None-2-clause-err
returns-in-None-2-clause-err c =
    let content = c.content-content.result.now in
    let said : is_skipped content ≡ false = cc in
    let cases = strip_prefix_char 91 content c.strip_prefix.result c.strip_prefix.ensures.cases (lit< tt) in
    let none = rw c.in-None.is at cases in
    let l : ℕ × List ℕ = (c.args.number, content) in
    let line = and_line_option c.args.found.now.items l said (is_opening_none content none) in
    rw (← c.content-content.ensures, line) c.add_option.ensures.err
