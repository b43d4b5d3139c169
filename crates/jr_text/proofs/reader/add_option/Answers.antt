use Rattle.std.proofs.Common.{◌≡◌, ℕ, List, ◌<◌, refl, ap, ◌∙◌}
use Rattle.jr_text.specs.JobText.{option_in, option_of}
use Rattle.jr_text.specs.Reading.{with_option}
use Rattle.jr_text.proofs.LineLemmas.{and_option_is}
use Rattle.jr_text.proofs.reader.add_option.Goals as goal

pub returns-clause-ok : goal.returns-clause-ok
unfolding option_of
returns-clause-ok c =
    let found = c.args.found.now in
    let section = c.in-Some.section.now in
    let l : ℕ × List ℕ = (c.args.number, c.args.content.now) in
    let some : 0 < found.len = c.in-Some.ensures.variant.0 refl in
    let added = and_option_is found.items l found.len section some found.ok.0 c.in-Some.ensures.value in
    let option : c.in_ok-read.field-0 ≡ option_of l = c.in_ok-read.ensures ∙ ap (option_in c.args.number) c.before_comment.ensures in
    let pushed : c.push.new.self ≡ with_option section (option_of l) = c.in_ok-push.ensures.ok ∙ ap (with_option section) option in
    rw pushed added
