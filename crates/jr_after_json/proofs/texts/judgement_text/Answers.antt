use Rattle.std.proofs.Common.{ℕ, List, ◌++◌, codes, ap, ◌∙◌}
use Rattle.jr_report_json.proofs.Members.{three_more}
use Rattle.jr_after_json.specs.Written.{about_of, back_text, front_text, middle_text}
use Rattle.jr_after_json.proofs.Members.{judgement_is}
use Rattle.jr_after_json.proofs.texts.judgement_text.Goals as goal

pub returns : goal.returns
returns c =
    let about = about_of c.args.judgement.now in
    let plan = c.args.plan.now in
    let found = c.args.found.now in
    let unread = c.args.unread.now in
    let front = front_text about plan found in
    let middle = middle_text about plan found unread in
    let back = back_text about plan unread in
    let empty = c.new-text.result.items in
    c.in_ok-push_text.ensures
    ∙ ap (λ (t : List ℕ). t ++ codes "\n")
    (three_more empty c.push_front.new.text.items c.push_middle.new.text.items c.push_back.new.text.items front middle back
    c.in_ok-push_front.ensures c.in_ok-push_middle.ensures c.in_ok-push_back.ensures
    ∙ ap (λ (t : List ℕ). t ++ (front ++ middle ++ back)) c.new-text.ensures.items
    ∙ judgement_is about plan found unread)
