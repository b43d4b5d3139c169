use Rattle.std.proofs.Common.{ℕ, List, ◌++◌, string_bytes, ap, ◌∙◌}
use Rattle.std.specs.Prelude.{codes}
use Rattle.jr_report_page.proofs.RowLemmas.{added_seven}
use Rattle.jr_after_page.specs.Status.{counted, status_text, verdict_word}
use Rattle.jr_after_page.proofs.status.push_status.Goals as goal

pub returns : goal.returns
unfolding status_text
returns c =
    let s = c.args.status.now in
    let start = string_bytes c.args.title.now in
    added_seven start (string_bytes c.push_str.new.self) (string_bytes c.push_count.new.title) (string_bytes c.push_count-2.new.title)
    (string_bytes c.push_count-3.new.title) (string_bytes c.push_count-4.new.title) (string_bytes c.push_count-5.new.title)
    (string_bytes c.push_str-2.new.self)
    (verdict_word s) (counted (codes ": ") s.kept) (counted (codes " kept, ") s.lost) (counted (codes " lost, ") s.broken)
    (counted (codes " broken, ") s.torn) (counted (codes " torn, ") s.unread) (codes " unread")
    (c.in_ok-push_str.ensures.bytes ∙ ap (λ (word : List ℕ). start ++ word) c.verdict_word.ensures)
    c.in_ok-push_count.ensures c.in_ok-push_count-2.ensures c.in_ok-push_count-3.ensures c.in_ok-push_count-4.ensures
    c.in_ok-push_count-5.ensures c.in_ok-push_str-2.ensures.bytes
