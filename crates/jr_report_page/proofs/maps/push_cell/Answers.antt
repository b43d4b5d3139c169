use Rattle.std.proofs.Common.{List, ◌++◌, ℕ, ◌∙◌, ap, string_bytes}
use Rattle.std.specs.Prelude.{codes}
use Rattle.jr_plan.proofs.ListLemmas.{added-four}
use Rattle.jr_report_page.specs.Cells.{sign_of, tip_text, use_text}
use Rattle.jr_report_page.proofs.maps.push_cell.Goals as goal

pub returns : goal.returns
returns c =
    let cell = c.args.cell.now in
    let start = string_bytes c.args.page.now in
    added-four start (string_bytes c.push_use.new.page) (string_bytes c.push_str.new.self) (string_bytes c.push_tip.new.page) (string_bytes c.push_str-2.new.self)
    (use_text (sign_of cell.fate) cell.place) (codes "<title>") (tip_text cell) (codes "</title></use>\n")
    (c.in_ok-push_use.ensures ∙ ap (λ (sign : List ℕ). start ++ use_text sign cell.place) c.sign_of.ensures)
    c.in_ok-push_str.ensures.bytes c.in_ok-push_tip.ensures c.in_ok-push_str-2.ensures.bytes
