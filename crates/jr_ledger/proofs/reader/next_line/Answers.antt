use Rattle.std.proofs.Common.{◌≡◌, ℕ, ◌∷◌, ◌<◌, ◌+◌, List, length, take, drop, not, ap, sym, ◌∙◌, arith}
use Rattle.std.specs.List.{slice_split, position_or_len}
use Rattle.std.proofs.lemmas.List.Folds.{length-prefix_len}
use Rattle.std.proofs.lemmas.List.Splits.{slice_split_first}
use Rattle.jr_model.proofs.ListLemmas.{one_part}
use Rattle.jr_ledger.specs.Reading.{is_newline}
use Rattle.jr_ledger.proofs.reader.next_line.Goals as goal

-- where the line ends
ends : (text : List ℕ) (n : ℕ) → n ≡ length (take (position_or_len is_newline text) text) → n ≡ position_or_len is_newline text
ends text n h = h ∙ length-prefix_len (λ b. not (is_newline b)) text

pub returns-then-end-text : goal.returns-then-end-text
returns-then-end-text c =
    let text = c.args.text.now in
    let end = ends text c.line_len-end.result c.line_len-end.ensures.value in
    one_part is_newline text (omega (arith, end))

pub returns : goal.returns
returns c =
    let text = c.args.text.now in
    let end = ends text c.line_len-end.result c.line_len-end.ensures.value in
    let within : position_or_len is_newline text < length text = omega (arith, end) in
    let line : c.split_at.result.0.now ≡ take (position_or_len is_newline text) text = rw (← end) c.split_at.ensures.front in
    let after : c.split_at-2.result.1.now ≡ drop (position_or_len is_newline text + 1) text = rw (← end) c.split_at-2.ensures.back in (
      slice_split_first is_newline text 0 within
          ∙ ap (λ (x : List ℕ). x ∷ slice_split is_newline (drop (position_or_len is_newline text + 1) text)) (sym line)
          ∙ ap (λ (y : List ℕ). c.split_at.result.0.now ∷ slice_split is_newline y) (sym after),
      omega (arith, c.split_at-2.ensures.back_len),
    )
