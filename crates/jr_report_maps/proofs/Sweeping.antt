-- A list of blocks, one span more.
use Rattle.std.proofs.Common.{◌≡◌, ℕ, ◌+◌, ◌*◌, ◌<◌, ◌≤◌, Bool, true, false, List, length, get_or, take, refl, sym, ap, ◌∙◌, arith, inl, inr}
use Rattle.std.specs.Prelude.{◌&&◌, ◌||◌, nat_le}
use Rattle.std.specs.List.{list_any}
use Rattle.std.specs.List.Sorted.{IsNonDecreasingBy}
use Rattle.std.proofs.lemmas.Bool.{cases_lt, le-leb, or_left, or_right, and_from}
use Rattle.std.proofs.lemmas.List.{get_or_default}
use Rattle.std.proofs.lemmas.List.Folds.{list_any_more}
use Rattle.jr_report_maps.proofs.Pieces.{over_reaches}
use Rattle.jr_report_maps.specs.BadBlocks.{is_listed}
use Rattle.jr_report_maps.specs.Sweeps.{is_over, IsFilled}
use Rattle.jr_report_maps.specs.declared.spans.Span.{Span}
use Rattle.jr_report_maps.specs.Spans.{span_bytes}

module _ (file size : ℕ) (spans : List Span) (i : ℕ) (d : Span) (old new : List ℕ) (next end : ℕ)
    (within : i < length spans)
    (step : (block : ℕ) → is_listed new block ≡ (is_listed old block || (nat_le next block && is_over file size block (get_or spans i d))))
    (reached : (block : ℕ) → next ≤ block → block < end → (span_bytes (get_or spans i d)).offset < block * size + size → is_over file size block (get_or spans i d) ≡ true)
    (filled : (k : ℕ) (e : Span) → i ≤ k → k < length spans → IsFilled size old next (span_bytes (get_or spans k e)).offset) where
  -- below `next` it is there already
  added : (block : ℕ) (over : Bool) → is_over file size block (get_or spans i d) ≡ over
      → (is_listed old block || (nat_le next block && over)) ≡ (is_listed old block || over)
  added block false is = ap (λ (b : Bool). is_listed old block || b) (and_none (nat_le next block))
    where
      and_none : (b : Bool) → (b && false) ≡ false
      and_none true = refl
      and_none false = refl
  added block true is = elim (cases_lt block next) [
    | inl below ↦
        let there : is_listed old block ≡ true = filled i d (omega arith) within block (over_reaches (span_bytes (get_or spans i d)) file size block is) below in
        or_left _ _ there ∙ sym (or_left _ _ there)
    | inr above ↦
        let here : (nat_le next block && true) ≡ true = and_from _ _ (le-leb next block above) refl in
        or_right _ _ here ∙ sym (or_right _ _ refl)
  ]

  pub listed_more : ((block : ℕ) → is_listed old block ≡ list_any (is_over file size block) (take i spans))
      → (block : ℕ) → is_listed new block ≡ list_any (is_over file size block) (take (i + 1) spans)
  listed_more so block =
      step block
      ∙ added block (is_over file size block (get_or spans i d)) refl
      ∙ ap (λ (b : Bool). b || is_over file size block (get_or spans i d)) (so block)
      ∙ sym (list_any_more (is_over file size block) spans i d within)

  pub filled_more : IsNonDecreasingBy (λ (span : Span). span.offset + span.skip) spans
      → (k : ℕ) (e : Span) → i + 1 ≤ k → k < length spans → IsFilled size new end (span_bytes (get_or spans k e)).offset
  filled_more ascending k e after inside block reach below = elim (cases_lt block next) [
    | inl under ↦
        let there : is_listed old block ≡ true = filled k e (omega arith) inside block reach under in
        step block ∙ or_left _ _ there
    | inr above ↦
        let rise : (span_bytes (get_or spans i d)).offset ≤ (span_bytes (get_or spans k d)).offset = ascending i k d (omega arith) inside in
        let same : (span_bytes (get_or spans k d)).offset ≡ (span_bytes (get_or spans k e)).offset = ap (λ (span : Span). span.offset + span.skip) (get_or_default spans k d e inside) in
        let over : is_over file size block (get_or spans i d) ≡ true = reached block above below (omega (arith, rise, same, reach)) in
        let here : (nat_le next block && is_over file size block (get_or spans i d)) ≡ true = and_from _ _ (le-leb next block above) over in
        step block ∙ or_right _ _ here
  ]
