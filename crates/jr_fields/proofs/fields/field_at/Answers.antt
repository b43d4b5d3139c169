use Rattle.std.proofs.Common.{◌≡◌, ◌+◌, ◌-◌, ◌<◌, ◌≤◌, List, not, ℕ, length, take, drop, suc, sym, ap, ◌∙◌, arith}
use Rattle.std.specs.List.{position_or_len}
use Rattle.std.proofs.lemmas.List.Folds.{length-prefix_len}
use Rattle.jr_fields.specs.Fields.{is_space, fields_of, field_at}
use Rattle.jr_fields.proofs.FieldLemmas.{first_field, next_field, no_field}
use Rattle.jr_fields.proofs.fields.field_at.Goals as goal

-- where the field ends
ends : (text : List ℕ) (n : ℕ) → n ≡ length (take (position_or_len is_space text) text) → n ≡ position_or_len is_space text
ends text n h = h ∙ length-prefix_len (λ b. not (is_space b)) text

pub loop-preserved : goal.loop-preserved
loop-preserved c =
    let rest = c.loop.rest.now in
    let left = c.args.place - (c.loop.counter + 1) in
    let end = ends rest c.field_len-end.result c.field_len-end.ensures.value in
    let within : position_or_len is_space rest < length rest = omega (arith, end) in
    let count : c.args.place - c.loop.counter ≡ suc left = omega arith in
    let after : c.split_at.result.1.now ≡ drop (position_or_len is_space rest + 1) rest = rw (← end) c.split_at.ensures.back in
    ap (λ (text : List ℕ). field_at (fields_of text) left) after
    ∙ sym (next_field rest left within)
    ∙ ap (λ (k : ℕ). field_at (fields_of rest) k) (sym count) ∙ c.loop.invariant

pub returns-then-end-count : goal.returns-then-end-count
returns-then-end-count c =
    let rest = c.loop.rest.now in
    let left = c.args.place - (c.loop.counter + 1) in
    let end = ends rest c.field_len-end.result c.field_len-end.ensures.value in
    let long : length rest ≤ position_or_len is_space rest = omega (arith, end) in
    let count : c.args.place - c.loop.counter ≡ suc left = omega arith in
    sym (no_field rest left long) ∙ ap (λ (k : ℕ). field_at (fields_of rest) k) (sym count) ∙ c.loop.invariant

pub returns : goal.returns
returns c =
    let rest = c.loop.rest.now in
    let count : c.args.place - c.loop.counter ≡ 0 = omega arith in
    ap (λ (n : ℕ). take n rest) (ends rest c.field_len.result c.field_len.ensures.value)
    ∙ sym (first_field rest) ∙ ap (λ (k : ℕ). field_at (fields_of rest) k) (sym count) ∙ c.loop.invariant
