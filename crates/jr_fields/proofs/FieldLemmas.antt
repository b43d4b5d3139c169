-- What the reading of a line's fields and numbers shares.
use Rattle.std.proofs.Common.{◌≡◌, ℕ, suc, ◌+◌, ◌<◌, ◌≤◌, List, [], length, take, drop, sym, ap, ◌∙◌, inl, inr}
use Rattle.std.specs.List.{position_or_len}
use Rattle.std.proofs.lemmas.Bool.{cases_lt}
use Rattle.std.proofs.lemmas.List.{take_all}
use Rattle.std.proofs.lemmas.List.Splits.{slice_split_first}
use Rattle.jr_model.proofs.ListLemmas.{one_part}
use Rattle.jr_fields.specs.Fields.{is_space, fields_of, field_at}

-- the first field
pub first_field : (text : List ℕ) → field_at (fields_of text) 0 ≡ take (position_or_len is_space text) text
first_field text =
    elim (cases_lt (position_or_len is_space text) (length text)) [
      | inl within ↦ ap (λ (fields : List (List ℕ)). field_at fields 0) (slice_split_first is_space text 0 within)
      | inr past ↦
          ap (λ (fields : List (List ℕ)). field_at fields 0) (one_part is_space text past)
          ∙ sym (take_all (position_or_len is_space text) text past)
    ]

-- past the first space
pub next_field : (text : List ℕ) (k : ℕ) → position_or_len is_space text < length text → field_at (fields_of text) (suc k) ≡ field_at (fields_of (drop (position_or_len is_space text + 1) text)) k
next_field text k within = ap (λ (fields : List (List ℕ)). field_at fields (suc k)) (slice_split_first is_space text 0 within)

-- no field past the only one
pub no_field : (text : List ℕ) (k : ℕ) → length text ≤ position_or_len is_space text → field_at (fields_of text) (suc k) ≡ []
no_field text k long = ap (λ (fields : List (List ℕ)). field_at fields (suc k)) (one_part is_space text long)
