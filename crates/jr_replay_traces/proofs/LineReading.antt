-- What is written as a line is read back.
use Rattle.std.proofs.Common.{◌≡◌, ℕ, ◌^◌, ◌<◌, List, [], ◌∷◌, ◌++◌, length, get_or, Bool, true, false, cond, not, ◌&&◌, ◌||◌, All, refl, sym, ap, ◌∙◌, subst, inl, inr, rules, lit<, arith}
use Rattle.std.specs.Prelude.{Some, None, nat_lt, ◌==◌, slice_index}
use Rattle.std.specs.Char.{is_ascii_digit}
use Rattle.std.specs.Fmt.{decimal}
use Rattle.std.specs.List.{list_all, onto_first}
use Rattle.std.specs.Str.Parse.{digits_value}
use Rattle.std.proofs.lemmas.Bool.{and_from, cases_lt, lt-ltb, or_left, or_right}
use Rattle.std.proofs.lemmas.Bool.Decides.{nat_tests}
use Rattle.std.proofs.lemmas.Fmt.{decimal_digit, decimal_nonempty, digits_decimal, digits_value-decimal, first_decimal}
use Rattle.std.proofs.lemmas.List.Splits.{slice_split_none}
use Rattle.std.proofs.lemmas.Str.Parse.{IsNumeralModel, numerals_by_value}
use Rattle.jr_model.proofs.ListLemmas.{All-from_test, first_part}
use Rattle.jr_fields.specs.Fields.{fields_of, is_numeral, is_space, number_in}
use Rattle.jr_replay_traces.specs.Traces.{spaced}

-- digits and their value
pub digits_model : IsNumeralModel (λ ds. list_all is_ascii_digit ds ≡ true) (digits_value 10)
digits_model = numerals_by_value (λ ds. list_all is_ascii_digit ds ≡ true) (search rules)

-- no zero leads a number in decimal
no_leading_zero : (n : ℕ) → n < 2 ^ 64 → (length (decimal n) == 1 || not (slice_index (decimal n) 0 == 48)) ≡ true
no_leading_zero n small =
    elim (cases_lt n 10) [
      | inl digit ↦ or_left (length (decimal n) == 1) _ (ap (λ (ds : List ℕ). length ds == 1) (decimal_digit n digit))
      | inr more ↦
          let first = first_decimal n (omega arith) small in
          or_right (length (decimal n) == 1) _ (above (slice_index (decimal n) 0) first)
    ]
  where
    above : (b : ℕ) → 48 < b → not (b == 48) ≡ true
    above b h = grind (arith, nat_tests)

pub number_read : (n : ℕ) → n < 2 ^ 64 → number_in (decimal n) ≡ Some n
number_read n small =
    let value = digits_value-decimal digits_model n small in
    let numeral : is_numeral (decimal n) ≡ true =
    and_from (nat_lt 0 (length (decimal n)) && list_all is_ascii_digit (decimal n)) _
    (and_from (nat_lt 0 (length (decimal n))) _ (lt-ltb 0 (length (decimal n)) (decimal_nonempty n small)) (digits_decimal digits_model n small))
    (no_leading_zero n small) in
    let fits : nat_lt (digits_value 10 (decimal n)) (2 ^ 64) ≡ true = lt-ltb (digits_value 10 (decimal n)) (2 ^ 64) (omega (arith, value, small)) in
    ap (λ (b : Bool). cond b (Some (digits_value 10 (decimal n))) None) (and_from (is_numeral (decimal n)) _ numeral fits)
    ∙ ap Some value

-- digits are no spaces and no line feeds
digit_else : (c b : ℕ) → c < 48 → is_ascii_digit b ≡ true → (b == c) ≡ false
digit_else c b low h = grind (arith, nat_tests)

pub decimal_else : (c n : ℕ) → c < 48 → n < 2 ^ 64 → All (λ b. (b == c) ≡ false) (decimal n)
decimal_else c n low small k d l = digit_else c (get_or (decimal n) k d) low (All-from_test is_ascii_digit (decimal n) (digits_decimal digits_model n small) k d l)

-- one field more
fields_push : (text field : List ℕ) → All (λ b. is_space b ≡ false) field → fields_of (text ++ 32 ∷ field) ≡ fields_of text ++ field ∷ []
fields_push [] field plain = ap (λ (parts : List (List ℕ)). [] ∷ parts) (slice_split_none is_space field plain)
fields_push (x ∷ text) field plain =
    ap (λ (parts : List (List ℕ)). cond (is_space x) ([] ∷ parts) (onto_first x parts)) (fields_push text field plain)
    ∙ onto (is_space x) (fields_of text) (first_part is_space text)
  where
    onto : (b : Bool) (parts : List (List ℕ)) → (part : List ℕ) × (more : List (List ℕ)) × (parts ≡ part ∷ more) → cond b ([] ∷ (parts ++ field ∷ [])) (onto_first x (parts ++ field ∷ [])) ≡ cond b ([] ∷ parts) (onto_first x parts) ++ field ∷ []
    onto b parts cut =
        let P : List (List ℕ) → Type 0 = λ q. cond b ([] ∷ (q ++ field ∷ [])) (onto_first x (q ++ field ∷ [])) ≡ cond b ([] ∷ q) (onto_first x q) ++ field ∷ [] in
        subst P (sym cut.2) (both b cut.0 cut.1)
      where
        both : (b : Bool) (part : List ℕ) (more : List (List ℕ)) → cond b ([] ∷ ((part ∷ more) ++ field ∷ [])) (onto_first x ((part ∷ more) ++ field ∷ [])) ≡ cond b ([] ∷ part ∷ more) (onto_first x (part ∷ more)) ++ field ∷ []
        both true part more = refl
        both false part more = refl

-- one number more
pub number_more : (text : List ℕ) (parts : List (List ℕ)) (n : ℕ) → n < 2 ^ 64 → fields_of text ≡ parts → fields_of (text ++ spaced n) ≡ parts ++ decimal n ∷ []
number_more text parts n small so =
    fields_push text (decimal n) (decimal_else 32 n (lit< tt) small) ∙ ap (λ (q : List (List ℕ)). q ++ decimal n ∷ []) so

-- one word more
pub word_more : (text : List ℕ) (parts : List (List ℕ)) (word : List ℕ) → list_all (λ b. not (is_space b)) word ≡ true → fields_of text ≡ parts → fields_of (text ++ 32 ∷ word) ≡ parts ++ word ∷ []
word_more text parts word plain so =
    fields_push text word (λ k d l. not_true (is_space (get_or word k d)) (All-from_test (λ b. not (is_space b)) word plain k d l))
    ∙ ap (λ (q : List (List ℕ)). q ++ word ∷ []) so
  where
    not_true : (b : Bool) → not b ≡ true → b ≡ false
    not_true true h = cc
    not_true false h = refl
