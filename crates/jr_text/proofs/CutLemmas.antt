-- Where a line may be cut: beside a blank, a comment mark or its end, which all are single bytes of UTF-8.
use Rattle.std.proofs.Common.{◌≡◌, ◌≢◌, ℕ, zero, suc, ◌+◌, ◌-◌, ◌<◌, List, [], ◌∷◌, ◌++◌, length, reverse, get_or, take, true, not, Option, Some, None, MatchOption, unwrap_or, Bor, IsUtf8, sym, ap, subst, ◌∙◌, refl, add-one, inl, inr, arith}
use Rattle.std.specs.List.{prefix_len, suffix_len, position_or_len}
use Rattle.std.specs.Str.{IsCharBoundary}
use Rattle.std.specs.Str.Lines.{strip_carriage_return}
use Rattle.std.proofs.lemmas.Bool.{cases_lt}
use Rattle.std.proofs.lemmas.Bool.Decides.{nat_tests}
use Rattle.std.proofs.lemmas.List.{take_more, take_all, get_or-reverse, get_or_at, take_at, length_push}
use Rattle.std.proofs.lemmas.List.Sums.{prefix_len-le-length, prefix_len_passes, suffix_len-le-length, passes_at_first}
use Rattle.std.proofs.lemmas.Str.{IsCharBoundary-start, IsCharBoundary-end, IsCharBoundary-before_ascii, IsCharBoundary-after_ascii}
use Rattle.jr_text.specs.JobText.{is_blank, is_comment_mark}

-- blanks and comment marks are ASCII
blank_ascii : (b : ℕ) → is_blank b ≡ true → b < 128
blank_ascii b h = grind (arith, nat_tests)

mark_ascii : (b : ℕ) → is_comment_mark b ≡ true → b < 128
mark_ascii b h = grind (arith, nat_tests)

-- behind the blanks at the beginning
behind : (bs : List ℕ) (n : ℕ) → n ≡ prefix_len is_blank bs → IsUtf8 bs → IsCharBoundary bs n
behind bs zero e utf8 = IsCharBoundary-start bs utf8
behind bs (suc n) e utf8 =
    let long = prefix_len-le-length is_blank bs in
    let blank = prefix_len_passes is_blank bs n 0 (omega arith) in
    let cut = IsCharBoundary-after_ascii bs n utf8 (omega arith) (blank_ascii (get_or bs n 0) blank) in
    let P : ℕ → Type 0 = λ m. IsCharBoundary bs m in
    subst P (add-one n) cut

pub boundary_behind_blanks : (bs : List ℕ) → IsUtf8 bs → IsCharBoundary bs (prefix_len is_blank bs)
boundary_behind_blanks bs utf8 = behind bs (prefix_len is_blank bs) refl utf8

-- before the blanks at the end
before : (bs : List ℕ) (n : ℕ) → n ≡ suffix_len is_blank bs → IsCharBoundary bs (length bs - n)
before bs zero e =
    let P : ℕ → Type 0 = λ m. IsCharBoundary bs m in
    let whole : length bs ≡ length bs - 0 = omega arith in
    subst P whole (IsCharBoundary-end bs)
before bs (suc n) e =
    let long = suffix_len-le-length is_blank bs in
    let blank = prefix_len_passes is_blank (reverse bs) n 0 (omega arith) in
    let here = get_or-reverse bs n 0 (omega arith) in
    let place : length bs - 1 - n ≡ length bs - suc n = omega arith in
    IsCharBoundary-before_ascii bs (length bs - suc n) (omega arith) (blank_ascii (get_or bs (length bs - suc n) 0) (rw (← place, ← here) blank))

pub boundary_before_blanks : (bs : List ℕ) → IsCharBoundary bs (length bs - suffix_len is_blank bs)
boundary_before_blanks bs = before bs (suffix_len is_blank bs) refl

-- before the first comment mark, or at the end
pub boundary_at_mark : (bs : List ℕ) → IsCharBoundary bs (position_or_len is_comment_mark bs)
boundary_at_mark bs =
    elim (cases_lt (position_or_len is_comment_mark bs) (length bs)) [
      | inl within ↦ IsCharBoundary-before_ascii bs (position_or_len is_comment_mark bs) within (mark_ascii (get_or bs (position_or_len is_comment_mark bs) 0) (passes_at_first is_comment_mark bs 0 within))
      | inr past ↦
          let long = prefix_len-le-length (λ b. not (is_comment_mark b)) bs in
          let whole : position_or_len is_comment_mark bs ≡ length bs = omega arith in
          rw whole (IsCharBoundary-end bs)
    ]

-- a list that has an element ends in its last one
split_last : (bs : List ℕ) → get_or bs (length bs - 1) 0 ≡ 13 → bs ≡ take (length bs - 1) bs ++ 13 ∷ []
split_last [] e = absurd (omega arith)
split_last (x ∷ xs) e =
    let bs = x ∷ xs in
    let some : 0 < length bs = omega arith in
    let place : length bs ≡ length bs - 1 + 1 = omega arith in
    let whole : bs ≡ take (length bs - 1 + 1) bs = sym (take_all (length bs - 1 + 1) bs (omega arith)) in
    let front = take_more bs (length bs - 1) 0 (omega arith) in
    whole ∙ front ∙ ap (λ b. take (length bs - 1) bs ++ b ∷ []) e

-- a carriage return at the end is dropped, and nothing else
strip_yes : (bs : List ℕ) → get_or bs (length bs - 1) 0 ≡ 13 → strip_carriage_return bs ≡ take (length bs - 1) bs
strip_yes bs h = grind (arith, nat_tests)

strip_no : (bs : List ℕ) → get_or bs (length bs - 1) 0 ≢ 13 → strip_carriage_return bs ≡ bs
strip_no bs h = grind (arith, nat_tests)

strip_at_end : (front : List ℕ) → strip_carriage_return (front ++ 13 ∷ []) ≡ front
strip_at_end front =
    let size = length_push front 13 in
    let last : length front ≡ length (front ++ 13 ∷ []) - 1 = omega arith in
    strip_yes (front ++ 13 ∷ []) (get_or_at front 13 [] 0 (length (front ++ 13 ∷ []) - 1) last) ∙ take_at front (13 ∷ []) (length (front ++ 13 ∷ []) - 1) last

strip_none : (bs : List ℕ) → ((front : List ℕ) → bs ≢ front ++ 13 ∷ []) → strip_carriage_return bs ≡ bs
strip_none bs h = strip_no bs (λ e. h (take (length bs - 1) bs) (split_last bs e))

-- what `strip_suffix` and `unwrap_or` leave of a line
pub stripped : (bs : List ℕ) (r : Option (Bor (List ℕ))) (d : Bor (List ℕ)) → d.now ≡ bs → MatchOption r ((front : List ℕ) → bs ≢ front ++ 13 ∷ []) (λ x. bs ≡ x.now ++ 13 ∷ []) → strip_carriage_return bs ≡ (unwrap_or r d).now
stripped bs None d e h = strip_none bs h ∙ sym e
stripped bs (Some x) d e h = ap strip_carriage_return h ∙ strip_at_end x.now
