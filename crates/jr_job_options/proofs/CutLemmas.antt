-- Where a text is cut at its commas, and read by pairs of digits.
use Rattle.std.proofs.Common.{◌≡◌, ℕ, zero, suc, ◌+◌, ◌<◌, ◌≤◌, List, [], ◌∷◌, length, slice_index_or, Option, Some, None, MatchOption, Bor, ap, ◌∙◌, sym, refl, arith, lit<, ◌++◌, drop, append_assoc}
use Rattle.std.specs.List.{slice_split, after_first}
use Rattle.std.proofs.lemmas.Bool.{ne_eqb}
use Rattle.std.proofs.lemmas.List.{at_drop_more}
use Rattle.std.proofs.lemmas.List.Splits.{slice_split_none, slice_split_first, length-slice_split}
use Rattle.std.proofs.lemmas.Str.Pattern.{IsSplitOnceResult, split_parts, split_once_first}
use Rattle.jr_job_options.specs.OptionValues.{is_comma, by_direction, with_bytes, and_byte, hex_byte, hex_pairs}

-- an element within a list, whatever stands for one past it
pub same_default : (xs : List ℕ) (i : ℕ) (d e : ℕ) → i < length xs → slice_index_or xs i d ≡ slice_index_or xs i e
same_default [] i d e within = absurd (omega arith)
same_default (x ∷ xs) zero d e within = refl
same_default (x ∷ xs) (suc i) d e within = same_default xs i d e (omega arith)

-- the parts before and behind the first comma
pub cut_is : (text : List ℕ) (r : Option (Bor (List ℕ) × Bor (List ℕ))) → IsSplitOnceResult 44 text r → MatchOption r (slice_split is_comma text ≡ text ∷ []) (λ p. slice_split is_comma text ≡ p.0.now ∷ slice_split is_comma p.1.now)
cut_is text None h =
    let none = split_parts 44 text None h (lit< tt) in
    slice_split_none is_comma text (λ k d within. ne_eqb (slice_index_or text k d) 44 (λ e. none k within (same_default text k 0 d within ∙ e)))
cut_is text (Some x) h =
    let parts = split_once_first 44 text (Some x) h (lit< tt) in
    slice_split_first is_comma text 0 parts.0
    ∙ ap (λ b. b ∷ slice_split is_comma (after_first is_comma text)) (sym parts.1)
    ∙ ap (λ a. x.0.now ∷ slice_split is_comma a) (sym parts.2)

-- four values are too many
too_many : (a b c : List ℕ) (parts : List (List ℕ)) → 1 ≤ length parts → by_direction (a ∷ b ∷ c ∷ parts) ≡ None
too_many a b c [] some = absurd (omega arith)
too_many a b c (d ∷ more) some = refl

pub four_values : (text a rest b trims c more : List ℕ) → slice_split is_comma text ≡ a ∷ slice_split is_comma rest → slice_split is_comma rest ≡ b ∷ slice_split is_comma trims → slice_split is_comma trims ≡ c ∷ slice_split is_comma more → by_direction (slice_split is_comma text) ≡ None
four_values text a rest b trims c more e1 e2 e3 =
    let parts = e1 ∙ ap (λ t. a ∷ t) (e2 ∙ ap (λ t. b ∷ t) e3) in
    ap by_direction parts ∙ too_many a b c (slice_split is_comma more) (omega (arith, length-slice_split is_comma more))

moved : (front : List ℕ) (v : ℕ) (rest : Option (List ℕ)) → with_bytes front (and_byte (Some v) rest) ≡ with_bytes (front ++ v ∷ []) rest
moved front v None = refl
moved front v (Some rest) = ap Some (sym (append_assoc front (v ∷ []) rest))

pub at_pair : (front digits : List ℕ) (n a b : ℕ) → n + 1 < length digits → a ≡ slice_index_or digits n a → b ≡ slice_index_or digits (n + 1) b → with_bytes front (hex_pairs (drop n digits)) ≡ with_bytes front (and_byte (hex_byte a b) (hex_pairs (drop (n + 1 + 1) digits)))
at_pair front digits n a b within here next =
    at_drop_more (λ rest. with_bytes front (hex_pairs rest)) digits n a (omega arith)
    ∙ ap (λ x. with_bytes front (hex_pairs (x ∷ drop (n + 1) digits))) (sym here)
    ∙ at_drop_more (λ rest. with_bytes front (hex_pairs (a ∷ rest))) digits (n + 1) b within
    ∙ ap (λ x. with_bytes front (and_byte (hex_byte a x) (hex_pairs (drop (n + 1 + 1) digits)))) (sym next)

pub pair_next : (front digits : List ℕ) (n a b v : ℕ) → n + 1 < length digits → a ≡ slice_index_or digits n a → b ≡ slice_index_or digits (n + 1) b → hex_byte a b ≡ Some v → with_bytes front (hex_pairs (drop n digits)) ≡ with_bytes (front ++ v ∷ []) (hex_pairs (drop (n + 1 + 1) digits))
pair_next front digits n a b v within here next is =
    at_pair front digits n a b within here next
    ∙ ap (λ x. with_bytes front (and_byte x (hex_pairs (drop (n + 1 + 1) digits)))) is
    ∙ moved front v (hex_pairs (drop (n + 1 + 1) digits))
