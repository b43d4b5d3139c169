-- What the characters of an escaped text are.
use Rattle.std.proofs.Common.{◌≡◌, ℕ, zero, suc, ◌+◌, ◌/◌, ◌%◌, ◌<◌, ◌≤◌, true, false, List, [], ◌∷◌, ◌++◌, refl, sym, ap, ◌∙◌, arith, append-nil, codes}
use Rattle.std.specs.Prelude.{◌==◌, nat_lt, chars, flat_map, slice_index}
use Rattle.std.specs.Char.{encode_utf8}
use Rattle.std.specs.Fmt.{digit_glyph, digits, digits_onto}
use Rattle.std.specs.List.{list_any}
use Rattle.std.specs.Str.{encode_utf8_all, IsUtf8}
use Rattle.std.proofs.lemmas.Bool.{and_parts, cond-false, cond_both, eqb-true, false_from_ne_true, ltb-true, or_from, or_parts}
use Rattle.std.proofs.lemmas.Bool.Decides.{nat_tests}
use Rattle.std.proofs.lemmas.List.Folds.{list_any-append}
use Rattle.std.proofs.lemmas.Str.{chars-append, chars-IsAscii, chars-nil, chars_past_char, encodes-chars, IsUtf8-encode, IsUtf8-from_ascii, scalars-chars}
use Rattle.std.proofs.lemmas.Str.Ascii.{IsAscii-cons, IsAscii-nil}
use lib.Utf8.{scalar, scalars}
use Rattle.jr_escape.specs.Escapes.{escaped_char, is_hidden}
use Rattle.jr_escape.specs.Laws.{is_changed, ShownHidesNothing, PlainStays}

-- a printed character of ASCII
record IsPrinted (b : ℕ) : Type 0 where
  least : 32 ≤ b
  most : b ≤ 126

printed_shows : (b : ℕ) → IsPrinted b → is_hidden b ≡ false
printed_shows b p = let low = p.least in let high = p.most in grind (arith, nat_tests)

-- all of them are such
abbrev AllPrinted : List ℕ → Type 0
AllPrinted [] = Unit {0}
AllPrinted (b ∷ bs) = IsPrinted b × AllPrinted bs

printed_append : (xs ys : List ℕ) → AllPrinted xs → AllPrinted ys → AllPrinted (xs ++ ys)
printed_append [] ys p q = q
printed_append (x ∷ xs) ys p q = (p.0, printed_append xs ys p.1 q)

printed_ascii : (bs : List ℕ) → AllPrinted bs → (i : ℕ) → slice_index bs i < 128
printed_ascii [] p = IsAscii-nil
printed_ascii (b ∷ bs) p = IsAscii-cons b bs (let high = p.0.most in omega arith) (printed_ascii bs p.1)

printed_none : (bs : List ℕ) → AllPrinted bs → list_any is_hidden bs ≡ false
printed_none [] p = refl
printed_none (b ∷ bs) p = or_from (is_hidden b) (list_any is_hidden bs) (printed_shows b p.0) (printed_none bs p.1)

-- what a character comes out as: a text, of which no character is hidden
pub record IsShown (bs : List ℕ) : Type 0 where
  pub is_text : IsUtf8 bs
  pub none : list_any is_hidden (chars bs) ≡ false

printed_shown : (bs : List ℕ) → AllPrinted bs → IsShown bs
printed_shown bs p = record {
  is_text = IsUtf8-from_ascii bs (printed_ascii bs p);
  none = ap (list_any is_hidden) (chars-IsAscii bs (printed_ascii bs p)) ∙ printed_none bs p;
}

-- the digits of a number
glyph_printed : (d : ℕ) → d < 16 → IsPrinted (digit_glyph false d)
glyph_printed d small =
    cond_both (nat_lt d 10) (48 + d) (87 + d) IsPrinted
    (λ t. let low = ltb-true d 10 t in record { least = omega arith; most = omega (arith, low) })
    (λ f. record { least = omega arith; most = omega (arith, small) })

digits_printed : (k n : ℕ) (acc : List ℕ) → AllPrinted acc → AllPrinted (digits_onto k 16 false n acc)
digits_printed zero n acc p = p
digits_printed (suc k) n acc p =
    let one = glyph_printed (n % 16) (omega arith) in
    cond_both (n / 16 == 0) (digit_glyph false (n % 16) ∷ acc) (digits_onto k 16 false (n / 16) (digit_glyph false (n % 16) ∷ acc)) AllPrinted
    (λ _. (one, p))
    (λ _. digits_printed k (n / 16) (digit_glyph false (n % 16) ∷ acc) (one, p))

printed : (b : ℕ) → 32 ≤ b → b ≤ 126 → IsPrinted b
printed b low high = record { least = low; most = high }

number_printed : (c : ℕ) → AllPrinted (codes "\\u{" ++ digits 16 false c ++ codes "}")
unfolding digits
number_printed c =
    printed_append (codes "\\u{") (digits 16 false c ++ codes "}")
    (printed 92 (omega arith) (omega arith), (printed 117 (omega arith) (omega arith), (printed 123 (omega arith) (omega arith), tt)))
    (printed_append (digits 16 false c) (codes "}") (digits_printed 64 c [] tt) (printed 125 (omega arith) (omega arith), tt))

letter_shown : (b : ℕ) → 32 ≤ b → b ≤ 126 → IsShown (92 ∷ b ∷ [])
letter_shown b low high = printed_shown (92 ∷ b ∷ []) (printed 92 (omega arith) (omega arith), (printed b low high, tt))

one_char : (c : ℕ) → scalar c ≡ true → chars (encode_utf8 c) ≡ c ∷ []
one_char c s =
    chars_past_char (encode_utf8 c) [] c (IsUtf8-encode c s) (sym (append-nil (encode_utf8 c))) ∙ ap (λ (t : List ℕ). c ∷ t) chars-nil

itself_shown : (c : ℕ) → scalar c ≡ true → is_hidden c ≡ false → IsShown (encode_utf8 c)
itself_shown c s plain = record {
  is_text = IsUtf8-encode c s;
  none = ap (list_any is_hidden) (one_char c s) ∙ or_from (is_hidden c) false plain refl;
}

pub char_shown : (c : ℕ) → scalar c ≡ true → IsShown (escaped_char c)
char_shown c s =
    cond_both (c == 10) _ _ IsShown (λ _. letter_shown 110 (omega arith) (omega arith))
    (λ _. cond_both (c == 13) _ _ IsShown (λ _. letter_shown 114 (omega arith) (omega arith))
    (λ _. cond_both (c == 9) _ _ IsShown (λ _. letter_shown 116 (omega arith) (omega arith))
    (λ _. cond_both (c == 92) _ _ IsShown (λ _. letter_shown 92 (omega arith) (omega arith))
    (λ _. cond_both (is_hidden c) _ _ IsShown (λ _. printed_shown _ (number_printed c))
    (λ plain. itself_shown c s plain)))))

-- of a text, where each character comes out so
pub all_shown : (text_of : ℕ → List ℕ) → ((c : ℕ) → scalar c ≡ true → IsShown (text_of c)) → (cs : List ℕ) → scalars cs ≡ true
    → list_any is_hidden (chars (flat_map text_of cs)) ≡ false
all_shown text_of each [] s = ap (list_any is_hidden) chars-nil
all_shown text_of each (c ∷ cs) s =
    let parts = and_parts (scalar c) (scalars cs) s in
    let first = each c parts.0 in
    ap (list_any is_hidden) (chars-append (text_of c) (flat_map text_of cs) first.is_text)
    ∙ list_any-append is_hidden (chars (text_of c)) (chars (flat_map text_of cs))
    ∙ or_from _ _ first.none (all_shown text_of each cs parts.1)

pub nothing_hidden : ShownHidesNothing
nothing_hidden text is_text = all_shown escaped_char char_shown (chars text) (scalars-chars text is_text)

-- a character that isn't changed is none of these
other : (c d : ℕ) → is_changed c ≡ false → is_changed d ≡ true → (c == d) ≡ false
other c d plain changed = false_from_ne_true (c == d) (λ same. let e = eqb-true c d same in let bad : is_changed d ≡ false = ap is_changed (sym e) ∙ plain in cc)

char_same : (c : ℕ) → is_changed c ≡ false → escaped_char c ≡ encode_utf8 c
char_same c plain =
    cond-false (c == 10) _ _ (other c 10 plain refl)
    ∙ cond-false (c == 13) _ _ (other c 13 plain refl)
    ∙ cond-false (c == 9) _ _ (other c 9 plain refl)
    ∙ cond-false (c == 92) _ _ (other c 92 plain refl)
    ∙ cond-false (is_hidden c) _ _ (or_parts (c == 92) (is_hidden c) plain).1

all_same : (cs : List ℕ) → list_any is_changed cs ≡ false → flat_map escaped_char cs ≡ encode_utf8_all cs
all_same [] plain = refl
all_same (c ∷ cs) plain =
    let parts = or_parts (is_changed c) (list_any is_changed cs) plain in
    ap (λ (t : List ℕ). t ++ flat_map escaped_char cs) (char_same c parts.0)
    ∙ ap (λ (t : List ℕ). encode_utf8 c ++ t) (all_same cs parts.1)

pub plain_same : PlainStays
plain_same text is_text plain = all_same (chars text) plain ∙ encodes-chars text is_text
