-- No byte of an escaped text is markup.
use Rattle.std.proofs.Common.{◌≡◌, ℕ, zero, suc, ◌+◌, ◌/◌, ◌%◌, ◌<◌, ◌≤◌, Bool, true, false, cond, List, [], ◌∷◌, ◌++◌, codes, refl, ap, ◌∙◌, arith, inl, inr}
use Rattle.std.specs.Prelude.{◌==◌, ◌||◌, nat_lt, flat_map}
use Rattle.std.specs.List.{list_any}
use Rattle.std.specs.Char.{encode_utf8}
use Rattle.std.specs.Fmt.{digit_glyph, digits, digits_onto}
use Rattle.std.proofs.lemmas.Bool.{cases_lt, cond_both, ltb-true, or_from}
use Rattle.std.proofs.lemmas.Bool.Decides.{nat_tests}
use Rattle.std.proofs.lemmas.List.Folds.{list_any-append}
use Rattle.std.proofs.lemmas.Str.{encode_ascii}
use Rattle.jr_escape.specs.Escapes.{escaped_char as shown_char, is_hidden}
use Rattle.jr_report_page.specs.Escapes.{escaped_char}
use Rattle.jr_report_page.specs.Raw.{is_markup}

-- of four tests none is passed
none_of : (a b c d : Bool) → a ≡ false → b ≡ false → c ≡ false → d ≡ false → (a || b || c || d) ≡ false
none_of a b c d no_a no_b no_c no_d =
    ap (λ (x : Bool). x || b || c || d) no_a
    ∙ ap (λ (x : Bool). false || x || c || d) no_b
    ∙ ap (λ (x : Bool). false || false || x || d) no_c
    ∙ ap (λ (x : Bool). false || false || false || x) no_d

high : (byte : ℕ) → 64 ≤ byte → is_markup byte ≡ false
high byte above = grind (arith, nat_tests)

abbrev AreClean : List ℕ → Type 0
AreClean bytes = list_any is_markup bytes ≡ false

clean_cons : (byte : ℕ) (bytes : List ℕ) → is_markup byte ≡ false → AreClean bytes → AreClean (byte ∷ bytes)
clean_cons byte bytes first rest = ap (λ (b : Bool). b || list_any is_markup bytes) first ∙ rest

-- either way
clean_if : (test : Bool) (a b : List ℕ) → (test ≡ true → AreClean a) → (test ≡ false → AreClean b) → AreClean (cond test a b)
clean_if test a b so other = by test refl
  where
    by : (t : Bool) → test ≡ t → AreClean (cond t a b)
    by true is = so is
    by false is = other is

-- bytes behind a character's first
one_behind : (a : ℕ) → AreClean ((128 + a % 64) ∷ [])
one_behind a = clean_cons (128 + a % 64) [] (high (128 + a % 64) (omega arith)) refl

two_behind : (a b : ℕ) → AreClean ((128 + a % 64) ∷ (128 + b % 64) ∷ [])
two_behind a b = clean_cons (128 + a % 64) ((128 + b % 64) ∷ []) (high (128 + a % 64) (omega arith)) (one_behind b)

three_behind : (a b c : ℕ) → AreClean ((128 + a % 64) ∷ (128 + b % 64) ∷ (128 + c % 64) ∷ [])
three_behind a b c =
    clean_cons (128 + a % 64) ((128 + b % 64) ∷ (128 + c % 64) ∷ []) (high (128 + a % 64) (omega arith)) (two_behind b c)

-- all bytes of a character that isn't ASCII are high
wide : (c : ℕ) → 128 ≤ c → AreClean (encode_utf8 c)
unfolding encode_utf8
wide c above = clean_if (nat_lt c 128) _ _
    (λ small. let low : c < 128 = ltb-true c 128 small in absurd (omega (arith, low)))
    (λ _. clean_if (nat_lt c 2048) _ _
    (λ _. clean_cons (192 + c / 64) ((128 + c % 64) ∷ []) (high (192 + c / 64) (omega arith)) (one_behind c))
    (λ _. clean_if (nat_lt c 65536) _ _
    (λ _. clean_cons (224 + c / 4096) ((128 + c / 64 % 64) ∷ (128 + c % 64) ∷ []) (high (224 + c / 4096) (omega arith)) (two_behind (c / 64) c))
    (λ _. clean_cons (240 + c / 262144) ((128 + c / 4096 % 64) ∷ (128 + c / 64 % 64) ∷ (128 + c % 64) ∷ []) (high (240 + c / 262144) (omega arith))
    (three_behind (c / 4096) (c / 64) c))))

encoded : (c : ℕ) → is_markup c ≡ false → AreClean (encode_utf8 c)
encoded c plain = elim (cases_lt c 128) [
  | inl small ↦ ap (list_any is_markup) (encode_ascii c small) ∙ clean_cons c [] plain refl
  | inr above ↦ wide c above
]

-- the digits of a number
glyph_clean : (d : ℕ) → d < 16 → is_markup (digit_glyph false d) ≡ false
glyph_clean d small =
    cond_both (nat_lt d 10) (48 + d) (87 + d) (λ (b : ℕ). is_markup b ≡ false)
    (λ t. let low = ltb-true d 10 t in grind (arith, nat_tests))
    (λ _. high (87 + d) (omega arith))

digits_clean : (k n : ℕ) (acc : List ℕ) → AreClean acc → AreClean (digits_onto k 16 false n acc)
digits_clean zero n acc clean = clean
digits_clean (suc k) n acc clean =
    let more = clean_cons (digit_glyph false (n % 16)) acc (glyph_clean (n % 16) (omega arith)) clean in
    clean_if (n / 16 == 0) _ _ (λ _. more) (λ _. digits_clean k (n / 16) (digit_glyph false (n % 16) ∷ acc) more)

clean_append : (a b : List ℕ) → AreClean a → AreClean b → AreClean (a ++ b)
clean_append a b first rest = list_any-append is_markup a b ∙ or_from (list_any is_markup a) (list_any is_markup b) first rest

number_clean : (c : ℕ) → AreClean (codes "\\u{" ++ digits 16 false c ++ codes "}")
unfolding digits
number_clean c =
    clean_append (codes "\\u{") (digits 16 false c ++ codes "}") refl
    (clean_append (digits 16 false c) (codes "}") (digits_clean 64 c [] refl) refl)

shown_clean : (c : ℕ) → is_markup c ≡ false → AreClean (shown_char c)
shown_clean c plain =
    clean_if (c == 10) _ _ (λ _. refl)
    (λ _. clean_if (c == 13) _ _ (λ _. refl)
    (λ _. clean_if (c == 9) _ _ (λ _. refl)
    (λ _. clean_if (c == 92) _ _ (λ _. refl)
    (λ _. clean_if (is_hidden c) _ _ (λ _. number_clean c)
    (λ _. encoded c plain)))))

char_clean : (c : ℕ) → AreClean (escaped_char c)
char_clean c =
    clean_if (c == 38) _ _ (λ _. refl)
    (λ _. clean_if (c == 60) _ _ (λ _. refl)
    (λ no_lt. clean_if (c == 62) _ _ (λ _. refl)
    (λ no_gt. clean_if (c == 34) _ _ (λ _. refl)
    (λ no_quote. clean_if (c == 39) _ _ (λ _. refl)
    (λ no_tick. shown_clean c (none_of (c == 60) (c == 62) (c == 34) (c == 39) no_lt no_gt no_quote no_tick))))))

pub text_clean : (text : List ℕ) → list_any is_markup (flat_map escaped_char text) ≡ false
text_clean [] = refl
text_clean (c ∷ text) =
    list_any-append is_markup (escaped_char c) (flat_map escaped_char text)
    ∙ ap (λ (b : Bool). b || list_any is_markup (flat_map escaped_char text)) (char_clean c)
    ∙ text_clean text
