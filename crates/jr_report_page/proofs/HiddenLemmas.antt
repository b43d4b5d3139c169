-- No character of an escaped text is hidden.
use Rattle.std.proofs.Common.{◌≡◌, ◌<◌, ℕ, true, false, List, [], ◌∷◌, refl, codes, ap, ◌∙◌}
use Rattle.std.specs.Prelude.{◌==◌, chars, slice_index}
use Rattle.std.specs.Char.{is_ascii}
use Rattle.std.specs.List.{list_all, list_any}
use Rattle.std.proofs.lemmas.Bool.{and_parts, cond_both, ltb-true}
use Rattle.std.proofs.lemmas.Str.{chars-IsAscii, IsUtf8-from_ascii, scalars-chars}
use Rattle.std.proofs.lemmas.Str.Ascii.{IsAscii-cons, IsAscii-nil}
use lib.Utf8.{scalar}
use Rattle.jr_escape.specs.Escapes.{is_hidden}
use Rattle.jr_escape.proofs.ShownLemmas.{all_shown, char_shown as shown_is_shown, IsShown}
use Rattle.jr_report_page.specs.Escapes.{escaped_char}
use Rattle.jr_report_page.specs.Raw.{PageHidesNothing}

ascii : (bs : List ℕ) → list_all is_ascii bs ≡ true → (i : ℕ) → slice_index bs i < 128
ascii [] all = IsAscii-nil
ascii (b ∷ bs) all =
    let parts = and_parts (is_ascii b) (list_all is_ascii bs) all in
    IsAscii-cons b bs (ltb-true b 128 parts.0) (ascii bs parts.1)

-- a text that is written out
written : (bs : List ℕ) → list_all is_ascii bs ≡ true → list_any is_hidden bs ≡ false → IsShown bs
written bs all none = record {
  is_text = IsUtf8-from_ascii bs (ascii bs all);
  none = ap (list_any is_hidden) (chars-IsAscii bs (ascii bs all)) ∙ none;
}

char_shown : (c : ℕ) → scalar c ≡ true → IsShown (escaped_char c)
char_shown c s =
    cond_both (c == 38) _ _ IsShown (λ _. written (codes "&amp;") refl refl)
    (λ _. cond_both (c == 60) _ _ IsShown (λ _. written (codes "&lt;") refl refl)
    (λ _. cond_both (c == 62) _ _ IsShown (λ _. written (codes "&gt;") refl refl)
    (λ _. cond_both (c == 34) _ _ IsShown (λ _. written (codes "&quot;") refl refl)
    (λ _. cond_both (c == 39) _ _ IsShown (λ _. written (codes "&#39;") refl refl)
    (λ _. shown_is_shown c s)))))

pub nothing_hidden : PageHidesNothing
nothing_hidden text is_text = all_shown escaped_char char_shown (chars text) (scalars-chars text is_text)
