-- What one line adds, case by case.
use Rattle.std.proofs.Common.{◌≡◌, ◌≢◌, ℕ, zero, suc, ◌-◌, ◌<◌, List, [], ◌∷◌, length, get_or, set, Bool, false, Ok, sym, ap, ◌∙◌, refl, arith}
use Rattle.std.proofs.lemmas.Bool.Decides.{nat_tests}
use Rattle.jr_text.specs.Records.{LineText, SectionText}
use Rattle.jr_text.specs.JobText.{is_opening, is_skipped, option_of}
use Rattle.jr_text.specs.Reading.{and_line, and_option, open_below, open_for_option, with_last_option, with_option}

-- a write to the last section
set_last : (xs : List SectionText) (n : ℕ) (s : SectionText) (o : LineText) → suc n ≡ length xs → s ≡ get_or xs n s → set xs n (with_option s o) ≡ with_last_option xs o
set_last [] n s o e h = absurd (omega arith)
set_last (x ∷ []) zero s o e h = ap (λ t. with_option t o ∷ []) h
set_last (x ∷ []) (suc n) s o e h = absurd (omega arith)
set_last (x ∷ y ∷ more) zero s o e h = absurd (omega arith)
set_last (x ∷ y ∷ more) (suc n) s o e h = ap (λ t. x ∷ t) (set_last (y ∷ more) n s o (omega arith) h)

-- an option where a section is open
option_added : (xs : List SectionText) (l : ℕ × List ℕ) → 0 < length xs → and_option xs l ≡ Ok (with_last_option xs (option_of l))
option_added [] l h = absurd (omega arith)
option_added (x ∷ xs) l h = refl

pub and_option_is : (xs : List SectionText) (l : ℕ × List ℕ) (n : ℕ) (s : SectionText) → 0 < n → n ≡ length xs → s ≡ get_or xs (n - 1) s → and_option xs l ≡ Ok (set xs (n - 1) (with_option s (option_of l)))
and_option_is xs l n s some e h =
    option_added xs l (omega arith) ∙ sym (ap Ok (set_last xs (n - 1) s (option_of l) (omega arith) h))

-- a line that begins with no bracket opens no section
pub is_opening_none : (content : List ℕ) → ((rest : List ℕ) → content ≢ 91 ∷ rest) → is_opening content ≡ false
is_opening_none [] h = refl
is_opening_none (b ∷ rest) h =
    let other : b ≢ 91 = λ e. h rest (ap (λ x. x ∷ rest) e) in
    grind (arith, nat_tests)

-- a line that neither is skipped nor opens a section sets an option
pub and_line_option : (found : List SectionText) (l : ℕ × List ℕ) → is_skipped l.1 ≡ false → is_opening l.1 ≡ false → and_line found l ≡ and_option found l
and_line_option found l said option = simp (said, option)

-- nor does it name a section
pub open_below_option : (is_open : Bool) (l : ℕ × List ℕ) → is_skipped l.1 ≡ false → is_opening l.1 ≡ false → open_below is_open l ≡ open_for_option is_open l.0
open_below_option is_open l said option = simp (said, option)
