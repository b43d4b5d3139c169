-- The reader's pass over the lines, which adds one line after another.
use Rattle.std.proofs.Common.{◌≡◌, ℕ, ◌+◌, ◌<◌, ◌≤◌, List, [], ◌∷◌, length, get_or, drop, Result, Ok, Err, Bool, IsUtf8, ap, ◌∙◌, sym, arith}
use Rattle.std.specs.Str.{is_utf8}
use Rattle.std.proofs.lemmas.Bool.Decides.{nat_tests}
use Rattle.std.proofs.lemmas.Bool.{false_from_ne_true}
use Rattle.std.proofs.lemmas.List.{at_drop_more, at_drop_all}
use Rattle.std.proofs.lemmas.Str.{IsUtf8-from_is_utf8, is_utf8-from_IsUtf8}
use Rattle.jr_model.specs.declared.limits.TheConstants.{LONGEST_TEXT}
use Rattle.jr_text.specs.declared.faults.TextFault.{TextFault}
use Rattle.jr_text.specs.declared.faults.TextFault.TheVariants.{TooLong, NotUtf8, OpenBracket, EmptyName, Outside, Memory}
use Rattle.jr_text.specs.Records.{SectionText}
use Rattle.jr_text.specs.JobText.{content_of, lines_of, read_lines, sections_of}
use Rattle.jr_text.specs.Reading.{and_line, open_below, IsRefusal}

-- a step after an answer that is no fault
abbrev pub after : {A B : Type 0} → Result A TextFault → (A → Result B TextFault) → Result B TextFault
after (Ok x) f = f x
after (Err fault) f = Err fault

-- a refusal is the refusal of all that follows
pub IsRefusal-after : {A B : Type 0} (e : TextFault) (r : Result A TextFault) (f : A → Result B TextFault) → IsRefusal e r → IsRefusal e (after r f)
IsRefusal-after TooLong r f h = ap (λ x. after x f) h
IsRefusal-after NotUtf8 r f h = ap (λ x. after x f) h
IsRefusal-after (OpenBracket line) r f h = ap (λ x. after x f) h
IsRefusal-after (EmptyName line) r f h = ap (λ x. after x f) h
IsRefusal-after (Outside line) r f h = ap (λ x. after x f) h
IsRefusal-after Memory r f h = tt

-- what the lines from this number on make of a state, one after another
abbrev pub pass_by : {S : Type 0} → (S → ℕ × List ℕ → Result S TextFault) → S → ℕ → List (List ℕ) → Result S TextFault
pass_by step found first [] = Ok found
pass_by step found first (line ∷ more) = after (step found (first, content_of line)) (λ next. pass_by step next (first + 1) more)

-- what they add to the sections found above them, and whether a section is open below them
abbrev pub pass : List SectionText → ℕ → List (List ℕ) → Result (List SectionText) TextFault
pass found first lines = pass_by and_line found first lines

abbrev pub check : Bool → ℕ → List (List ℕ) → Result Bool TextFault
check is_open first lines = pass_by open_below is_open first lines

-- the next line
pub pass_next : {S : Type 0} (step : S → ℕ × List ℕ → Result S TextFault) (found : S) (n : ℕ) (lines : List (List ℕ)) (line : List ℕ) → n < length lines → line ≡ get_or lines n line → pass_by step found (n + 1) (drop n lines) ≡ after (step found (n + 1, content_of line)) (λ next. pass_by step next (n + 1 + 1) (drop (n + 1) lines))
pass_next step found n lines line within here =
    at_drop_more (λ rest. pass_by step found (n + 1) rest) lines n line within
    ∙ sym (ap (λ x. after (step found (n + 1, content_of x)) (λ next. pass_by step next (n + 1 + 1) (drop (n + 1) lines))) here)

pub pass_more : {S : Type 0} (step : S → ℕ × List ℕ → Result S TextFault) (found next : S) (n : ℕ) (lines : List (List ℕ)) (line : List ℕ) → n < length lines → line ≡ get_or lines n line → step found (n + 1, content_of line) ≡ Ok next → pass_by step found (n + 1) (drop n lines) ≡ pass_by step next (n + 1 + 1) (drop (n + 1) lines)
pass_more step found next n lines line within here added =
    pass_next step found n lines line within here ∙ ap (λ r. after r (λ next. pass_by step next (n + 1 + 1) (drop (n + 1) lines))) added

pub pass_faulty : {S : Type 0} (step : S → ℕ × List ℕ → Result S TextFault) (e : TextFault) (found : S) (n : ℕ) (lines : List (List ℕ)) (line : List ℕ) → n < length lines → line ≡ get_or lines n line → step found (n + 1, content_of line) ≡ Err e → pass_by step found (n + 1) (drop n lines) ≡ Err e
pass_faulty step e found n lines line within here fault =
    pass_next step found n lines line within here ∙ ap (λ r. after r (λ next. pass_by step next (n + 1 + 1) (drop (n + 1) lines))) fault

pub pass_refused : (e : TextFault) (found : List SectionText) (n : ℕ) (lines : List (List ℕ)) (line : List ℕ) → n < length lines → line ≡ get_or lines n line → IsRefusal e (and_line found (n + 1, content_of line)) → IsRefusal e (pass found (n + 1) (drop n lines))
pass_refused e found n lines line within here refused =
    let next = pass_next and_line found n lines line within here in
    rw next (IsRefusal-after e (and_line found (n + 1, content_of line)) (λ next. pass next (n + 1 + 1) (drop (n + 1) lines)) refused)

-- no further line
pub pass_end : {S : Type 0} (step : S → ℕ × List ℕ → Result S TextFault) (found : S) (n : ℕ) (lines : List (List ℕ)) → length lines ≤ n → pass_by step found (n + 1) (drop n lines) ≡ Ok found
pass_end step found n lines past = at_drop_all (λ rest. pass_by step found (n + 1) rest) lines n past

-- what the length and UTF-8 say of a text
pub sections_of-too_long : (text : List ℕ) → LONGEST_TEXT < length text → sections_of text ≡ Err TooLong
unfolding sections_of
sections_of-too_long text long = grind (arith, nat_tests)

pub sections_of-lines : (text : List ℕ) → length text ≤ LONGEST_TEXT → IsUtf8 text → sections_of text ≡ read_lines (lines_of text)
unfolding sections_of
sections_of-lines text short utf8 =
    let test = is_utf8-from_IsUtf8 text utf8 in
    grind (arith, nat_tests)

pub sections_of-not_utf8 : (text : List ℕ) → length text ≤ LONGEST_TEXT → (IsUtf8 text → ⊥) → sections_of text ≡ Err NotUtf8
unfolding sections_of
sections_of-not_utf8 text short other =
    let test = false_from_ne_true (is_utf8 text) (λ e. other (IsUtf8-from_is_utf8 text e)) in
    grind (arith, nat_tests)
