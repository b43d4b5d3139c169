-- A text that grows by one part after another.
use Rattle.std.proofs.Common.{◌≡◌, ℕ, List, ◌++◌, append_assoc, ap, ◌∙◌}
use Rattle.jr_diagnosis.specs.Texts.{number_text}

pub two_more : (before a b one two : List ℕ) → one ≡ before ++ a → two ≡ one ++ b → two ≡ before ++ (a ++ b)
two_more before a b one two first second = second ∙ ap (λ (t : List ℕ). t ++ b) first ∙ append_assoc before a b

pub three_more : (before a b c one two three : List ℕ) → one ≡ before ++ a → two ≡ one ++ b → three ≡ two ++ c
    → three ≡ before ++ ((a ++ b) ++ c)
three_more before a b c one two three first second third =
    two_more before (a ++ b) c two three (two_more before a b one two first second) third

-- a number was added, which is this one
pub number_more : (word before after : List ℕ) (n m : ℕ) → n ≡ m → after ≡ before ++ number_text word n → after ≡ before ++ number_text word m
number_more word before after n m same is = is ∙ ap (λ (k : ℕ). before ++ number_text word k) same
