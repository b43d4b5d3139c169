-- The text of a result by another way to say its bytes.
use Rattle.std.proofs.Common.{◌≡◌, ℕ, List, Result, Ok, Err, IfOk, ◌∙◌}

pub ok_same : {T E : Type 0} (bytes : T → List ℕ) (result : Result T E) (said wanted : List ℕ) → said ≡ wanted
    → IfOk result (λ text. bytes text ≡ said) → IfOk result (λ text. bytes text ≡ wanted)
ok_same bytes (Ok text) said wanted same is = is ∙ same
ok_same bytes (Err error) said wanted same is = is
