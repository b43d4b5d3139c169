-- What stands behind the limit isn't read.
use Rattle.std.proofs.Common.{◌≡◌, ◌++◌, subst, ℕ, List, [], take, Option, Some, None, option_map}
use Rattle.std.specs.Prelude.{IfSome}
use Rattle.std.specs.Io.Take.{take_limit, take_inner, take_remaining}
use Rattle.std.specs.declared.io.Take.{Take}
use Rattle.jr_cli_words.proofs.inputs.read_text.Goals as goal

at_most : (limit : ℕ) (known : Option (List ℕ)) (text : List ℕ) → IfSome (option_map (take limit) known) (λ xs. text ≡ xs) → IfSome known (λ bytes. text ≡ take limit bytes)
at_most limit None text h = tt
at_most limit (Some bytes) text h = h

of_reader : {R : Type 0} (remaining : R → Option (List ℕ)) (t : Take R) (reader : R) (text before : List ℕ) → take_limit t ≡ 1048577 → take_inner t ≡ reader → before ≡ []
    → IfSome (take_remaining remaining t) (λ xs. text ≡ before ++ xs) → IfSome (remaining reader) (λ bytes. text ≡ take 1048577 bytes)
of_reader remaining t reader text before limit inner empty h =
    let at_limit = subst (λ (n : ℕ). IfSome (option_map (take n) (remaining t.inner)) (λ xs. text ≡ before ++ xs)) limit h in
    let at_reader = subst (λ r. IfSome (option_map (take 1048577) (remaining r)) (λ xs. text ≡ before ++ xs)) inner at_limit in
    at_most 1048577 (remaining reader) text (subst (λ (b : List ℕ). IfSome (option_map (take 1048577) (remaining reader)) (λ xs. text ≡ b ++ xs)) empty at_reader)

pub returns-in-Ok-clause-ok : goal.returns-in-Ok-clause-ok
returns-in-Ok-clause-ok g c =
    of_reader g.R.Read.remaining c.take.result c.args.reader _ c.new-text.result.items c.take.ensures.limit c.take.ensures.inner c.new-text.ensures.items c.in-Ok.ensures.bytes
