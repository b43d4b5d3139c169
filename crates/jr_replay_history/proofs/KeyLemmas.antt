-- What a look-up of a key gives after an insert.
use Rattle.std.proofs.Common.{◌≡◌, Bool, true, false, cond, refl, ap, ◌∙◌}
use Rattle.std.specs.Prelude.{◌||◌, nat_eq}
use Rattle.jr_model.specs.declared.events.WriteId.{WriteId}
use Rattle.jr_model.specs.History.{same_write}
use Rattle.jr_model.proofs.BoolLemmas.{and_group}
use Rattle.jr_replay_history.specs.Marks.{same_name}

-- a new key passes, or an old one does
cond_or : (new old : Bool) → cond new true old ≡ (old || new)
cond_or true true = refl
cond_or true false = refl
cond_or false true = refl
cond_or false false = refl

same_name_is : (a b : WriteId) → same_name a b ≡ same_write a b
same_name_is a b = and_group (nat_eq a.clone b.clone) (nat_eq a.pass b.pass) (nat_eq a.number b.number)

-- a write is found after an insert
pub found_more : (new old : Bool) (a b : WriteId) → new ≡ cond (same_name a b) true old → new ≡ (old || same_write a b)
found_more new old a b is = is ∙ cond_or (same_name a b) old ∙ ap (λ (x : Bool). old || x) (same_name_is a b)
