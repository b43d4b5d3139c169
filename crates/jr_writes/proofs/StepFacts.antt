-- Two steps of a table of values, one after the other.
use Rattle.std.proofs.Common.{◌≡◌, Bool, true, false, cond, Option, Some, None, refl, ap, ◌∙◌}

-- one taken out after another was put in its place
pub gone_after : {K T : Type 0} (test : K → Bool) (first second last : K → Option T) (x : T) → ((k : K) → second k ≡ cond (test k) (Some x) (first k)) → ((k : K) → last k ≡ cond (test k) None (second k)) → (k : K) → last k ≡ cond (test k) None (first k)
gone_after test first second last x put out k = out k ∙ ap (λ (o : Option _). cond (test k) None o) (put k) ∙ by (test k)
  where
    by : (b : Bool) → cond b None (cond b (Some x) (first k)) ≡ cond b None (first k)
    by true = refl
    by false = refl
