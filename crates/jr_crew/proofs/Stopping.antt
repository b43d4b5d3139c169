-- One stop after another.
use Rattle.std.proofs.Common.{◌≡◌, ℕ, zero, suc, ◌+◌, [], ◌∷◌, ◌++◌, replicate, refl, sym, ◌∙◌, ap, arith, append-nil}
use Rattle.jr_crew_channel.specs.declared.parcel.Parcel.TheVariants.{Stop}
use Rattle.jr_crew_channel.specs.declared.parcel.PassState.{PassState}
use Rattle.jr_crew_channel.specs.PassStates.{with_put}
use Rattle.jr_crew_threads.specs.Parts.{IsMore}
use Rattle.jr_crew_threads.proofs.PartLemmas.{more_on}

more_of : {X : Type 0} (x : X) (n : ℕ) → replicate n x ++ x ∷ [] ≡ replicate (n + 1) x
more_of x zero = refl
more_of x (suc n) =
    let same : suc n + 1 ≡ suc (n + 1) = omega arith in
    ap (λ xs. x ∷ xs) (more_of x n) ∙ ap (λ (k : ℕ). replicate k x) (sym same)

-- one stop was put
one_put : (old new : PassState) → new ≡ with_put old Stop → IsMore 0 (Stop ∷ []) [] old new
one_put old new same =
    let none : old.parts ≡ old.parts + 0 = omega arith in record {
      parts = ap (λ (v : PassState). v.parts) same ∙ none;
      of = ap (λ (v : PassState). v.of) same;
      put = ap (λ (v : PassState). v.put) same;
      taken = ap (λ (v : PassState). v.taken) same ∙ sym (append-nil old.taken);
    }

-- and so on
pub one_more_stop : (n : ℕ) (first old new : PassState) → IsMore 0 (replicate n Stop) [] first old → new ≡ with_put old Stop → IsMore 0 (replicate (n + 1) Stop) [] first new
one_more_stop n first old new before same =
    more_on 0 0 0 (replicate n Stop) [] (Stop ∷ []) [] (replicate (n + 1) Stop) [] first old new before (one_put old new same) refl (sym (more_of Stop n)) refl
