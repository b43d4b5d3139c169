-- The table of verdicts, as the history is walked.
use Rattle.std.proofs.Common.{◌≡◌, ℕ, zero, suc, List, [], ◌∷◌, ◌++◌, replicate, refl, sym, ◌∙◌, ap}
use Rattle.std.specs.Prelude.{Option, Some, None, slice_get}
use Rattle.std.specs.Option.{option_or}
use Rattle.jr_model.specs.declared.events.Event.{Event}
use Rattle.jr_model.specs.declared.events.Verdict.{Verdict as GivenVerdict}
use Rattle.jr_model.proofs.SerialLaws.{first_given-append}
use Rattle.jr_crew_books.specs.Accounts.{IsTableOf}
use Rattle.jr_crew_books.specs.Books.{verdict_by, verdict_in}

-- before anything happened there is no verdict
pub table_first : (n : ℕ) → IsTableOf (replicate n None) []
table_first zero io said at = cc
table_first (suc n) zero said at = cc
table_first (suc n) (suc io) said at = table_first n io said at

or_none : {X : Type 0} (o p : Option X) → option_or o (option_or p None) ≡ option_or o p
or_none (Some x) p = refl
or_none None (Some x) = refl
or_none None None = refl

-- what is noted at each event
abbrev pub IsNoted : List (Option GivenVerdict) → Event → List (Option GivenVerdict) → Type 0
IsNoted old event new =
    (io : ℕ) (said : Option GivenVerdict) → slice_get new io ≡ Some said
    → (before : Option GivenVerdict) × (slice_get old io ≡ Some before) × (said ≡ option_or before (verdict_by io event))

pub table_on : (old new : List (Option GivenVerdict)) (history : List Event) (event : Event) → IsTableOf old history → IsNoted old event new → IsTableOf new (history ++ event ∷ [])
table_on old new history event table noted io said at =
    let step = noted io said at in
    step.2
    ∙ ap (λ (o : Option GivenVerdict). option_or o (verdict_by io event)) (table io step.0 step.1)
    ∙ sym (or_none (verdict_in history io) (verdict_by io event))
    ∙ sym (first_given-append (verdict_by io) history (event ∷ []))
