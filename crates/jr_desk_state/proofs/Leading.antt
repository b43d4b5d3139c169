-- What a take appends, choice by choice.
use Rattle.std.proofs.Common.{◌≡◌, ℕ, List, [], ◌∷◌, ◌++◌, Bool, true, false, refl, sym, subst, append_assoc, append-nil}
use Rattle.std.specs.Prelude.{Option, Some, None}
use Rattle.std.specs.Bool.{MatchBool}
use Rattle.jr_model.specs.declared.events.Event.{Event}
use Rattle.jr_model.specs.declared.events.Started.{Started}
use Rattle.jr_model.specs.Choice.{choice}
use Rattle.jr_model.specs.History.{started_by}
use Rattle.jr_model.specs.Machine.{Appends, is_skip}
use Rattle.jr_model.specs.Plan.{Plan}
use Rattle.jr_desk_state.specs.Takes.{IsChosen, last_started}
use Rattle.jr_desk_state.proofs.Keeping.{last-skip}

-- only skips were appended so far: what a take appends from here on, it may append behind them
abbrev pub LeadsTo : Plan → ℕ → List Event → List Event → Type 0
LeadsTo plan worker before history =
    (rest : List Event) → Appends plan worker history rest → IsChosen plan worker before (history ++ rest) (last_started rest)

pub leads_on : (plan : Plan) (worker : ℕ) (before history : List Event) (e : Event) → LeadsTo plan worker before history → choice plan history worker ≡ Some e → is_skip e ≡ true → LeadsTo plan worker before (history ++ e ∷ [])
leads_on plan worker before history e leads chosen skip rest appends =
    subst (λ (all : List Event). IsChosen plan worker before all (last_started rest)) (sym (append_assoc history (e ∷ []) rest))
    (subst (λ (io : Option Started). IsChosen plan worker before (history ++ e ∷ rest) io) (last-skip e rest skip)
    (leads (e ∷ rest) (chosen, subst (λ (b : Bool). MatchBool b (Appends plan worker (history ++ e ∷ []) rest) (rest ≡ [])) (sym skip) appends)))

pub chosen_none : (plan : Plan) (worker : ℕ) (before history : List Event) → LeadsTo plan worker before history → choice plan history worker ≡ None → IsChosen plan worker before history None
chosen_none plan worker before history leads none =
    subst (λ (all : List Event). IsChosen plan worker before all None) (append-nil history) (leads [] none)

pub chosen_last : (plan : Plan) (worker : ℕ) (before history : List Event) (e : Event) → LeadsTo plan worker before history → choice plan history worker ≡ Some e → is_skip e ≡ false → IsChosen plan worker before (history ++ e ∷ []) (started_by e)
chosen_last plan worker before history e leads chosen started =
    let nothing : List Event = [] in
    let none_more : nothing ≡ nothing = refl in
    leads (e ∷ []) (chosen, subst (λ (b : Bool). MatchBool b (Appends plan worker (history ++ e ∷ []) nothing) (nothing ≡ nothing)) (sym started) none_more)
