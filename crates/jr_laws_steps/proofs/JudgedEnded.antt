-- A check that has its verdict ended whole, and what flies has none.
use Rattle.std.proofs.Common.{◌≡◌, ℕ, List, [], ◌∷◌, ◌++◌, true, false, ◌||◌, sym, ◌∙◌, ap, subst, inl, inr}
use Rattle.std.specs.Prelude.{Option, Some, None, ◌==◌}
use Rattle.std.specs.Option.{option_or}
use Rattle.std.proofs.lemmas.Bool.{eqb-true, or_cases, cases_Bool}
use Rattle.jr_model.specs.declared.events.Event.{Event}
use Rattle.jr_model.specs.declared.events.Event.TheVariants.{Issue, Probe, Skip, End, Verdict}
use Rattle.jr_model.specs.declared.events.Outcome.{Outcome}
use Rattle.jr_model.specs.declared.events.Outcome.TheVariants.{Whole}
use Rattle.jr_model.specs.History.{end_of, outcome_of, is_verdict_on, is_judged}
use Rattle.jr_model.specs.Legal.{is_legal, may_happen}
use Rattle.jr_model.specs.Plan.{Plan}
use Rattle.jr_model.proofs.HistoryLemmas.{outcome_of-more, is_judged-more, by_events}
use Rattle.jr_laws_steps.proofs.Grown.{verdict_names}

-- a check that has its verdict ended whole
pub judged_ended : (plan : Plan) (history : List Event) (io : ℕ) → is_legal plan history ≡ true → is_judged history io ≡ true → outcome_of history io ≡ Some Whole
judged_ended plan history io legal judged =
    by_events plan (λ (h : List Event). is_judged h io ≡ true → outcome_of h io ≡ Some Whole) (λ (none : false ≡ true). absurd_of none)
    (λ h e so_far here may. grows h e here may) history legal judged
  where
    absurd_of : false ≡ true → None ≡ Some Whole
    absurd_of none = cc

    named : (id : ℕ) (h : List Event) → (id == io) ≡ true → outcome_of h id ≡ Some Whole → outcome_of h io ≡ Some Whole
    named id h same ended = subst (λ (n : ℕ). outcome_of h n ≡ Some Whole) (eqb-true id io same) ended

    by_event : (h : List Event) (e : Event) → may_happen plan h e ≡ true → is_verdict_on io e ≡ true → outcome_of h io ≡ Some Whole
    by_event h (Verdict worker id verdict) may this = named id h this (verdict_names plan h worker id verdict may).ended
    by_event h (Issue worker dir write piece) may this = cc
    by_event h (Probe worker write piece) may this = cc
    by_event h (Skip worker write) may this = cc
    by_event h (End worker id outcome) may this = cc

    before : (h : List Event) (e : Event) → (is_judged h io ≡ true → outcome_of h io ≡ Some Whole) → may_happen plan h e ≡ true → (is_judged h io || is_verdict_on io e) ≡ true → outcome_of h io ≡ Some Whole
    before h e here may either =
        elim (or_cases (is_judged h io) (is_verdict_on io e) either) [
          | inl was ↦ here was
          | inr this ↦ by_event h e may this
        ]

    grows : (h : List Event) (e : Event) → (is_judged h io ≡ true → outcome_of h io ≡ Some Whole) → may_happen plan h e ≡ true → is_judged (h ++ e ∷ []) io ≡ true → outcome_of (h ++ e ∷ []) io ≡ Some Whole
    grows h e here may now =
        outcome_of-more h e io
        ∙ ap (λ (o : Option Outcome). option_or o (end_of io e)) (before h e here may (sym (is_judged-more h e io) ∙ now))

-- what flies was not judged
pub flying_unjudged : (plan : Plan) (history : List Event) (io : ℕ) → is_legal plan history ≡ true → outcome_of history io ≡ None → is_judged history io ≡ false
flying_unjudged plan history io legal flies =
    elim (cases_Bool (is_judged history io)) [
      | inl judged ↦ let ended = judged_ended plan history io legal judged in let wrong : None ≡ Some Whole = sym flies ∙ ended in cc
      | inr unjudged ↦ unjudged
    ]
