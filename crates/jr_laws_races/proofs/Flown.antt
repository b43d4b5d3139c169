-- What is in flight after an event that starts something, and which I/O it is that passes a test.
use Rattle.std.proofs.Common.{◌≡◌, ℕ, suc, ◌+◌, ◌≤◌, List, [], ◌∷◌, ◌++◌, length, Bool, true, false, cond, refl, ◌∙◌, ap, subst, arith, inl, inr}
use Rattle.std.specs.Prelude.{◌⊎◌, Option, Some, None, slice_get, is_none, nat_lt, filter_map}
use Rattle.std.specs.List.{list_any, cons_option, enumerate_from}
use Rattle.std.proofs.lemmas.Bool.{and_parts, and_from, false≢true, lt-ltb, or_cases}
use Rattle.std.proofs.lemmas.Option.{slice_get_within, same_Some}
use Rattle.jr_model.specs.declared.events.Event.{Event}
use Rattle.jr_model.specs.declared.events.Outcome.{Outcome}
use Rattle.jr_model.specs.declared.events.Started.{Started}
use Rattle.jr_model.specs.History.{started, started_by, outcome_of, flies, if_flying, in_flight}
use Rattle.jr_model.specs.Legal.{is_legal}
use Rattle.jr_model.specs.Plan.{Plan}
use Rattle.jr_model.proofs.HistoryLemmas.{outcome_of-stays, start_ends_none}
use Rattle.jr_model.proofs.OptionLemmas.{none_by_test}
use Rattle.jr_laws_steps.proofs.Grown.{not_ended_yet}
use Rattle.jr_laws_steps.proofs.StartedLemmas.{started_next, started_stays}

-- an I/O that was started, hasn't ended and passes the test
pub record Passes (history : List Event) (test : Started → Bool) (n : ℕ) (ios : List Started) : Type 0 where
  pub place : ℕ
  pub io : Started
  pub at : slice_get ios place ≡ Some io
  pub unended : outcome_of history (n + place) ≡ None
  pub is : test io ≡ true

some_or_rest : (test : Started → Bool) (o : Option Started) (rest : List Started) → list_any test (cons_option o rest) ≡ true
    → ((s : Started) × (o ≡ Some s) × (test s ≡ true)) ⊎ (list_any test rest ≡ true)
some_or_rest test None rest h = inr h
some_or_rest test (Some s) rest h =
    elim (or_cases (test s) (list_any test rest) h) [
      | inl here ↦ inl (s, refl, here)
      | inr later ↦ inr later
    ]

flying_parts : (o : Option Outcome) (io s : Started) → cond (is_none o) (Some io) None ≡ Some s → (o ≡ None) × (io ≡ s)
flying_parts None io s h = (refl, same_Some io s h)
flying_parts (Some outcome) io s h = cc

passes_from : (history : List Event) (test : Started → Bool) (n : ℕ) (ios : List Started)
    → list_any test (filter_map (if_flying history) (enumerate_from n ios)) ≡ true
    → Passes history test n ios
passes_from history test n [] h = absurd (false≢true h)
passes_from history test n (io ∷ ios) h =
    elim (some_or_rest test (if_flying history (n, io)) (filter_map (if_flying history) (enumerate_from (n + 1) ios)) h) [
      | inl here ↦
          let parts = flying_parts (outcome_of history n) io here.0 here.1 in
          let same : n ≡ n + 0 = omega arith in
          record {
            place = 0;
            io = io;
            at = refl;
            unended = subst (λ (k : ℕ). outcome_of history k ≡ None) same parts.0;
            is = ap test parts.1 ∙ here.2;
          }
      | inr later ↦
          let one = passes_from history test (n + 1) ios later in
          let same : (n + 1) + one.place ≡ n + suc one.place = omega arith in
          record {
            place = suc one.place;
            io = one.io;
            at = one.at;
            unended = subst (λ (k : ℕ). outcome_of history k ≡ None) same one.unended;
            is = one.is;
          }
    ]

-- of what is in flight
pub passes : (history : List Event) (test : Started → Bool) → list_any test (in_flight history) ≡ true → Passes history test 0 (started history)
passes history test h = passes_from history test 0 (started history) h

-- what flew goes on, and what it starts flies
pub flies_on : (history : List Event) (e : Event) (new s : Started) (io : ℕ) → started_by e ≡ Some new → slice_get (started history) io ≡ Some s
    → outcome_of history io ≡ None → flies (history ++ e ∷ []) io ≡ true
flies_on history e new s io starts at unended =
    let after = history ++ e ∷ [] in
    and_from (nat_lt io (length (started after))) (is_none (outcome_of after io))
    (lt-ltb io (length (started after)) (slice_get_within (started after) io s (started_stays history (e ∷ []) io s at)))
    (ap is_none (outcome_of-stays history e io (start_ends_none e new io starts) ∙ unended))

pub flies_now : (plan : Plan) (history : List Event) (e : Event) (new : Started) → is_legal plan history ≡ true → started_by e ≡ Some new
    → flies (history ++ e ∷ []) (length (started history)) ≡ true
flies_now plan history e new legal starts =
    let after = history ++ e ∷ [] in
    let n = length (started history) in
    let least : n ≤ n = omega arith in
    and_from (nat_lt n (length (started after))) (is_none (outcome_of after n))
    (lt-ltb n (length (started after)) (slice_get_within (started after) n new (started_next history e new starts)))
    (ap is_none (outcome_of-stays history e n (start_ends_none e new n starts) ∙ not_ended_yet plan history n legal least))

-- what flies has been started and hasn't ended
pub open_of : (history : List Event) (io : ℕ) → flies history io ≡ true → outcome_of history io ≡ None
open_of history io h =
    none_by_test (outcome_of history io) (and_parts (nat_lt io (length (started history))) (is_none (outcome_of history io)) h).1
