-- In a legal history each I/O ends once, so no more I/Os end than were started.
use Rattle.std.proofs.Common.{◌≡◌, ℕ, ◌+◌, ◌<◌, ◌≤◌, Bool, true, false, ◌&&◌, ◌||◌, cond, eqb, List, [], ◌∷◌, ◌++◌, length, refl, ap, sym, ◌∙◌, subst, arith, inl, inr, append-nil, append_assoc, length-append}
use Rattle.std.specs.Prelude.{Option, Some, None, is_none, filter_map}
use Rattle.std.specs.Option.{option_or}
use Rattle.std.specs.List.{cons_option, list_any, IsDistinct}
use Rattle.std.proofs.lemmas.Bool.{and_parts, ltb-true, eqb-true}
use Rattle.std.proofs.lemmas.List.Elements.{filter_map-append}
use Rattle.std.proofs.lemmas.List.Folds.{list_any-append}
use Rattle.std.proofs.lemmas.Map.Keys.{IsDistinct-push}
use Rattle.std.proofs.lemmas.Map.Steps.{length-le_from_distinct_below}
use Rattle.std.specs.Cmp.{nat_eq_equiv}
use Rattle.jr_model.specs.declared.events.Event.{Event}
use Rattle.jr_model.specs.declared.events.Event.TheVariants.{Issue, Probe, Skip, End, Verdict}
use Rattle.jr_model.specs.declared.events.Outcome.{Outcome}
use Rattle.jr_model.specs.declared.events.Started.{Started}
use Rattle.jr_model.specs.declared.tickets.TicketKind.{TicketKind}
use Rattle.jr_model.specs.History.{started, started_by, outcome_of, ended_whole}
use Rattle.jr_model.specs.Legal.{may_happen, legal_after, is_legal, end_fits}
use Rattle.jr_model.specs.Plan.{Plan}
use Rattle.jr_model.specs.Totals.{moved, moved_by, if_wanted}
use Rattle.std.specs.Prelude.{slice_get, nat_lt, ◌⊎◌}

-- the I/O that an event ends
abbrev pub end_id : Event → Option ℕ
end_id (End worker io outcome) = Some io
end_id (Issue worker kind write piece) = None
end_id (Probe worker write piece) = None
end_id (Skip worker write) = None
end_id (Verdict worker io verdict) = None

-- the numbers of the I/Os that ended, in the order of their ends
abbrev pub ended : List Event → List ℕ
ended history = filter_map end_id history

-- an I/O with no outcome is none of those that ended
not_ended : (io : ℕ) (history : List Event) → is_none (outcome_of history io) ≡ true → list_any (eqb io) (ended history) ≡ false
not_ended io [] h = refl
not_ended io (Issue worker kind write piece ∷ events) h = not_ended io events h
not_ended io (Probe worker write piece ∷ events) h = not_ended io events h
not_ended io (Skip worker write ∷ events) h = not_ended io events h
not_ended io (Verdict worker id verdict ∷ events) h = not_ended io events h
not_ended io (End worker id outcome ∷ events) h =
    by_case (eqb id io) (nat_eq_equiv.symm io id) h (not_ended io events)
  where
    by_case : (b : Bool) → eqb io id ≡ b → is_none (option_or (cond b (Some outcome) None) (outcome_of events io)) ≡ true → (is_none (outcome_of events io) ≡ true → list_any (eqb io) (ended events) ≡ false) → (eqb io id || list_any (eqb io) (ended events)) ≡ false
    by_case true same g rest = cc
    by_case false apart g rest = ap (λ (b : Bool). b || list_any (eqb io) (ended events)) apart ∙ rest g

-- what is known of the I/Os that ended: each once, and all were started
record EndedOnce (history : List Event) : Type 0 where
  distinct : IsDistinct eqb (ended history)
  below : (q : ℕ) → list_any (eqb q) (ended history) ≡ true → q < length (started history)

-- an event that ends nothing
keeps_once : (history : List Event) (e : Event) → end_id e ≡ None → EndedOnce history → EndedOnce (history ++ e ∷ [])
keeps_once history e none once =
    let same : ended (history ++ e ∷ []) ≡ ended history =
    filter_map-append end_id history (e ∷ []) ∙ ap (λ (o : Option ℕ). ended history ++ cons_option o []) none ∙ append-nil (ended history) in
    let grown : length (started (history ++ e ∷ [])) ≡ length (started history) + length (started (e ∷ [])) =
    ap length (filter_map-append started_by history (e ∷ [])) ∙ length-append (started history) (started (e ∷ [])) in
    record {
      distinct = subst (λ (ids : List ℕ). IsDistinct eqb ids) (sym same) once.distinct;
      below = λ q h. let under = once.below q (ap (λ (ids : List ℕ). list_any (eqb q) ids) (sym same) ∙ h) in omega (arith, under, grown);
    }

-- an event that ends what was in flight
ends_once : (history : List Event) (worker io : ℕ) (outcome : Outcome) → is_none (outcome_of history io) ≡ true → io < length (started history) → EndedOnce history → EndedOnce (history ++ End worker io outcome ∷ [])
ends_once history worker io outcome flying within once =
    let more : ended (history ++ End worker io outcome ∷ []) ≡ ended history ++ io ∷ [] = filter_map-append end_id history (End worker io outcome ∷ []) in
    let same : length (started (history ++ End worker io outcome ∷ [])) ≡ length (started history) =
    ap length (filter_map-append started_by history (End worker io outcome ∷ []) ∙ append-nil (started history)) in
    record {
      distinct = subst (λ (ids : List ℕ). IsDistinct eqb ids) (sym more) (IsDistinct-push nat_eq_equiv (ended history) io once.distinct (not_ended io history flying));
      below = λ q h. is_below q (ap (λ (ids : List ℕ). list_any (eqb q) ids) (sym more) ∙ h) same;
    }
  where
    cases_or : (a b : Bool) → (a || b) ≡ true → (a ≡ true) ⊎ (b ≡ true)
    cases_or true b h = inl refl
    cases_or false b h = inr h

    is_below : (q : ℕ) → list_any (eqb q) (ended history ++ io ∷ []) ≡ true → length (started (history ++ End worker io outcome ∷ [])) ≡ length (started history) → q < length (started (history ++ End worker io outcome ∷ []))
    is_below q h same =
        elim (cases_or (list_any (eqb q) (ended history)) (eqb q io || false) (sym (list_any-append (eqb q) (ended history) (io ∷ [])) ∙ h)) [
          | inl before ↦ omega (arith, once.below q before, same)
          | inr this ↦
              elim (cases_or (eqb q io) false this) [
                | inl equal ↦ let e : q ≡ io = eqb-true q io equal in omega (arith, e, within, same)
                | inr never ↦ cc
              ]
        ]

-- after an event that may happen
goes_on_once : (plan : Plan) (history : List Event) (e : Event) → may_happen plan history e ≡ true → EndedOnce history → EndedOnce (history ++ e ∷ [])
goes_on_once plan history (Issue worker kind write piece) may once = keeps_once history (Issue worker kind write piece) refl once
goes_on_once plan history (Probe worker write piece) may once = keeps_once history (Probe worker write piece) refl once
goes_on_once plan history (Skip worker write) may once = keeps_once history (Skip worker write) refl once
goes_on_once plan history (Verdict worker io verdict) may once = keeps_once history (Verdict worker io verdict) refl once
goes_on_once plan history (End worker io outcome) may once =
    let flying = and_parts (nat_lt io (length (started history))) (is_none (outcome_of history io))
    (and_parts (nat_lt io (length (started history)) && is_none (outcome_of history io)) (end_fits worker outcome (slice_get (started history) io)) may).0 in
    ends_once history worker io outcome flying.1 (ltb-true io (length (started history)) flying.0) once

along_once : (plan : Plan) (before events : List Event) → legal_after plan before events ≡ true → EndedOnce before → EndedOnce (before ++ events)
along_once plan before [] h once = subst EndedOnce (sym (append-nil before)) once
along_once plan before (e ∷ events) h once =
    let parts = and_parts (may_happen plan before e) (legal_after plan (before ++ e ∷ []) events) h in
    subst EndedOnce (append_assoc before (e ∷ []) events)
    (along_once plan (before ++ e ∷ []) events parts.1 (goes_on_once plan before e parts.0 once))

none_ended : EndedOnce []
unfolding IsDistinct
none_ended = record { distinct = tt; below = λ q h. cc }

-- what is moved is no more than what ended
moved_at_most_ended : (ios : List Started) (test : TicketKind → Bool) (c : ℕ) (history : List Event) → length (filter_map (moved_by ios test c) history) ≤ length (ended history)
moved_at_most_ended ios test c [] = omega arith
moved_at_most_ended ios test c (Issue worker kind write piece ∷ events) = moved_at_most_ended ios test c events
moved_at_most_ended ios test c (Probe worker write piece ∷ events) = moved_at_most_ended ios test c events
moved_at_most_ended ios test c (Skip worker write ∷ events) = moved_at_most_ended ios test c events
moved_at_most_ended ios test c (Verdict worker io verdict ∷ events) = moved_at_most_ended ios test c events
moved_at_most_ended ios test c (End worker io outcome ∷ events) =
    one_at_most (if_wanted test c (ended_whole (Some outcome)) (slice_get ios io)) (moved_at_most_ended ios test c events)
  where
    one_at_most : (o : Option Started) → length (filter_map (moved_by ios test c) events) ≤ length (ended events) → length (cons_option o (filter_map (moved_by ios test c) events)) ≤ length (io ∷ ended events)
    one_at_most None h = omega (arith, h)
    one_at_most (Some x) h = omega (arith, h)

-- in a legal history no more of a clone's I/Os end than were started at all
pub moved_at_most_started : (plan : Plan) (history : List Event) (test : TicketKind → Bool) (c : ℕ) → is_legal plan history ≡ true → length (moved history test c) ≤ length (started history)
moved_at_most_started plan history test c legal =
    let once = along_once plan [] history legal none_ended in
    let few : length (ended history) ≤ length (started history) = length-le_from_distinct_below (ended history) (length (started history)) once.distinct once.below in
    let moves = moved_at_most_ended (started history) test c history in
    omega (arith, few, moves)
