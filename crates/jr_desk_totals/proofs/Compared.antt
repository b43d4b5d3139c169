-- The tests of a clone as comparisons of its counts, and nothing in flight as none of any clone of the plan.
use Rattle.std.proofs.Common.{◌≡◌, ℕ, zero, suc, ◌+◌, ◌≤◌, List, [], ◌∷◌, length, Bool, true, false, cond, ◌&&◌, not, refl, sym, ◌∙◌, ap, subst, arith}
use Rattle.std.specs.Prelude.{Some, None, slice_get, ◌==◌, nat_lt, is_none, filter, count_by}
use Rattle.std.specs.List.{list_all, list_any}
use Rattle.std.proofs.lemmas.Bool.{eq-eqb, eqb-true, and_parts}
use Rattle.std.proofs.lemmas.List.Sums.{length-filter}
use Rattle.jr_model.specs.declared.events.Event.{Event}
use Rattle.jr_model.specs.declared.events.Started.{Started}
use Rattle.jr_model.specs.History.{started, outcome_of, is_judged, in_flight, in_flight_of, awaiting, is_of_clone, is_judged_kind, is_probe, ended_whole}
use Rattle.jr_model.specs.Legal.{is_complete, is_legal, is_over, is_at_rest, has_room}
use Rattle.jr_model.specs.Plan.{Plan, SubJob}
use Rattle.jr_model.specs.Rounds.{no_issue_flies, nothing_flies_of}
use Rattle.jr_model.proofs.LegalLaws.{started_planned}
use Rattle.jr_model.specs.PlanFacts.{IsPlanned}
use Rattle.jr_model.proofs.PlaceLemmas.{all_from, keeps_none}
use Rattle.jr_model.proofs.ListLemmas.{none_by_length}
use Rattle.jr_model.proofs.BoolLemmas.{same_truth}
use Rattle.jr_laws_steps.proofs.RestLaws.{length_by_none}
use Rattle.jr_desk_totals.specs.Tallies.{flying_issues, flying_checks, awaited}
use Rattle.jr_desk_totals.specs.After.{AreCompared, AreAll}
use Rattle.jr_desk_totals.proofs.Tallied.{counted, tallied, tallied_least, count_kept, kept_by, length_split, all_as_count, none_as_count}

pub flying_length : (history : List Event) (c : ℕ) → length (in_flight_of history c) ≡ flying_issues history c + flying_checks history c
flying_length history c = length_split (λ (io : Started). is_probe io.kind) (in_flight_of history c)

pub has_room-counts : (history : List Event) (job : SubJob) → has_room history job ≡ nat_lt (flying_issues history job.clone + flying_checks history job.clone) job.depth
has_room-counts history job = ap {B = Bool} (λ (n : ℕ). nat_lt n job.depth) (flying_length history job.clone)

pub nothing_flies_of-counts : (history : List Event) (c : ℕ) → nothing_flies_of history c ≡ (flying_issues history c + flying_checks history c == 0)
nothing_flies_of-counts history c = ap {B = Bool} (λ (n : ℕ). n == 0) (flying_length history c)

pub no_issue_flies-counts : (history : List Event) (c : ℕ) → no_issue_flies history c ≡ (flying_issues history c == 0)
no_issue_flies-counts history c = all_as_count (λ (io : Started). is_probe io.kind) (in_flight_of history c)

pub none_awaited-counts : (history : List Event) (c : ℕ) → not (list_any (is_of_clone c) (awaiting history)) ≡ (awaited history c == 0)
none_awaited-counts history c = none_as_count (is_of_clone c) (awaiting history)

pub is_at_rest-counts : (history : List Event) (job : SubJob) → is_at_rest history job ≡ (is_over history job && (flying_issues history job.clone + flying_checks history job.clone == 0) && (awaited history job.clone == 0))
is_at_rest-counts history job =
    ap {B = Bool} (λ (b : Bool). is_over history job && b && not (list_any (is_of_clone job.clone) (awaiting history))) (nothing_flies_of-counts history job.clone)
    ∙ ap {B = Bool} (λ (b : Bool). is_over history job && (flying_issues history job.clone + flying_checks history job.clone == 0) && b) (none_awaited-counts history job.clone)

pub tests_compared : (history : List Event) (job : SubJob) → AreCompared history job
tests_compared history job = record {
  flying = flying_length history job.clone;
  room = has_room-counts history job;
  none = nothing_flies_of-counts history job.clone;
  no_issue = no_issue_flies-counts history job.clone;
  rest = is_at_rest-counts history job;
}

-- nothing is kept of what was started where nothing is kept of any clone of the plan

dropped : (b own : Bool) (x : Started) → own ≡ true → counted (b && own) ≤ 0 → cond b (Some x) None ≡ None
dropped false own x is none = refl
dropped true true x is none = absurd (omega (arith, none))
dropped true false x is none = cc

module _ (plan : Plan) (history : List Event) (t : ℕ → Started → Bool) (planned : IsPlanned plan) (legal : is_legal plan history ≡ true) where
  none_kept_of : ((k : ℕ) (job : SubJob) → slice_get plan.clones k ≡ Some job → count_by (is_of_clone job.clone) (kept_by t 0 (started history)) ≡ 0) → kept_by t 0 (started history) ≡ []
  none_kept_of none =
      keeps_none (λ (numbered : ℕ × Started). cond (t numbered.0 numbered.1) (Some numbered.1) None) 0 (started history) (λ (k : ℕ) (x : Started) (at : slice_get (started history) k ≡ Some x). each k x at)
    where
      each : (k : ℕ) (x : Started) → slice_get (started history) k ≡ Some x → cond (t (0 + k) x) (Some x) None ≡ None
      each k x at =
          let found = started_planned plan [] history k x legal at in
          let number : found.0.clone ≡ x.write.clone = (planned.drafted.placed x.write.clone found.0 found.1).number in
          let own : is_of_clone found.0.clone x ≡ true = eq-eqb x.write.clone found.0.clone (sym number) in
          let w = λ (i : ℕ) (y : Started). t i y && is_of_clone found.0.clone y in
          let least : counted (w (0 + k) x) ≤ tallied w 0 (started history) = tallied_least w 0 k (started history) x at in
          let total : tallied w 0 (started history) ≡ 0 = sym (count_kept t (is_of_clone found.0.clone) 0 (started history)) ∙ none x.write.clone found.0 found.1 in
          let few : counted (w (0 + k) x) ≤ 0 = omega (arith, least, total) in
          dropped (t (0 + k) x) (is_of_clone found.0.clone x) x own few

-- a test of each clone of the plan
each_clone : (plan : Plan) (test : SubJob → Bool) → list_all test plan.clones ≡ true → (k : ℕ) (job : SubJob) → slice_get plan.clones k ≡ Some job → test job ≡ true
each_clone plan test all k job at = at_place plan.clones k all at
  where
    at_place : (jobs : List SubJob) (i : ℕ) → list_all test jobs ≡ true → slice_get jobs i ≡ Some job → test job ≡ true
    at_place [] i h there = cc
    at_place (x ∷ jobs) zero h there =
        let same : x ≡ job = cc in
        subst (λ (j : SubJob). test j ≡ true) same (and_parts (test x) (list_all test jobs) h).0
    at_place (x ∷ jobs) (suc i) h there = at_place jobs i (and_parts (test x) (list_all test jobs) h).1 there

-- of what flies

abbrev rests : List Event → SubJob → Bool
rests history job = flying_issues history job.clone + flying_checks history job.clone == 0

abbrev is_judged_all : List Event → SubJob → Bool
is_judged_all history job = awaited history job.clone == 0

each_rests : (plan : Plan) (history : List Event) → in_flight history ≡ [] → list_all (rests history) plan.clones ≡ true
each_rests plan history none = all_from (rests history) plan.clones (λ (k : ℕ) (job : SubJob) (at : slice_get plan.clones k ≡ Some job). of_job job)
  where
    of_job : (job : SubJob) → rests history job ≡ true
    of_job job =
        sym (nothing_flies_of-counts history job.clone)
        ∙ length_by_none (in_flight_of history job.clone) (ap (filter (is_of_clone job.clone)) none)

none_flies : (plan : Plan) (history : List Event) → IsPlanned plan → is_legal plan history ≡ true → list_all (rests history) plan.clones ≡ true → in_flight history ≡ []
none_flies plan history planned legal all =
    none_kept_of plan history (λ (i : ℕ) (io : Started). is_none (outcome_of history i)) planned legal (λ (k : ℕ) (job : SubJob) (at : slice_get plan.clones k ≡ Some job). of_job job (each_clone plan (rests history) all k job at))
  where
    of_job : (job : SubJob) → rests history job ≡ true → count_by (is_of_clone job.clone) (in_flight history) ≡ 0
    of_job job rest =
        sym (length-filter (is_of_clone job.clone) (in_flight history))
        ∙ eqb-true (length (in_flight_of history job.clone)) 0 (nothing_flies_of-counts history job.clone ∙ rest)

pub flies_none : (plan : Plan) (history : List Event) → IsPlanned plan → is_legal plan history ≡ true → (length (in_flight history) == 0) ≡ list_all (λ (job : SubJob). flying_issues history job.clone + flying_checks history job.clone == 0) plan.clones
flies_none plan history planned legal =
    same_truth (length (in_flight history) == 0) (list_all (rests history) plan.clones)
    (λ none. each_rests plan history (none_by_length (in_flight history) none))
    (λ all. length_by_none (in_flight history) (none_flies plan history planned legal all))

-- of the verdicts to come

each_is_judged : (plan : Plan) (history : List Event) → awaiting history ≡ [] → list_all (is_judged_all history) plan.clones ≡ true
each_is_judged plan history none =
    all_from (is_judged_all history) plan.clones
    (λ (k : ℕ) (job : SubJob) (at : slice_get plan.clones k ≡ Some job). ap {B = Bool} (λ (ios : List Started). count_by (is_of_clone job.clone) ios == 0) none)

none_awaits : (plan : Plan) (history : List Event) → IsPlanned plan → is_legal plan history ≡ true → list_all (is_judged_all history) plan.clones ≡ true → awaiting history ≡ []
none_awaits plan history planned legal all =
    none_kept_of plan history (λ (i : ℕ) (io : Started). is_judged_kind io.kind && ended_whole (outcome_of history i) && not (is_judged history i)) planned legal
    (λ (k : ℕ) (job : SubJob) (at : slice_get plan.clones k ≡ Some job). eqb-true (awaited history job.clone) 0 (each_clone plan (is_judged_all history) all k job at))

pub awaits_none : (plan : Plan) (history : List Event) → IsPlanned plan → is_legal plan history ≡ true → (length (awaiting history) == 0) ≡ list_all (λ (job : SubJob). awaited history job.clone == 0) plan.clones
awaits_none plan history planned legal =
    same_truth (length (awaiting history) == 0) (list_all (is_judged_all history) plan.clones)
    (λ none. each_is_judged plan history (none_by_length (awaiting history) none))
    (λ all. length_by_none (awaiting history) (none_awaits plan history planned legal all))

-- a run is complete where no clone has anything in flight or a verdict to come, and each is over
pub is_complete-counts : (plan : Plan) (history : List Event) → IsPlanned plan → is_legal plan history ≡ true → is_complete plan history ≡ (list_all (λ (job : SubJob). flying_issues history job.clone + flying_checks history job.clone == 0) plan.clones && list_all (λ (job : SubJob). awaited history job.clone == 0) plan.clones && list_all (is_over history) plan.clones)
is_complete-counts plan history planned legal =
    ap {B = Bool} (λ (b : Bool). b && (length (awaiting history) == 0) && list_all (is_over history) plan.clones) (flies_none plan history planned legal)
    ∙ ap {B = Bool} (λ (b : Bool). list_all (rests history) plan.clones && b && list_all (is_over history) plan.clones) (awaits_none plan history planned legal)

pub clones_all : (plan : Plan) (history : List Event) → IsPlanned plan → is_legal plan history ≡ true → AreAll plan history
clones_all plan history planned legal = record {
  flying = flies_none plan history planned legal;
  verdicts = awaits_none plan history planned legal;
  complete = is_complete-counts plan history planned legal;
}
