-- What one event more makes of what was started, ended and judged, and what holds of every legal history.
use Rattle.std.proofs.Common.{◌≡◌, ℕ, ◌+◌, ◌<◌, List, [], ◌∷◌, ◌++◌, length, Bool, true, false, cond, ◌&&◌, ◌||◌, not, refl, sym, ◌∙◌, ap, subst, append_assoc, append-nil, length-append}
use Rattle.std.specs.Prelude.{Option, Some, None}
use Rattle.std.specs.Option.{option_or}
use Rattle.std.specs.List.{cons_option}
use Rattle.std.proofs.Math.Bool.{or-false}
use Rattle.std.proofs.lemmas.Bool.{and_parts, eq-eqb}
use Rattle.std.proofs.lemmas.List.Elements.{filter_map-append}
use Rattle.std.proofs.lemmas.List.Folds.{list_any-append}
use Rattle.std.proofs.lemmas.List.Sums.{sum_by_push}
use Rattle.jr_model.specs.declared.events.Event.{Event}
use Rattle.jr_model.specs.declared.events.Event.TheVariants.{Issue, Probe, Skip, End, Verdict}
use Rattle.jr_model.specs.declared.events.IssueKind.{IssueKind}
use Rattle.jr_model.specs.declared.events.IssueKind.TheVariants as issue
use Rattle.jr_model.specs.declared.events.Outcome.{Outcome}
use Rattle.jr_model.specs.declared.events.Started.{Started}
use Rattle.jr_model.specs.declared.events.Verdict.{Verdict as GivenVerdict}
use Rattle.jr_model.specs.History.{started, started_by, end_of, outcome_of, is_verdict_on, is_judged, is_probe, kind_for}
use Rattle.jr_model.specs.Legal.{is_legal, legal_after, may_happen, verdict_fits}
use Rattle.jr_model.specs.Machine.{is_skip}
use Rattle.jr_model.specs.Plan.{Plan}
use Rattle.jr_model.specs.Rounds.{Pass, issues_of, issued_count, is_full, is_closed, is_open, no_issue_flies}
use Rattle.jr_model.proofs.LegalLaws.{is_legal-more}
use Rattle.jr_model.proofs.OptionLemmas.{or_none}
use Rattle.jr_model.proofs.SerialLaws.{EndsWereStarted, IsWell, well-more, first_given-append}

-- what was started, after one event more
pub started-more : (history : List Event) (e : Event) → started (history ++ e ∷ []) ≡ started history ++ cons_option (started_by e) []
started-more history e = filter_map-append started_by history (e ∷ [])

pub started_count-more : (history : List Event) (e : Event)
    → length (started (history ++ e ∷ [])) ≡ length (started history) + length (started (e ∷ []))
started_count-more history e =
    ap length (filter_map-append started_by history (e ∷ [])) ∙ length-append (started history) (started (e ∷ []))

-- how many draws of a pass were issued
pub issued_push : (history : List Event) (e : Event) (pass : Pass)
    → issued_count (history ++ e ∷ []) pass ≡ issued_count history pass + cond (issues_of pass e) 1 0
issued_push history e pass = sum_by_push (λ (x : Event). cond (issues_of pass x) 1 0) history e

-- a group with an open round is full
pub open_is_full : (history : List Event) (pass : Pass) (g : ℕ) → is_open history pass g ≡ true → is_full history pass g ≡ true
open_is_full history pass g h =
    let parts = and_parts (is_full history pass g && not (is_closed history pass g)) (no_issue_flies history pass.job.clone) h in
    (and_parts (is_full history pass g) (not (is_closed history pass g)) parts.0).0

-- how an I/O ended
pub outcome_of-more : (history : List Event) (e : Event) (io : ℕ) → outcome_of (history ++ e ∷ []) io ≡ option_or (outcome_of history io) (end_of io e)
outcome_of-more history e io =
    first_given-append (end_of io) history (e ∷ []) ∙ ap (option_or (outcome_of history io)) (or_none (end_of io e))

-- an event that isn't the I/O's End leaves it
pub outcome_of-stays : (history : List Event) (e : Event) (io : ℕ) → end_of io e ≡ None → outcome_of (history ++ e ∷ []) io ≡ outcome_of history io
outcome_of-stays history e io none =
    outcome_of-more history e io ∙ ap (option_or (outcome_of history io)) none ∙ or_none (outcome_of history io)

-- its own End
pub outcome_of-end : (history : List Event) (worker io : ℕ) (outcome : Outcome) → outcome_of history io ≡ None
    → outcome_of (history ++ End worker io outcome ∷ []) io ≡ Some outcome
outcome_of-end history worker io outcome flying =
    outcome_of-more history (End worker io outcome) io
    ∙ ap (λ (o : Option Outcome). option_or o (end_of io (End worker io outcome))) flying
    ∙ ap {B = Option Outcome} (λ (b : Bool). cond b (Some outcome) None) (eq-eqb io io refl)

-- whether a check has its verdict
pub is_judged-more : (history : List Event) (e : Event) (io : ℕ) → is_judged (history ++ e ∷ []) io ≡ (is_judged history io || is_verdict_on io e)
is_judged-more history e io =
    list_any-append (is_verdict_on io) history (e ∷ []) ∙ ap (λ (b : Bool). is_judged history io || b) (or-false (is_verdict_on io e))

-- what starts an I/O ends none
pub start_ends_none : (e : Event) (s : Started) (io : ℕ) → started_by e ≡ Some s → end_of io e ≡ None
start_ends_none (Issue worker kind write piece) s io starts = refl
start_ends_none (Probe worker write piece) s io starts = refl
start_ends_none (Skip worker write) s io starts = cc
start_ends_none (End worker id outcome) s io starts = cc
start_ends_none (Verdict worker id verdict) s io starts = cc

-- a skip starts none
pub skip_starts_none : (e : Event) → is_skip e ≡ true → started_by e ≡ None
skip_starts_none (Skip worker write) skip = refl
skip_starts_none (Issue worker kind write piece) skip = cc
skip_starts_none (Probe worker write piece) skip = cc
skip_starts_none (End worker id outcome) skip = cc
skip_starts_none (Verdict worker id verdict) skip = cc

-- what is issued is no check of a round
pub issue_is_no_probe : (kind : IssueKind) → is_probe (kind_for kind) ≡ false
issue_is_no_probe issue.Read = refl
issue_is_no_probe issue.Write = refl
issue_is_no_probe issue.ReadCheck = refl

-- a verdict is on an I/O that was started
pub judged_there : (plan : Plan) (raced : Bool) (verdict : GivenVerdict) (io : Option Started) → verdict_fits plan raced verdict io ≡ true
    → (s : Started) × (io ≡ Some s)
judged_there plan raced verdict None h = cc
judged_there plan raced verdict (Some s) h = (s, refl)

-- what holds after these events and holds on at each further one holds after all
along : (plan : Plan) (P : List Event → Type 0)
    → ((history : List Event) (e : Event) → is_legal plan history ≡ true → P history → may_happen plan history e ≡ true → P (history ++ e ∷ []))
    → (before events : List Event)
    → is_legal plan before ≡ true
    → P before
    → legal_after plan before events ≡ true
    → P (before ++ events)
along plan P step before [] legal here h = subst P (sym (append-nil before)) here
along plan P step before (e ∷ events) legal here h =
    let parts = and_parts (may_happen plan before e) (legal_after plan (before ++ e ∷ []) events) h in
    subst P (append_assoc before (e ∷ []) events)
    (along plan P step (before ++ e ∷ []) events (is_legal-more plan before e legal parts.0) (step before e legal here parts.0) parts.1)

-- what holds at the start, and holds on at each event that may happen, holds of each legal history
pub by_events : (plan : Plan) (P : List Event → Type 0)
    → P []
    → ((history : List Event) (e : Event) → is_legal plan history ≡ true → P history → may_happen plan history e ≡ true → P (history ++ e ∷ []))
    → (history : List Event)
    → is_legal plan history ≡ true
    → P history
by_events plan P start step history legal = along plan P step [] history refl start legal

-- in a legal history only what was started ended, or was judged
pub legal_is_well : (plan : Plan) (history : List Event) → is_legal plan history ≡ true → IsWell plan history
legal_is_well plan history legal =
    by_events plan (IsWell plan)
    (record { legal = refl; ends = λ io o h. none_some io o h; judged = λ io h. none_true io h })
    (λ h e so_far well may. well-more plan h e well may) history legal
  where
    none_some : (io : ℕ) (o : Outcome) → None ≡ Some o → io < 0
    none_some io o h = cc

    none_true : (io : ℕ) → false ≡ true → io < 0
    none_true io h = cc

pub ends_were_started : (plan : Plan) (history : List Event) → is_legal plan history ≡ true → EndsWereStarted history
ends_were_started plan history legal = (legal_is_well plan history legal).ends
