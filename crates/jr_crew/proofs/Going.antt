-- One worker over a right memory goes on as the serial history does: what a take appends are its next choices.
use Rattle.std.proofs.Common.{◌≡◌, ℕ, zero, suc, List, [], ◌∷◌, ◌++◌, length, true, false, sym, ◌∙◌, ap, subst, append_assoc, append-nil}
use Rattle.std.specs.Prelude.{Option, Some, None}
use Rattle.jr_model.specs.declared.events.Event.{Event}
use Rattle.jr_model.specs.declared.events.Event.TheVariants.{Issue, Probe, Skip, End, Verdict}
use Rattle.jr_model.specs.declared.events.Started.{Started}
use Rattle.jr_model.specs.Choice.{choice}
use Rattle.jr_model.specs.History.{started, started_by}
use Rattle.jr_model.specs.Legal.{is_legal}
use Rattle.jr_model.specs.Machine.{Appends, is_skip}
use Rattle.jr_model.specs.Plan.{Plan}
use Rattle.jr_model.specs.Races.{has_raced}
use Rattle.jr_model.specs.Replies.{FileBytes}
use Rattle.jr_model.specs.Serial.{carried_out, followed_by, goes_on, memory_after, serial_after, serial_history}
use Rattle.jr_model.proofs.LegalLaws.{is_legal-more, choice_may_happen}
use Rattle.jr_model.specs.PlanFacts.{IsPlanned}
use Rattle.jr_model.proofs.PlanLemmas.{numbered_of}
use Rattle.jr_model.proofs.HistoryLemmas.{skip_starts_none}
use Rattle.jr_laws_bytes.specs.Memory.{HoldsLastWrites}
use Rattle.jr_laws_steps.proofs.CountLaws.{serial_stops_all}
use Rattle.jr_laws_bytes.proofs.Memories.{holds_on}
use Rattle.jr_laws_bytes.proofs.QuietRuns.{harmless_choice}
use Rattle.jr_laws_steps.proofs.StartedLemmas.{length-started-other}
use Rattle.jr_desk_state.specs.Takes.{last_started}
use Rattle.jr_desk_state.proofs.Keeping.{by_is_skip, last-skip}
use Rattle.jr_crew.proofs.Chosen.{IsStep, choice_steps}
use Rattle.jr_crew.proofs.Remembering.{memory_step}

-- the serial history goes on from here
pub record IsAhead (plan : Plan) (history : List Event) : Type 0 where
  pub limit : ℕ
  pub ahead : serial_history plan ≡ serial_after limit plan history

none_some : (e : Event) → None ≡ Some e → ⊥
none_some e h = cc

-- a choice that is carried out
ahead_by : (plan : Plan) (history : List Event) (e : Event) (limit : ℕ) → IsPlanned plan → choice plan history 0 ≡ Some e → serial_history plan ≡ serial_after limit plan history → IsAhead plan (history ++ carried_out plan history e)
ahead_by plan history e zero planned chosen ahead =
    absurd (none_some e (sym (serial_stops_all plan planned) ∙ ap (λ (h : List Event). choice plan h 0) ahead ∙ chosen))
ahead_by plan history e (suc limit) planned chosen ahead = record {
  limit = limit;
  ahead = ahead ∙ ap (goes_on plan (serial_after limit plan) history) chosen;
}

one_ahead : (plan : Plan) (history : List Event) (e : Event) → IsPlanned plan → choice plan history 0 ≡ Some e → IsAhead plan history → IsAhead plan (history ++ carried_out plan history e)
one_ahead plan history e planned chosen here = ahead_by plan history e here.limit planned chosen here.ahead

-- a step that is no skip starts something
starts_or_skips : (e : Event) → IsStep 0 e → is_skip e ≡ false → started_by e ≡ None → ⊥
starts_or_skips (Skip worker write) step other none = cc
starts_or_skips (Issue worker dir write piece) step other none = cc
starts_or_skips (Probe worker write piece) step other none = cc
starts_or_skips (End worker id outcome) step other none = step
starts_or_skips (Verdict worker id verdict) step other none = step

-- what it appends, by what it starts
carried_by : (plan : Plan) (history : List Event) (e : Event) (o : Option Started) → started_by e ≡ o → carried_out plan history e ≡ e ∷ followed_by plan (memory_after plan history) (length (started history)) o
carried_by plan history e o starts =
    ap (λ (s : Option Started). e ∷ followed_by plan (memory_after plan history) (length (started history)) s) starts

-- where a take starts nothing
pub ahead_none : (plan : Plan) (before events : List Event) → IsPlanned plan → Appends plan 0 before events → last_started events ≡ None → IsAhead plan before → IsAhead plan (before ++ events)
ahead_none plan before [] planned appends none here = subst (λ (h : List Event). IsAhead plan h) (sym (append-nil before)) here
ahead_none plan before (e ∷ events) planned appends none here =
    by_is_skip e (Appends plan 0 (before ++ e ∷ []) events) (events ≡ []) (IsAhead plan (before ++ e ∷ events)) appends.1
    (λ (skip : is_skip e ≡ true) (more : Appends plan 0 (before ++ e ∷ []) events).
    let next : IsAhead plan (before ++ e ∷ []) =
    subst (λ (xs : List Event). IsAhead plan (before ++ xs)) (carried_by plan before e None (skip_starts_none e skip)) (one_ahead plan before e planned appends.0 here) in
    subst (λ (h : List Event). IsAhead plan h) (append_assoc before (e ∷ []) events)
    (ahead_none plan (before ++ e ∷ []) events planned more (sym (last-skip e events skip) ∙ none) next))
    (λ (other : is_skip e ≡ false) (last : events ≡ []).
    let starts : started_by e ≡ None = subst (λ (rest : List Event). last_started (e ∷ rest) ≡ None) last none in
    absurd (starts_or_skips e (choice_steps plan before 0 e (numbered_of plan planned) appends.0) other starts))

-- where a take starts something, which is carried out
pub ahead_some : (plan : Plan) (before events : List Event) (s : Started) → IsPlanned plan → is_legal plan before ≡ true → Appends plan 0 before events → last_started events ≡ Some s → IsAhead plan before → IsAhead plan ((before ++ events) ++ followed_by plan (memory_after plan before) (length (started before)) (Some s))
ahead_some plan before [] s planned legal appends starts here = cc
ahead_some plan before (e ∷ events) s planned legal appends starts here =
    let id = length (started before) in
    let memory = memory_after plan before in
    let Goal : ℕ → List FileBytes → Type 0 = λ n m. IsAhead plan (((before ++ e ∷ []) ++ events) ++ followed_by plan m n (Some s)) in
    let numbered = numbered_of plan planned in
    by_is_skip e (Appends plan 0 (before ++ e ∷ []) events) (events ≡ []) (IsAhead plan ((before ++ e ∷ events) ++ followed_by plan memory id (Some s))) appends.1
    (λ (skip : is_skip e ≡ true) (more : Appends plan 0 (before ++ e ∷ []) events).
    let next : IsAhead plan (before ++ e ∷ []) =
    subst (λ (xs : List Event). IsAhead plan (before ++ xs)) (carried_by plan before e None (skip_starts_none e skip)) (one_ahead plan before e planned appends.0 here) in
    let legal_next = is_legal-more plan before e legal (choice_may_happen plan before 0 e numbered appends.0) in
    let rest : Goal (length (started (before ++ e ∷ []))) (memory_after plan (before ++ e ∷ [])) =
    ahead_some plan (before ++ e ∷ []) events s planned legal_next more (sym (last-skip e events skip) ∙ starts) next in
    subst (λ (h : List Event). IsAhead plan (h ++ followed_by plan memory id (Some s))) (append_assoc before (e ∷ []) events)
    (subst (λ (n : ℕ). Goal n memory) (length-started-other before e (skip_starts_none e skip))
    (subst (λ (m : List FileBytes). Goal (length (started (before ++ e ∷ []))) m) (memory_step plan before e legal (choice_steps plan before 0 e numbered appends.0)) rest)))
    (λ (other : is_skip e ≡ false) (last : events ≡ []).
    let begins : started_by e ≡ Some s = subst (λ (rest : List Event). last_started (e ∷ rest) ≡ Some s) last starts in
    let next : IsAhead plan (before ++ e ∷ followed_by plan memory id (Some s)) =
    subst (λ (xs : List Event). IsAhead plan (before ++ xs)) (carried_by plan before e (Some s) begins) (one_ahead plan before e planned appends.0 here) in
    subst (λ (rest : List Event). IsAhead plan ((before ++ e ∷ rest) ++ followed_by plan memory id (Some s))) (sym last)
    (subst (λ (h : List Event). IsAhead plan h) (sym (append_assoc before (e ∷ []) (followed_by plan memory id (Some s)))) next))

-- at the end of the choices the history is the serial one
ends_by : (plan : Plan) (history : List Event) (limit : ℕ) → choice plan history 0 ≡ None → serial_history plan ≡ serial_after limit plan history → history ≡ serial_history plan
ends_by plan history zero none ahead = sym ahead
ends_by plan history (suc limit) none ahead = sym (ahead ∙ ap (goes_on plan (serial_after limit plan) history) none)

pub ahead_ends : (plan : Plan) (history : List Event) → choice plan history 0 ≡ None → IsAhead plan history → history ≡ serial_history plan
ahead_ends plan history none here = ends_by plan history here.limit none here.ahead

-- and after a take that starts nothing there is no choice
pub none_left : (plan : Plan) (before events : List Event) → IsPlanned plan → Appends plan 0 before events → last_started events ≡ None → choice plan (before ++ events) 0 ≡ None
none_left plan before [] planned appends none = subst (λ (h : List Event). choice plan h 0 ≡ None) (sym (append-nil before)) appends
none_left plan before (e ∷ events) planned appends none =
    by_is_skip e (Appends plan 0 (before ++ e ∷ []) events) (events ≡ []) (choice plan (before ++ e ∷ events) 0 ≡ None) appends.1
    (λ (skip : is_skip e ≡ true) (more : Appends plan 0 (before ++ e ∷ []) events).
    subst (λ (h : List Event). choice plan h 0 ≡ None) (append_assoc before (e ∷ []) events)
    (none_left plan (before ++ e ∷ []) events planned more (sym (last-skip e events skip) ∙ none)))
    (λ (other : is_skip e ≡ false) (last : events ≡ []).
    let starts : started_by e ≡ None = subst (λ (rest : List Event). last_started (e ∷ rest) ≡ None) last none in
    absurd (starts_or_skips e (choice_steps plan before 0 e (numbered_of plan planned) appends.0) other starts))

-- what a take appends leaves a memory that holds the last writes
pub holds_appends : (plan : Plan) (before events : List Event) (memory : List FileBytes) → IsPlanned plan → is_legal plan before ≡ true → Appends plan 0 before events → HoldsLastWrites plan before memory → HoldsLastWrites plan (before ++ events) memory
holds_appends plan before [] memory planned legal appends holds =
    subst (λ (h : List Event). HoldsLastWrites plan h memory) (sym (append-nil before)) holds
holds_appends plan before (e ∷ events) memory planned legal appends holds =
    let numbered = numbered_of plan planned in
    let harmless = harmless_choice plan before 0 e numbered appends.0 in
    let next : HoldsLastWrites plan (before ++ e ∷ []) memory =
    holds_on plan before memory e legal (λ file block last. harmless.keeps (has_raced before) (started before) file block last) holds in
    by_is_skip e (Appends plan 0 (before ++ e ∷ []) events) (events ≡ []) (HoldsLastWrites plan (before ++ e ∷ events) memory) appends.1
    (λ (skip : is_skip e ≡ true) (more : Appends plan 0 (before ++ e ∷ []) events).
    subst (λ (h : List Event). HoldsLastWrites plan h memory) (append_assoc before (e ∷ []) events)
    (holds_appends plan (before ++ e ∷ []) events memory planned (is_legal-more plan before e legal (choice_may_happen plan before 0 e numbered appends.0)) more next))
    (λ (other : is_skip e ≡ false) (last : events ≡ []).
    subst (λ (rest : List Event). HoldsLastWrites plan (before ++ e ∷ rest) memory) (sym last) next)
