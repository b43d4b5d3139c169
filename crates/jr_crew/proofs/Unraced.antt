-- What starts while nothing else is open doesn't race.
use Rattle.std.proofs.Common.{◌≡◌, ℕ, ◌+◌, ◌<◌, ◌≤◌, List, [], ◌∷◌, ◌++◌, length, false, refl, sym, ◌∙◌, ap, subst, arith, append_assoc, append-nil, length-append}
use Rattle.std.specs.Prelude.{Option, Some, None, is_none}
use Rattle.std.specs.List.{cons_option}
use Rattle.std.specs.Option.{option_or}
use Rattle.jr_model.specs.declared.events.Event.{Event}
use Rattle.jr_model.specs.declared.events.Outcome.{Outcome}
use Rattle.jr_model.specs.declared.events.Started.{Started}
use Rattle.jr_model.specs.History.{started, started_by, outcome_of}
use Rattle.jr_model.specs.Plan.{Plan}
use Rattle.jr_model.specs.Races.{has_raced}
use Rattle.jr_model.proofs.RaceLaws.{raced_other, still_unraced, unstarted_is_unraced}
use Rattle.jr_model.proofs.SerialLaws.{rested-other}
use Rattle.jr_model.proofs.PlaceLemmas.{item_at}
use Rattle.jr_laws_steps.proofs.StartedLemmas.{started-append}
use Rattle.jr_desk_state.specs.Takes.{IsChosen}
use Rattle.jr_desk_state.proofs.Keeping.{chosen_started}
use Rattle.jr_crew.specs.Turns.{AreSettled}

-- all that was started has ended
abbrev AllEnded : List Event → Type 0
AllEnded history = (io : ℕ) → io < length (started history) → is_none (outcome_of history io) ≡ false

all_ended : (history : List Event) → AreSettled history → AllEnded history
all_ended history settled io below =
    let there = item_at (started history) io below in
    ap is_none ((settled io there.0 there.1).ended)

stays_given : (o p : Option Outcome) → is_none o ≡ false → is_none (option_or o p) ≡ false
stays_given (Some x) p h = refl
stays_given None p h = cc

none_of : (o : Option Started) (rest : List Started) → cons_option o rest ≡ [] → (o ≡ None) × (rest ≡ [])
none_of None rest h = (refl, h)
none_of (Some s) rest h = cc

no_more : (ios : List Started) → length ios + 1 ≤ 1 → ios ≡ []
no_more [] few = refl
no_more (s ∷ ios) few = absurd (omega (arith, few))

-- what starts nothing adds no race
nothing_more : (events before : List Event) (id : ℕ) → started events ≡ [] → has_raced (before ++ events) id ≡ has_raced before id
nothing_more [] before id none = ap (λ (h : List Event). has_raced h id) (append-nil before)
nothing_more (e ∷ events) before id none =
    let both = none_of (started_by e) (started events) none in
    ap (λ (h : List Event). has_raced h id) (sym (append_assoc before (e ∷ []) events))
    ∙ nothing_more events (before ++ e ∷ []) id both.1
    ∙ raced_other before e id both.0

-- nor does one start where all else has ended
one_start : (events before : List Event) (id : ℕ) → AllEnded before → length (started events) ≤ 1 → has_raced before id ≡ false → has_raced (before ++ events) id ≡ false
one_start [] before id ended few unraced = ap (λ (h : List Event). has_raced h id) (append-nil before) ∙ unraced
one_start (e ∷ events) before id ended few unraced =
    by (started_by e) refl (λ still now before_it. one_start events (before ++ e ∷ []) id still now before_it)
  where
    by : (o : Option Started) → started_by e ≡ o → (AllEnded (before ++ e ∷ []) → length (started events) ≤ 1 → has_raced (before ++ e ∷ []) id ≡ false → has_raced ((before ++ e ∷ []) ++ events) id ≡ false) → has_raced (before ++ e ∷ events) id ≡ false
    by None is rest =
        let now : length (started events) ≤ 1 = subst (λ (o : Option Started). length (cons_option o (started events)) ≤ 1) is few in
        ap (λ (h : List Event). has_raced h id) (sym (append_assoc before (e ∷ []) events))
        ∙ rest (rested-other before e is ended) now (raced_other before e id is ∙ unraced)
    by (Some s) is rest =
        let last : length (cons_option (Some s) (started events)) ≤ 1 = subst (λ (o : Option Started). length (cons_option o (started events)) ≤ 1) is few in
        let size : length (started events) + 1 ≤ 1 = omega (arith, last) in
        ap (λ (h : List Event). has_raced h id) (sym (append_assoc before (e ∷ []) events))
        ∙ nothing_more events (before ++ e ∷ []) id (no_more (started events) size)
        ∙ still_unraced before e s id is ended unraced

-- so a take where all is settled leaves unraced what was
at_most_one : (io : Option Started) → length (cons_option io []) ≤ 1
at_most_one None = omega arith
at_most_one (Some s) = omega arith

take_unraced : (plan : Plan) (worker : ℕ) (before history : List Event) (io : Option Started) (id : ℕ) → IsChosen plan worker before history io → AreSettled before → has_raced before id ≡ false → has_raced history id ≡ false
take_unraced plan worker before history io id chosen settled unraced =
    let whole : started before ++ started chosen.0 ≡ started before ++ cons_option io [] =
    sym (started-append before chosen.0) ∙ ap started (sym chosen.1) ∙ chosen_started plan worker before history io chosen in
    let few : length (started chosen.0) ≤ 1 =
    omega (arith, at_most_one io, ap length whole, length-append (started before) (started chosen.0), length-append (started before) (cons_option io [])) in
    ap (λ (h : List Event). has_raced h id) chosen.1 ∙ one_start chosen.0 before id (all_ended before settled) few unraced

-- what it starts has not raced
pub chosen_unraced : (plan : Plan) (worker : ℕ) (before history : List Event) (io : Started) → IsChosen plan worker before history (Some io) → AreSettled before → has_raced history (length (started before)) ≡ false
chosen_unraced plan worker before history io chosen settled =
    take_unraced plan worker before history (Some io) (length (started before)) chosen settled (unstarted_is_unraced before (length (started before)) (omega arith))

-- and where nothing had raced, nothing has once that ended
pub turn_unraced : (plan : Plan) (worker : ℕ) (before history events : List Event) (io : Option Started) → IsChosen plan worker before history io → AreSettled before → started events ≡ [] → ((id : ℕ) → has_raced before id ≡ false) → (id : ℕ) → has_raced (history ++ events) id ≡ false
turn_unraced plan worker before history events io chosen settled nothing unraced id =
    nothing_more events history id nothing ∙ take_unraced plan worker before history io id chosen settled (unraced id)
