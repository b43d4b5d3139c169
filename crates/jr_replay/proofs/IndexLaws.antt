-- What one event more makes of the indexes of a legal history.
use Rattle.std.proofs.Common.{◌≡◌, ℕ, ◌*◌, List, [], ◌∷◌, ◌++◌, length, Bool, true, false, cond, ◌&&◌, ◌||◌, refl, sym, ◌∙◌, ap, subst, inl, inr}
use Rattle.std.specs.Prelude.{◌⊎◌, Option, Some, None, nat_eq, nat_lt, is_none, is_some, slice_get}
use Rattle.std.specs.HashSet.{HashSet, contains}
use Rattle.std.proofs.lemmas.Bool.{and_from, cases_eq, cases_lt, eq-eqb, ne_eqb, lt-ltb}
use Rattle.std.proofs.lemmas.Option.{none-some}
use Rattle.std.proofs.Math.Bool.{and-false}
use Rattle.jr_model.specs.declared.events.Event.{Event}
use Rattle.jr_model.specs.declared.events.Event.TheVariants.{Issue, Probe, Skip, End, Verdict}
use Rattle.jr_model.specs.declared.events.Outcome.{Outcome}
use Rattle.jr_model.specs.declared.events.Started.{Started}
use Rattle.jr_model.specs.declared.events.Verdict.TheVariants as verdict
use Rattle.jr_model.specs.declared.events.WriteId.{WriteId}
use Rattle.jr_model.specs.declared.workloads.Draw.{Draw}
use Rattle.jr_model.specs.Draws.{draws_over}
use Rattle.jr_model.specs.Words.{pass_words}
use Rattle.jr_model.specs.History.{started, started_by, end_of, flies, outcome_of}
use Rattle.jr_model.specs.Plan.{Plan, clone_of}
use Rattle.jr_model.specs.PlanFacts.{IsPlanned}
use Rattle.jr_model.specs.Races.{has_raced}
use Rattle.jr_model.specs.Rounds.{Pass, pass_of}
use Rattle.jr_model.specs.Tickets.{piece_fits}
use Rattle.jr_model.proofs.RaceLaws.{raced_for_good, raced_other}
use Rattle.jr_flight.specs.Flights.{flying_io, raced_so_far}
use Rattle.jr_laws_draws.proofs.TheLaw.{pass_law, drawable_of}
use Rattle.jr_laws_steps.specs.Nexts.{IsNext}
use Rattle.jr_laws_steps.proofs.Grown.{end_names, not_ended_yet}
use Rattle.jr_model.proofs.HistoryLemmas.{outcome_of-stays, outcome_of-end, start_ends_none}
use Rattle.jr_model.proofs.ListLemmas.{all_got}
use Rattle.jr_laws_steps.proofs.StartedLemmas.{started_below}
use Rattle.jr_laws_log.specs.Flying.{flight_of}
use Rattle.jr_laws_log.proofs.FlyingLaws.{others_fly_on, raced_in_flight}
use Rattle.jr_replay.specs.Indexes.{AreRacedEnds}

-- ---- what fits

-- nor is a draw's
pub draw_fits : (plan : Plan) (pass : Pass) (draw : Draw) → IsPlanned plan → clone_of plan pass.job.clone ≡ Some pass.job → pass ≡ pass_of pass.job pass.number → slice_get pass.draws draw.number ≡ Some draw → piece_fits draw.piece ≡ true
draw_fits plan pass draw planned there own drawn =
    let job = pass.job in
    let law = pass_law job (drawable_of job (planned.drafted.limited job.clone job there)) in
    let words = pass_words job pass.number (4 * job.cells) in
    all_got (λ (d : Draw). piece_fits d.piece ≡ true) (draws_over job words) draw.number draw (law.fits words)
    (subst (λ (q : Pass). slice_get q.draws draw.number ≡ Some draw) own drawn)

-- ---- what flies
-- an event that starts nothing and ends nothing changes nothing of it
pub flies_on : (plan : Plan) (h : List Event) (e : Event) → started_by e ≡ None → ((worker io : ℕ) (outcome : Outcome) → e ≡ End worker io outcome → ⊥) → flight_of plan h ≡ flight_of plan (h ++ e ∷ [])
flies_on plan h (Issue worker kind write piece) starts ends = cc
flies_on plan h (Probe worker write piece) starts ends = cc
flies_on plan h (End worker io outcome) starts ends = absurd (ends worker io outcome refl)
flies_on plan h (Skip worker write) starts ends = sym (others_fly_on plan h worker 0 write verdict.Good).0
flies_on plan h (Verdict worker io said) starts ends =
    let any : WriteId = record { clone = 0; pass = 0; number = 0 } in
    sym (others_fly_on plan h worker io any said).1

-- ---- what raced of what ended

-- where nothing ends, the same ended and raced
same_ended : (plan : Plan) (h : List Event) (e : Event) (io : ℕ) → IsNext plan h e → end_of io e ≡ None → (is_some (outcome_of h io) && has_raced h io) ≡ (is_some (outcome_of (h ++ e ∷ []) io) && has_raced (h ++ e ∷ []) io)
same_ended plan h e io next ends =
    by_outcome (outcome_of h io) refl
    ∙ sym (ap (λ (o : Option Outcome). is_some o && has_raced (h ++ e ∷ []) io) (outcome_of-stays h e io ends))
  where
    by_outcome : (o : Option Outcome) → outcome_of h io ≡ o → (is_some (outcome_of h io) && has_raced h io) ≡ (is_some (outcome_of h io) && has_raced (h ++ e ∷ []) io)
    by_outcome None is =
        ap (λ (o : Option Outcome). is_some o && has_raced h io) is
        ∙ sym (ap (λ (o : Option Outcome). is_some o && has_raced (h ++ e ∷ []) io) is)
    by_outcome (Some outcome) is = elim (cases_lt io (length (started h))) [
      | inl below ↦
          ap (λ (b : Bool). is_some (outcome_of h io) && b)
          (sym (raced_for_good h e io below
          (ap (λ (o : Option Outcome). nat_lt io (length (started h)) && is_none o) is ∙ and-false (nat_lt io (length (started h))))))
      | inr beyond ↦ absurd (none-some outcome (sym (not_ended_yet plan h io next.legal beyond) ∙ is))
    ]

pub raced_stay : {S : Type 0} (plan : Plan) (h : List Event) (e : Event) (raced : HashSet ℕ S) → IsNext plan h e → ((io : ℕ) → end_of io e ≡ None) → AreRacedEnds h raced → AreRacedEnds (h ++ e ∷ []) raced
raced_stay plan h e raced next ends were = λ io. were io ∙ same_ended plan h e io next (ends io)

pub raced_start : {S : Type 0} (plan : Plan) (h : List Event) (e : Event) (s : Started) (raced : HashSet ℕ S) → IsNext plan h e → started_by e ≡ Some s → AreRacedEnds h raced → AreRacedEnds (h ++ e ∷ []) raced
raced_start plan h e s raced next starts were = raced_stay plan h e raced next (λ io. start_ends_none e s io starts) were

other_ends_none : (e : Event) (io : ℕ) → ((worker id : ℕ) (outcome : Outcome) → e ≡ End worker id outcome → ⊥) → end_of io e ≡ None
other_ends_none (Issue worker kind write piece) io ends = refl
other_ends_none (Probe worker write piece) io ends = refl
other_ends_none (Skip worker write) io ends = refl
other_ends_none (Verdict worker id verdict) io ends = refl
other_ends_none (End worker id outcome) io ends = absurd (ends worker id outcome refl)

pub raced_other_event : {S : Type 0} (plan : Plan) (h : List Event) (e : Event) (raced : HashSet ℕ S) → IsNext plan h e → ((worker id : ℕ) (outcome : Outcome) → e ≡ End worker id outcome → ⊥) → AreRacedEnds h raced → AreRacedEnds (h ++ e ∷ []) raced
raced_other_event plan h e raced next ends were = raced_stay plan h e raced next (λ io. other_ends_none e io ends) were

-- what ends is kept where it raced
pub raced_end : {S : Type 0} (plan : Plan) (h : List Event) (worker id : ℕ) (outcome : Outcome) (old new : HashSet ℕ S) → IsNext plan h (End worker id outcome) → ((io : ℕ) → contains nat_eq new io ≡ (contains nat_eq old io || (nat_eq id io && raced_so_far (flying_io id (flight_of plan h))))) → AreRacedEnds h old → AreRacedEnds (h ++ End worker id outcome ∷ []) new
raced_end plan h worker id outcome old new next now were = λ io. by_number io (cases_eq id io)
  where
    after : List Event
    after = h ++ End worker id outcome ∷ []

    going : outcome_of h id ≡ None
    going = (end_names plan h worker id outcome next.may).flies

    flying : flies h id ≡ true
    flying =
        and_from (nat_lt id (length (started h))) (is_none (outcome_of h id))
        (lt-ltb id (length (started h)) (started_below h id (end_names plan h worker id outcome next.may).ended (end_names plan h worker id outcome next.may).there))
        (ap is_none going)

    or_false : (b : Bool) → (b || false) ≡ b
    or_false true = refl
    or_false false = refl

    mark : Bool
    mark = raced_so_far (flying_io id (flight_of plan h))

    own : contains nat_eq new id ≡ (is_some (outcome_of after id) && has_raced after id)
    own =
        now id
        ∙ ap (λ (b : Bool). contains nat_eq old id || (b && mark)) (eq-eqb id id refl)
        ∙ ap (λ (b : Bool). b || mark) (were id ∙ ap (λ (o : Option Outcome). is_some o && has_raced h id) going)
        ∙ raced_in_flight plan h id flying
        ∙ sym (raced_other h (End worker id outcome) id refl)
        ∙ sym (ap (λ (o : Option Outcome). is_some o && has_raced after id) (outcome_of-end h worker id outcome going))

    by_number : (io : ℕ) → (id ≡ io) ⊎ (id ≡ io → ⊥) → contains nat_eq new io ≡ (is_some (outcome_of after io) && has_raced after io)
    by_number io (inl same) = subst (λ (n : ℕ). contains nat_eq new n ≡ (is_some (outcome_of after n) && has_raced after n)) same own
    by_number io (inr apart) =
        now io
        ∙ ap (λ (b : Bool). contains nat_eq old io || (b && mark)) (ne_eqb id io apart)
        ∙ or_false (contains nat_eq old io)
        ∙ were io
        ∙ same_ended plan h (End worker id outcome) io next (ap (λ (b : Bool). cond b (Some outcome) None) (ne_eqb id io apart))
