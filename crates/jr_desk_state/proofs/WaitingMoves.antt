-- A clone that waits for an end of its own goes on waiting until one comes.
use Rattle.std.proofs.Common.{◌≡◌, ◌+◌, ◌-◌, ◌*◌, ◌^◌, ◌<◌, ◌≤◌, ◌⊎◌, ℕ, List, [], ◌∷◌, ◌++◌, length, true, false, cond, not, sym, ◌∙◌, ap, subst, arith, inl, inr}
use Rattle.std.specs.Prelude.{Option, Some, None, slice_get, ◌==◌}
use Rattle.std.proofs.lemmas.Bool.{or_cases, or_left, or_right, cases_Bool, cases_lt, both_ways, ne_eqb, le-ltb, lt-ltb, not-true}
use Rattle.std.proofs.lemmas.Option.{same_Some}
use Rattle.jr_model.specs.declared.events.Event.{Event}
use Rattle.jr_model.specs.declared.events.Event.TheVariants.{Issue, Probe, Skip, End, Verdict}
use Rattle.jr_model.specs.declared.events.Outcome.{Outcome}
use Rattle.jr_model.specs.declared.events.Started.{Started}
use Rattle.jr_model.specs.Choice.{choice_of_clone}
use Rattle.jr_model.specs.History.{started}
use Rattle.jr_model.specs.Legal.{has_room, is_at_rest, is_halted, is_io_of, is_legal, may_happen}
use Rattle.jr_model.specs.Plan.{Plan, SubJob, clone_of}
use Rattle.jr_laws_rounds.proofs.KeptSettled.{ran_before}
use Rattle.jr_model.specs.PlanFacts.{IsPlanned}
use Rattle.jr_model.proofs.PlanLemmas.{own_place, own_number}
use Rattle.jr_laws_rounds.proofs.StandingSteps.{always_in_pass}
use Rattle.jr_laws_steps.specs.Nexts.{IsNext, grown}
use Rattle.jr_desk_totals.specs.declared.tallies.Counts.{Counts}
use Rattle.jr_desk_totals.specs.declared.tallies.Tallies.{Tallies}
use Rattle.jr_desk_totals.specs.Tallying.{IsTallied}
use Rattle.jr_desk_totals.specs.Tallies.{Tally, flying_issues, flying_checks, named_in, tally_after, tally_of}
use Rattle.jr_desk_totals.proofs.Compared.{has_room-counts}
use Rattle.jr_desk_totals.proofs.Counted.{tally-more, tally_after-other}
use Rattle.jr_desk_totals.proofs.TallyMoves.{counts_are}
use Rattle.jr_desk_state.specs.declared.waiting.Waiting.{Waiting}
use Rattle.jr_desk_state.specs.Waitings.{AreWaiting, is_blocked, is_marked, waits_for_own}
use Rattle.jr_desk_state.proofs.ChoiceMoves.{chosen, step_blocked}
use Rattle.jr_desk_state.proofs.RestKept.{none_at_rest, rests_on}

-- nothing of the clone ends by the event, which names this I/O
abbrev pub EndsNothing : ℕ → Option Started → Event → Type 0
EndsNothing c io (End worker id outcome) = is_io_of c io ≡ false
EndsNothing c io (Issue worker kind write piece) = Unit {0}
EndsNothing c io (Probe worker write piece) = Unit {0}
EndsNothing c io (Skip worker write) = Unit {0}
EndsNothing c io (Verdict worker id verdict) = Unit {0}

abbrev in_flight_in : Tally → ℕ
in_flight_in t = t.issues + t.checks

-- so no less of it flies
no_fewer : (c : ℕ) (io : Option Started) (e : Event) (t : Tally) → EndsNothing c io e → in_flight_in t ≤ in_flight_in (tally_after c io e t)
no_fewer c io (Issue worker kind write piece) t ends =
    elim (cases_Bool (write.clone == c)) [
      | inl own ↦ let same = ap (λ b. in_flight_in (cond b (record t { issues = t.issues + 1 }) t)) own in omega (arith, same)
      | inr other ↦ let same = ap (λ b. in_flight_in (cond b (record t { issues = t.issues + 1 }) t)) other in omega (arith, same)
    ]
no_fewer c io (Probe worker write piece) t ends =
    elim (cases_Bool (write.clone == c)) [
      | inl own ↦ let same = ap (λ b. in_flight_in (cond b (record t { checks = t.checks + 1 }) t)) own in omega (arith, same)
      | inr other ↦ let same = ap (λ b. in_flight_in (cond b (record t { checks = t.checks + 1 }) t)) other in omega (arith, same)
    ]
no_fewer c io (Skip worker write) t ends = omega (arith)
no_fewer c io (End worker id outcome) t ends =
    let same = ap in_flight_in (tally_after-other c io (End worker id outcome) t ends) in
    omega (arith, same)
no_fewer c io (Verdict worker id verdict) t ends =
    elim (cases_Bool (is_io_of c io)) [
      | inl own ↦ let same = ap (λ b. in_flight_in (cond b (record t { verdicts = t.verdicts - 1 }) t)) own in omega (arith, same)
      | inr other ↦ let same = ap (λ b. in_flight_in (cond b (record t { verdicts = t.verdicts - 1 }) t)) other in omega (arith, same)
    ]

blocked_longer : (plan : Plan) (h : List Event) (e : Event) (job : SubJob) → is_legal plan h ≡ true → may_happen plan h e ≡ true
    → EndsNothing job.clone (named_in (started h) e) e → is_blocked h job ≡ true → is_blocked (h ++ e ∷ []) job ≡ true
blocked_longer plan h e job legal may ends waits =
    let later = h ++ e ∷ [] in
    let flies = λ (past : List Event). flying_issues past job.clone + flying_checks past job.clone in
    elim (or_cases (is_halted h job) (not (has_room h job)) waits) [
      | inl halted ↦
          elim (cases_Bool (is_halted later job)) [
            | inl still ↦ or_left (is_halted later job) (not (has_room later job)) still
            | inr runs ↦ absurd (both_ways (is_halted h job) (ran_before job h e runs) halted)
          ]
      | inr full ↦
          let before = no_fewer job.clone (named_in (started h) e) e (tally_of h job.clone) ends in
          let same = ap in_flight_in (tally-more plan h e job.clone legal may) in
          let none : has_room h job ≡ false = not-true (has_room h job) full in
          elim (cases_lt (flies h) job.depth) [
            | inl room ↦ absurd (both_ways (has_room h job) none (has_room-counts h job ∙ lt-ltb (flies h) job.depth room))
            | inr much ↦
                or_right (is_halted later job) (not (has_room later job))
                (ap not (has_room-counts later job ∙ le-ltb (flies later) job.depth (omega (arith, much, before, same))))
          ]
    ]

waits_longer : (plan : Plan) (h : List Event) (e : Event) (job : SubJob) → IsNext plan h e → clone_of plan job.clone ≡ Some job
    → EndsNothing job.clone (named_in (started h) e) e → waits_for_own h job ≡ true → waits_for_own (h ++ e ∷ []) job ≡ true
waits_longer plan h e job next there ends waits =
    let later = h ++ e ∷ [] in
    elim (or_cases (is_blocked h job) (is_at_rest h job) waits) [
      | inl blocked ↦ or_left (is_blocked later job) (is_at_rest later job) (blocked_longer plan h e job next.legal next.may ends blocked)
      | inr rests ↦ or_right (is_blocked later job) (is_at_rest later job)
          (rests_on plan h e job next there rests)
    ]

-- those that are known to wait do so after an event that ends nothing of one of them
pub waiting_grows : (plan : Plan) (h : List Event) (e : Event) (waiting : Waiting) → IsNext plan h e
    → ((c : ℕ) → is_marked waiting.words.items c ≡ true → EndsNothing c (named_in (started h) e) e)
    → AreWaiting plan h waiting → AreWaiting plan (grown h e) waiting
waiting_grows plan h e waiting next ends are = record {
  few = are.few;
  each = λ c job there marked.
      waits_longer plan h e job next (own_place plan c job next.planned there)
      (subst (λ (k : ℕ). EndsNothing k (named_in (started h) e) e) (own_number plan c job next.planned there) (ends c marked))
      (are.each c job there marked);
}

-- such is the end of something of a clone that isn't
pub ends_free : (h : List Event) (worker id own : ℕ) (outcome : Outcome) (io : Started) (words : List ℕ)
    → slice_get (started h) id ≡ Some io → io.write.clone ≡ own → is_marked words own ≡ false
    → (c : ℕ) → is_marked words c ≡ true → EndsNothing c (named_in (started h) (End worker id outcome)) (End worker id outcome)
ends_free h worker id own outcome io words at clone free c marked =
    ap (is_io_of c) at
    ∙ ne_eqb io.write.clone c
    (λ same. both_ways (is_marked words own) free (subst (λ (k : ℕ). is_marked words k ≡ true) (sym same ∙ clone) marked))

-- with a mark on one that waits
pub waiting_marked : (plan : Plan) (h : List Event) (old new : Waiting) (clone : ℕ) → AreWaiting plan h old
    → length new.words.items ≡ length old.words.items
    → ((c : ℕ) → is_marked new.words.items c ≡ true → (c ≡ clone) ⊎ (is_marked old.words.items c ≡ true))
    → ((job : SubJob) → clone_of plan clone ≡ Some job → waits_for_own h job ≡ true)
    → AreWaiting plan h new
waiting_marked plan h old new clone are len others waits = record {
  few = omega (arith, len, are.few);
  each = λ c job there marked.
      elim (others c marked) [
        | inl same ↦ waits job (subst (λ (k : ℕ). clone_of plan k ≡ Some job) same there)
        | inr was ↦ are.each c job there was
      ];
}

-- and with a mark fewer
pub waiting_released : (plan : Plan) (h : List Event) (old new : Waiting) → AreWaiting plan h old
    → length new.words.items ≡ length old.words.items
    → ((c : ℕ) → is_marked new.words.items c ≡ true → is_marked old.words.items c ≡ true)
    → AreWaiting plan h new
waiting_released plan h old new are len others = record {
  few = omega (arith, len, are.few);
  each = λ c job there marked. are.each c job there (others c marked);
}

-- none is known to wait as a run begins
pub waiting_none : (plan : Plan) (h : List Event) (waiting : Waiting) → 64 * length waiting.words.items < 2 ^ 64
    → ((c : ℕ) → is_marked waiting.words.items c ≡ false) → AreWaiting plan h waiting
waiting_none plan h waiting few none = record {
  few = few;
  each = λ c job there marked. absurd (both_ways (is_marked waiting.words.items c) (none c) marked);
}

-- a clone waits that has as much in flight as it may
pub waits_full : (plan : Plan) (h : List Event) (tallies : Tallies) (clone : ℕ) (counts : Counts) (own : SubJob) → IsTallied plan h tallies
    → clone_of plan clone ≡ Some own → slice_get tallies.counts.items clone ≡ Some counts → own.depth ≤ counts.issues + counts.checks
    → (job : SubJob) → clone_of plan clone ≡ Some job → waits_for_own h job ≡ true
waits_full plan h tallies clone counts own tallied there counted full job planned =
    let same : own ≡ job = same_Some own job (sym there ∙ planned) in
    let are = counts_are plan h tallies clone job counts tallied planned counted in
    let issues : counts.issues ≡ flying_issues h job.clone = ap (λ (k : Counts). k.issues) are in
    let checks : counts.checks ≡ flying_checks h job.clone = ap (λ (k : Counts). k.checks) are in
    let much : job.depth ≤ counts.issues + counts.checks = subst (λ (j : SubJob). j.depth ≤ counts.issues + counts.checks) same full in
    or_left (is_blocked h job) (is_at_rest h job)
    (or_right (is_halted h job) (not (has_room h job))
    (ap not (has_room-counts h job ∙ le-ltb (flying_issues h job.clone + flying_checks h job.clone) job.depth (omega (arith, much, issues, checks)))))

-- nothing of a clone that waits so may be started
pub none_waiting : (plan : Plan) (c : ℕ) (job : SubJob) (h : List Event) (worker : ℕ) → IsPlanned plan → is_legal plan h ≡ true
    → clone_of plan c ≡ Some job → waits_for_own h job ≡ true → choice_of_clone plan h worker job ≡ None
none_waiting plan c job h worker planned legal there waits =
    let now = always_in_pass plan planned job (own_place plan c job planned there) h legal in
    elim (or_cases (is_blocked h job) (is_at_rest h job) waits) [
      | inl blocked ↦ chosen plan h worker c now.0 job planned legal there now.1 ∙ step_blocked plan h worker job now.0 blocked
      | inr rests ↦ none_at_rest plan planned c job there h legal worker rests
    ]
