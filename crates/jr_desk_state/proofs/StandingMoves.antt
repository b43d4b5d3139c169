-- How a clone stands after one event more: as before, where the event is none of its own, and with a draw taken up or a write
-- passed, where it checks, skips or ends one.
use Rattle.std.proofs.Common.{◌≡◌, ℕ, ◌<◌, List, Vec, Global, [], ◌∷◌, ◌++◌, length, drop, Bool, true, false, cond, not, ◌&&◌, ◌||◌, slice_set, refl, sym, ◌∙◌, ap, subst, arith, inl, inr}
use Rattle.std.specs.Prelude.{◌⊎◌, Option, Some, None, slice_get, ◌==◌, nat_lt, is_none}
use Rattle.std.specs.List.{list_any}
use Rattle.std.specs.Vec.{with_item}
use Rattle.std.proofs.lemmas.Bool.{and_parts, and_from, and_left, and_right, eq-eqb, ne_eqb, not-true, or_right, false≢true}
use Rattle.std.proofs.lemmas.List.{length-set}
use Rattle.std.proofs.lemmas.List.Folds.{list_any-append}
use Rattle.std.proofs.Math.Bool.{or-false}
use Rattle.jr_model.specs.declared.blocks.Piece.{Piece}
use Rattle.jr_model.specs.declared.events.Event.{Event}
use Rattle.jr_model.specs.declared.events.Event.TheVariants.{Issue, Probe, Skip, End, Verdict}
use Rattle.jr_model.specs.declared.events.IssueKind.{IssueKind}
use Rattle.jr_model.specs.declared.events.Outcome.{Outcome}
use Rattle.jr_model.specs.declared.events.Outcome.TheVariants.{Whole}
use Rattle.jr_model.specs.declared.events.Started.{Started}
use Rattle.jr_model.specs.declared.events.Verdict.{Verdict as GivenVerdict}
use Rattle.jr_model.specs.declared.events.WriteId.{WriteId}
use Rattle.jr_model.specs.Draws.{draws_of_job}
use Rattle.jr_model.specs.History.{started, flies, outcome_of, is_probe, ended_whole, same_write}
use Rattle.jr_model.specs.Legal.{is_legal, is_halted, end_fits, takes_up}
use Rattle.jr_model.specs.Plan.{Plan, SubJob, clone_of}
use Rattle.jr_model.specs.Rounds.{pass_of, issues_of, issued_count, has_rounds}
use Rattle.jr_model.proofs.LegalLaws.{is_legal-more, same_write_refl}
use Rattle.jr_model.specs.PlanFacts.{IsPlanned}
use Rattle.jr_model.proofs.PlanLemmas.{own_place, own_number}
use Rattle.jr_model.proofs.Equality.{other_name}
use Rattle.jr_laws_steps.proofs.StartedLemmas.{started_stays}
use Rattle.jr_laws_steps.proofs.StepLaws.{may_probe_of, may_skip_of}
use Rattle.jr_laws_quiet.proofs.Issues.{issued_same}
use Rattle.jr_backlog.specs.Rounds.{Round, is_to_check, with_passed}
use Rattle.jr_backlog.specs.CurrentRound.{current_round}
use Rattle.jr_backlog.specs.Kept.{after_end, after_issue, round_after}
use Rattle.jr_backlog.proofs.KeptFacts.{rounds_of-more}
use Rattle.jr_laws_rounds.specs.Rounds.{HasRound}
use Rattle.jr_laws_rounds.specs.Standing.{IsInPass}
use Rattle.jr_laws_rounds.proofs.ChoiceSteps.{can_take}
use Rattle.jr_laws_rounds.proofs.KeptLaws.{kept-law}
use Rattle.jr_laws_rounds.proofs.KeptSettled.{ran_before}
use Rattle.jr_laws_rounds.proofs.StandingFlights.{FliesOf}
use Rattle.jr_laws_rounds.proofs.StandingPasses.{TakeIn, take_in}
use Rattle.jr_laws_rounds.proofs.StandingSteps.{other_clone, other_keeps_pass}
use Rattle.jr_backlog.specs.Deferred.{Deferred, is_committed, round_now, committed_round}
use Rattle.jr_backlog.proofs.WalkedFacts.{settled_now}
use Rattle.jr_laws_steps.specs.Nexts.{IsNext, grown}
use Rattle.jr_laws_steps.proofs.Lists.{got_set}
use Rattle.jr_desk_state.specs.declared.standings.Issued.{Issued}
use Rattle.jr_desk_state.specs.declared.standings.Standing.{Standing}
use Rattle.jr_desk_state.specs.Standings.{IsStanding, WasIssued, name_of}
use Rattle.jr_desk_state.proofs.StandingDues.{IsLeft, left_where_taken, left_to_check, taken_in_pass, taken_was_issued, left_in_flight, flies_in_pass}

now_settled : (round : Round) (waiting : Option WriteId) (ended : Bool)
    → (is_none waiting && not ended) ≡ true
    → round_now (record { round = round; waiting = waiting; ended = ended }) ≡ round
now_settled round None false h = refl
now_settled round None true h = cc
now_settled round (Some write) ended h = cc

-- whether a draw was taken up after one event more
taken_after : (h : List Event) (e : Event) (name : WriteId)
    → list_any (takes_up name) (h ++ e ∷ []) ≡ (list_any (takes_up name) h || takes_up name e)
taken_after h e name =
    list_any-append (takes_up name) h (e ∷ [])
    ∙ ap (λ (b : Bool). list_any (takes_up name) h || b) (or-false (takes_up name e))

-- a draw that was issued, which the event takes up or not
pub issued_stays : (h : List Event) (e : Event) (name : WriteId) (one : Issued)
    → takes_up name e ≡ false
    → WasIssued h name one
    → WasIssued (h ++ e ∷ []) name one
issued_stays h e name one apart was = record {
  io = was.io;
  at = started_stays h (e ∷ []) one.id was.io was.at;
  kind = was.kind;
  named = was.named;
  taken_up =
      was.taken_up
      ∙ sym (taken_after h e name ∙ ap (λ (b : Bool). list_any (takes_up name) h || b) apart ∙ or-false (list_any (takes_up name) h));
}

pub issued_taken : (h : List Event) (e : Event) (name : WriteId) (one : Issued)
    → takes_up name e ≡ true
    → WasIssued h name one
    → WasIssued (h ++ e ∷ []) name (record one { is_taken_up = true })
issued_taken h e name one takes was = record {
  io = was.io;
  at = started_stays h (e ∷ []) one.id was.io was.at;
  kind = was.kind;
  named = was.named;
  taken_up = sym (taken_after h e name ∙ or_right (list_any (takes_up name) h) (takes_up name e) takes);
}

-- the draws of a pass after one of them is taken up
taken_among : (h : List Event) (e : Event) (job : SubJob) (p i : ℕ) (items : List Issued) (old : Issued) (w : WriteId)
    → ((name : WriteId) → takes_up name e ≡ same_write w name)
    → w.clone ≡ job.clone
    → w.pass ≡ p
    → w.number ≡ i
    → slice_get items i ≡ Some old
    → ((k : ℕ) (one : Issued) → slice_get items k ≡ Some one → WasIssued h (name_of job p k) one)
    → (k : ℕ) (one : Issued) → slice_get (slice_set items i (record old { is_taken_up = true })) k ≡ Some one
    → WasIssued (h ++ e ∷ []) (name_of job p k) one
taken_among h e job p i items old w takes own pass number there each k one at =
    by_place (got_set items i k one (record old { is_taken_up = true }) at)
  where
    hit : k ≡ i → same_write w (name_of job p k) ≡ true
    hit same =
        and_from ((w.clone == job.clone) && (w.pass == p)) (w.number == k)
        (and_from (w.clone == job.clone) (w.pass == p) (eq-eqb w.clone job.clone own) (eq-eqb w.pass p pass))
        (eq-eqb w.number k (number ∙ sym same))

    miss : (i ≡ k → ⊥) → same_write w (name_of job p k) ≡ false
    miss apart =
        and_right ((w.clone == job.clone) && (w.pass == p)) (w.number == k) (ne_eqb w.number k (λ same. apart (sym number ∙ same)))

    by_place : ((k ≡ i) × (one ≡ record old { is_taken_up = true })) ⊎ ((i ≡ k → ⊥) × (slice_get items k ≡ Some one))
        → WasIssued (h ++ e ∷ []) (name_of job p k) one
    by_place (inl here) =
        subst (λ (x : Issued). WasIssued (h ++ e ∷ []) (name_of job p k) x) (sym here.1)
        (issued_taken h e (name_of job p k) old (takes (name_of job p k) ∙ hit here.0) (each k old (ap (slice_get items) here.0 ∙ there)))
    by_place (inr other) = issued_stays h e (name_of job p k) one (takes (name_of job p k) ∙ miss other.0) (each k one other.1)

-- one event more, which issues nothing of the clone
module _ (plan : Plan) (h : List Event) (e : Event) (job : SubJob)
    (next : IsNext plan h e)
    (there : clone_of plan job.clone ≡ Some job)
    (none : (q : ℕ) → issues_of (pass_of job q) e ≡ false) where
  -- the current round after it
  pub round_moves : has_rounds job ≡ true
      → is_halted (grown h e) job ≡ false
      → current_round job (grown h e) ≡ round_after job h e (current_round job h)
  round_moves rounds runs =
      sym (kept-law plan (grown h e) job next.planned (is_legal-more plan h e next.legal next.may) there rounds runs)
      ∙ rounds_of-more job h e
      ∙ ap (round_after job h e) (kept-law plan h job next.planned next.legal there rounds (ran_before job h e runs))

  -- it leaves the clone in its pass, with its draws
  pub stands_on : (s : Standing) (issued : Vec Issued Global) (rounds : Deferred) → IsStanding h job s
      → length issued.items ≡ length s.issued.items
      → ((k : ℕ) (one : Issued) → slice_get issued.items k ≡ Some one → WasIssued (grown h e) (name_of job s.pass k) one)
      → (is_halted h job ≡ false → round_now rounds ≡ round_after job h e (round_now s.rounds))
      → IsStanding (grown h e) job (record s { issued = issued; rounds = rounds })
  stands_on s issued rounds now same each moved = record {
    in_pass = other_keeps_pass plan next.planned job there h e s.pass next.legal next.may now.in_pass none;
    draws = now.draws ∙ ap (λ (n : ℕ). drop n (draws_of_job job s.pass)) (sym (issued_same h e (pass_of job s.pass) (none s.pass)));
    later = now.later;
    count = same ∙ now.count ∙ sym (issued_same h e (pass_of job s.pass) (none s.pass));
    issued = each;
    round = λ has runs.
        moved (ran_before job h e runs)
        ∙ ap (round_after job h e) (now.round has (ran_before job h e runs))
        ∙ sym (round_moves has runs);
  }

  -- where it takes up none of the clone's draws and leaves its round, the clone stands as before
  pub stays : (s : Standing)
      → IsStanding h job s
      → ((w : WriteId) → w.clone ≡ job.clone → takes_up w e ≡ false)
      → (is_halted h job ≡ false → (round : Round) → round_after job h e round ≡ round)
      → IsStanding (grown h e) job s
  stays s now apart same =
      stands_on s s.issued s.rounds now refl
      (λ k one at. issued_stays h e (name_of job s.pass k) one (apart (name_of job s.pass k) refl) (now.issued k one at))
      (λ ran. sym (same ran (round_now s.rounds)))

  -- where it takes up one of the draws of the clone's pass
  pub takes_one : (s : Standing) (i : ℕ) (old : Issued) (rounds : Deferred) (w : WriteId) → IsStanding h job s
      → ((name : WriteId) → takes_up name e ≡ same_write w name)
      → w.clone ≡ job.clone
      → w.pass ≡ s.pass
      → w.number ≡ i
      → slice_get s.issued.items i ≡ Some old
      → (is_halted h job ≡ false → round_now rounds ≡ round_after job h e (round_now s.rounds))
      → IsStanding (grown h e) job (record s { issued = with_item s.issued i (record old { is_taken_up = true }); rounds = rounds })
  takes_one s i old rounds w now takes own pass number at moved =
      let taken : Issued = record old { is_taken_up = true } in
      stands_on s (with_item s.issued i taken) rounds now (length-set s.issued.items i taken)
      (taken_among h e job s.pass i s.issued.items old w takes own pass number at now.issued)
      moved

module _ (plan : Plan) (h : List Event) (job : SubJob) (s : Standing) (now : IsStanding h job s) where
  -- what is checked or skipped is a draw of the pass that was issued
  here_of : (w : WriteId)
      → IsPlanned plan
      → clone_of plan job.clone ≡ Some job
      → TakeIn plan job h w
      → (w.pass ≡ s.pass) × (w.number < length s.issued.items)
  here_of w planned there take =
      let pass = taken_in_pass plan planned job there h w s.pass take now.in_pass in
      let issued = taken_was_issued plan planned job there h w take in
      let same = ap (λ (p : ℕ). issued_count h (pass_of job p)) pass in
      let count = now.count in
      (pass, omega (arith, issued, same, count))

  taken_in_probe : (worker : ℕ) (write : WriteId) (piece : Piece)
      → IsNext plan h (Probe worker write piece)
      → clone_of plan write.clone ≡ Some job
      → TakeIn plan job h write
  taken_in_probe worker write piece next at =
      take_in plan next.planned job (own_place plan write.clone job next.planned at) h write
      (may_probe_of plan h worker write piece next.may).0 (own_number plan write.clone job next.planned at)

  taken_in_skip : (worker : ℕ) (write : WriteId)
      → IsNext plan h (Skip worker write)
      → clone_of plan write.clone ≡ Some job
      → TakeIn plan job h write
  taken_in_skip worker write next at =
      take_in plan next.planned job (own_place plan write.clone job next.planned at) h write
      (may_skip_of plan h worker write next.may) (own_number plan write.clone job next.planned at)

  pub taken_up_here : (worker : ℕ) (write : WriteId) (piece : Piece)
      → IsNext plan h (Probe worker write piece)
      → clone_of plan write.clone ≡ Some job
      → (write.pass ≡ s.pass) × (write.number < length s.issued.items)
  taken_up_here worker write piece next at =
      here_of write next.planned (own_place plan write.clone job next.planned at) (taken_in_probe worker write piece next at)

  pub skipped_here : (worker : ℕ) (write : WriteId)
      → IsNext plan h (Skip worker write)
      → clone_of plan write.clone ≡ Some job
      → (write.pass ≡ s.pass) × (write.number < length s.issued.items)
  skipped_here worker write next at =
      here_of write next.planned (own_place plan write.clone job next.planned at) (taken_in_skip worker write next at)

  -- a write that is left in the pass is still to check
  left_here : (w : WriteId)
      → IsPlanned plan
      → is_legal plan h ≡ true
      → clone_of plan job.clone ≡ Some job
      → w.clone ≡ job.clone
      → w.pass ≡ s.pass
      → is_halted h job ≡ false
      → is_committed s.rounds ≡ true
      → IsLeft job h w
      → is_to_check s.rounds.round w ≡ true
  left_here w planned legal there own pass runs settled left =
      let round : HasRound plan h job w.pass = record {
        planned = planned;
        legal = legal;
        there = there;
        in_pass = subst (λ (p : ℕ). IsInPass h job p) (sym pass) now.in_pass;
        rounds = left.rounds;
        runs = runs;
      } in
      subst (λ (r : Round). is_to_check r w ≡ true) (sym (now.round left.rounds runs) ∙ settled_now s.rounds settled)
      (left_to_check plan h job w round own left)

  -- what is skipped, or is checked and ends, is still to check
  pub skip_left : (worker : ℕ) (write : WriteId)
      → IsNext plan h (Skip worker write)
      → clone_of plan write.clone ≡ Some job
      → is_committed s.rounds ≡ true
      → is_to_check s.rounds.round write ≡ true
  skip_left worker write next at settled =
      let own = own_number plan write.clone job next.planned at in
      let there = own_place plan write.clone job next.planned at in
      let take = taken_in_skip worker write next at in
      let can = can_take plan h (pass_of job write.pass) take.draw take.may in
      left_here write next.planned next.legal there own (skipped_here worker write next at).0
      (not-true (is_halted h job) can.going) settled
      (left_where_taken plan job h write own take)

  flying : (id : ℕ) → flies h id ≡ true → outcome_of h id ≡ None
  flying id going = none_is (outcome_of h id) (and_parts (nat_lt id (length (started h))) (is_none (outcome_of h id)) going).1
    where
      none_is : (o : Option Outcome) → is_none o ≡ true → o ≡ None
      none_is None g = refl
      none_is (Some outcome) g = cc

  pub check_left : (worker id : ℕ) (io : Started)
      → IsNext plan h (End worker id Whole)
      → slice_get (started h) id ≡ Some io
      → is_probe io.kind ≡ true
      → clone_of plan io.write.clone ≡ Some job
      → is_halted h job ≡ false
      → is_committed s.rounds ≡ true
      → is_to_check s.rounds.round io.write ≡ true
  check_left worker id io next at check clone runs settled =
      let own = own_number plan io.write.clone job next.planned clone in
      let there = own_place plan io.write.clone job next.planned clone in
      let test : Started → Bool = λ (x : Started). is_probe x.kind && same_write x.write io.write in
      let f : FliesOf h job.clone test = record {
        id = id;
        io = io;
        at = at;
        going = flying id (and_parts (flies h id) (end_fits worker Whole (slice_get (started h) id)) next.may).0;
        clone = own;
        passes = and_from (is_probe io.kind) (same_write io.write io.write) check (same_write_refl io.write);
      } in
      left_here io.write next.planned next.legal there own
      (flies_in_pass plan next.planned job there h s.pass test next.legal now.in_pass f) runs settled
      (left_in_flight plan next.planned job there h next.legal io.write own f)

  -- a clone stands as before where the event is another's
  pub stays_other_issue : (worker : ℕ) (dir : IssueKind) (write : WriteId) (piece : Piece)
      → IsNext plan h (Issue worker dir write piece)
      → clone_of plan job.clone ≡ Some job
      → (write.clone ≡ job.clone → ⊥)
      → IsStanding (grown h (Issue worker dir write piece)) job s
  stays_other_issue worker dir write piece next there apart =
      stays plan h (Issue worker dir write piece) job next there (λ q. other_clone job q worker dir write piece apart) s now
      (λ w own. refl)
      (λ ran round.
      ap {B = Round} (λ (b : Bool). cond b (after_issue job (grown h (Issue worker dir write piece)) dir write round) round)
      (ne_eqb write.clone job.clone apart))

  pub stays_other_probe : (worker : ℕ) (write : WriteId) (piece : Piece)
      → IsNext plan h (Probe worker write piece)
      → clone_of plan job.clone ≡ Some job
      → (write.clone ≡ job.clone → ⊥)
      → IsStanding (grown h (Probe worker write piece)) job s
  stays_other_probe worker write piece next there apart =
      stays plan h (Probe worker write piece) job next there (λ q. refl) s now
      (λ w own. other_name write w job.clone apart own)
      (λ ran round. refl)

  pub stays_other_skip : (worker : ℕ) (write : WriteId)
      → IsNext plan h (Skip worker write)
      → clone_of plan job.clone ≡ Some job
      → (write.clone ≡ job.clone → ⊥)
      → IsStanding (grown h (Skip worker write)) job s
  stays_other_skip worker write next there apart =
      stays plan h (Skip worker write) job next there (λ q. refl) s now
      (λ w own. other_name write w job.clone apart own)
      (λ ran round. ap {B = Round} (λ (b : Bool). cond b (with_passed round write) round) (ne_eqb write.clone job.clone apart))

  pub stays_verdict : (worker id : ℕ) (verdict : GivenVerdict)
      → IsNext plan h (Verdict worker id verdict)
      → clone_of plan job.clone ≡ Some job
      → IsStanding (grown h (Verdict worker id verdict)) job s
  stays_verdict worker id verdict next there =
      stays plan h (Verdict worker id verdict) job next there (λ q. refl) s now (λ w own. refl) (λ ran round. refl)

  -- and where an I/O ends that is no check, or is of another clone, or didn't end whole; or where the clone is halted
  module _ (worker id : ℕ) (outcome : Outcome) (io : Started)
      (next : IsNext plan h (End worker id outcome))
      (there : clone_of plan job.clone ≡ Some job)
      (at : slice_get (started h) id ≡ Some io) where
    passes_not : (is_probe io.kind && (io.write.clone == job.clone) && ended_whole (Some outcome)) ≡ false
        → (round : Round)
        → round_after job h (End worker id outcome) round ≡ round
    passes_not apart round =
        ap (λ (o : Option Started). after_end job (Some outcome) o round) at
        ∙ ap {B = Round} (λ (b : Bool). cond b (with_passed round io.write) round) apart

    pub stays_end : (is_halted h job ≡ false → (is_probe io.kind && (io.write.clone == job.clone) && ended_whole (Some outcome)) ≡ false)
        → IsStanding (grown h (End worker id outcome)) job s
    stays_end apart =
        stays plan h (End worker id outcome) job next there (λ q. refl) s now (λ w own. refl) (λ ran round. passes_not (apart ran) round)

    pub stays_end_issue : is_probe io.kind ≡ false → IsStanding (grown h (End worker id outcome)) job s
    stays_end_issue issue =
        stays_end (λ ran.
        and_left (is_probe io.kind && (io.write.clone == job.clone)) (ended_whole (Some outcome))
        (and_left (is_probe io.kind) (io.write.clone == job.clone) issue))

    pub stays_end_other : (io.write.clone ≡ job.clone → ⊥) → IsStanding (grown h (End worker id outcome)) job s
    stays_end_other apart =
        stays_end (λ ran.
        and_left (is_probe io.kind && (io.write.clone == job.clone)) (ended_whole (Some outcome))
        (and_right (is_probe io.kind) (io.write.clone == job.clone) (ne_eqb io.write.clone job.clone apart)))

    pub stays_end_fault : ended_whole (Some outcome) ≡ false → IsStanding (grown h (End worker id outcome)) job s
    stays_end_fault fault =
        stays_end (λ ran. and_right (is_probe io.kind && (io.write.clone == job.clone)) (ended_whole (Some outcome)) fault)

    pub stays_end_halted : is_halted h job ≡ true → IsStanding (grown h (End worker id outcome)) job s
    stays_end_halted halted = stays_end (λ ran. absurd (false≢true (sym ran ∙ halted)))

  -- after the check of one of its writes
  pub probe_moves : (worker i : ℕ) (write : WriteId) (piece : Piece) (old : Issued)
      → IsNext plan h (Probe worker write piece)
      → clone_of plan write.clone ≡ Some job
      → write.number ≡ i
      → slice_get s.issued.items i ≡ Some old
      → IsStanding (grown h (Probe worker write piece)) job
      (record s { issued = with_item s.issued i (record old { is_taken_up = true }) })
  probe_moves worker i write piece old next at number item =
      takes_one plan h (Probe worker write piece) job next (own_place plan write.clone job next.planned at) (λ q. refl)
      s i old s.rounds write now
      (λ name. refl) (own_number plan write.clone job next.planned at) (taken_up_here worker write piece next at).0 number item (λ ran. refl)

  -- after the skip of one
  pub skip_moves : (worker : ℕ) (write : WriteId) (old : Issued)
      → IsNext plan h (Skip worker write)
      → clone_of plan write.clone ≡ Some job
      → slice_get s.issued.items write.number ≡ Some old
      → is_committed s.rounds ≡ true
      → IsStanding (grown h (Skip worker write)) job (record s {
        issued = with_item s.issued write.number (record old { is_taken_up = true });
        rounds = committed_round (with_passed s.rounds.round write);
      })
  skip_moves worker write old next at item settled =
      let own = own_number plan write.clone job next.planned at in
      takes_one plan h (Skip worker write) job next (own_place plan write.clone job next.planned at) (λ q. refl) s write.number old
      (committed_round (with_passed s.rounds.round write)) write now
      (λ name. refl) own (skipped_here worker write next at).0 refl item
      (λ ran.
      ap (λ (round : Round). with_passed round write) (sym (settled_now s.rounds settled))
      ∙ sym (ap {B = Round} (λ (b : Bool). cond b (with_passed (round_now s.rounds) write) (round_now s.rounds))
      (eq-eqb write.clone job.clone own)))

  -- and after the check of one ended whole
  pub check_moves : (worker id : ℕ) (io : Started)
      → IsNext plan h (End worker id Whole)
      → slice_get (started h) id ≡ Some io
      → is_probe io.kind ≡ true
      → clone_of plan io.write.clone ≡ Some job
      → is_committed s.rounds ≡ true
      → IsStanding (grown h (End worker id Whole)) job (record s { rounds = committed_round (with_passed s.rounds.round io.write) })
  check_moves worker id io next at check clone settled =
      let own = own_number plan io.write.clone job next.planned clone in
      stands_on plan h (End worker id Whole) job next (own_place plan io.write.clone job next.planned clone) (λ q. refl) s s.issued
      (committed_round (with_passed s.rounds.round io.write)) now refl
      (λ k one found. issued_stays h (End worker id Whole) (name_of job s.pass k) one refl (now.issued k one found))
      (λ ran.
      ap (λ (round : Round). with_passed round io.write) (sym (settled_now s.rounds settled))
      ∙ sym (ap (λ (o : Option Started). after_end job (Some Whole) o (round_now s.rounds)) at
      ∙ ap {B = Round} (λ (b : Bool). cond b (with_passed (round_now s.rounds) io.write) (round_now s.rounds))
      (and_from (is_probe io.kind && (io.write.clone == job.clone)) true
      (and_from (is_probe io.kind) (io.write.clone == job.clone) check (eq-eqb io.write.clone job.clone own)) refl)))
