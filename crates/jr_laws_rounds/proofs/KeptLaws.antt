-- The round that is left by the calls of a desk is the current round.
use Rattle.std.proofs.Common.{◌≡◌, ℕ, ◌≤◌, List, [], ◌∷◌, ◌++◌, length, Bool, true, false, cond, ◌&&◌, ◌||◌, refl, sym, ◌∙◌, ap, arith, inl, inr}
use Rattle.std.specs.Prelude.{◌⊎◌, Option, Some, None, slice_get, ◌==◌}
use Rattle.std.specs.Option.{option_or}
use Rattle.std.proofs.lemmas.Bool.{and_from, and_left, and_right, cases_eq, eq-eqb, ne_eqb, false≢true}
use Rattle.std.proofs.Math.Bool.{or-false}
use Rattle.jr_model.specs.declared.blocks.Piece.{Piece}
use Rattle.jr_model.specs.declared.events.Event.{Event}
use Rattle.jr_model.specs.declared.events.Event.TheVariants.{Issue, Probe, Skip, End, Verdict}
use Rattle.jr_model.specs.declared.events.IssueKind.{IssueKind}
use Rattle.jr_model.specs.declared.events.IssueKind.TheVariants as issue
use Rattle.jr_model.specs.declared.events.Outcome.{Outcome}
use Rattle.jr_model.specs.declared.events.Outcome.TheVariants.{Whole, Failed, Short}
use Rattle.jr_model.specs.declared.events.Started.{Started}
use Rattle.jr_model.specs.declared.events.WriteId.{WriteId}
use Rattle.jr_model.specs.Draws.{draws_of_job}
use Rattle.jr_model.specs.History.{started, kind_for, is_probe, is_write, ended_whole, same_write}
use Rattle.jr_model.specs.Legal.{is_legal, may_happen, is_fault, is_io_of, is_halted}
use Rattle.jr_model.specs.Plan.{Plan, SubJob, IsNumbered, clone_of}
use Rattle.jr_model.specs.Rounds.{pass_of, issued_count, all_issued, has_rounds, is_probe_of, is_settled}
use Rattle.jr_model.specs.PlanFacts.{IsPlanned}
use Rattle.jr_model.proofs.HistoryLemmas.{by_events}
use Rattle.jr_model.proofs.PlanLemmas.{numbered_of}
use Rattle.jr_model.proofs.Equality.{other_name}
use Rattle.jr_laws_quiet.proofs.Issues.{issued_same}
use Rattle.jr_backlog.specs.Rounds.{Round, new_round, with_passed, with_exhausted}
use Rattle.jr_backlog.specs.CurrentRound.{write_issued, last_issued, round_up_to, current_round}
use Rattle.jr_backlog.specs.Kept.{after_issue, after_end, round_after, rounds_of}
use Rattle.jr_backlog.proofs.KeptFacts.{rounds_of-more}
use Rattle.jr_laws_rounds.proofs.CurrentPhases.{last_issued-more, its_draw}
use Rattle.jr_laws_rounds.proofs.CurrentLast.{issued_by_other, last_is}
use Rattle.jr_laws_rounds.proofs.KeptFirst.{has_draw}
use Rattle.jr_laws_rounds.proofs.KeptSettled.{settled_after, ran_before, last_runs}
use Rattle.jr_laws_rounds.proofs.KeptRounds.{round_settles, round_same, read_round, write_round}

-- what didn't end whole is a fault
not_whole : (outcome : Outcome) → ended_whole (Some outcome) ≡ false → is_fault outcome ≡ true
not_whole Whole h = absurd (false≢true (sym h))
not_whole Failed h = refl
not_whole (Short n) h = refl

module _ (plan : Plan) (numbered : IsNumbered plan) (job : SubJob) (planned : clone_of plan job.clone ≡ Some job) (rounds : has_rounds job ≡ true) where
  -- what one event more makes of the current round
  abbrev Moves : List Event → Event → Type 0
  Moves h e = round_after job h e (current_round job h) ≡ round_up_to job (h ++ e ∷ []) (option_or (write_issued job.clone e) (last_issued job.clone h))

  -- an event that issues and settles nothing of the clone
  stays : (h : List Event) (e : Event) → is_legal plan h ≡ true → may_happen plan h e ≡ true
      → ((q : ℕ) → issued_count (h ++ e ∷ []) (pass_of job q) ≡ issued_count h (pass_of job q))
      → ((w : WriteId) → w.clone ≡ job.clone → is_settled (h ++ e ∷ []) w ≡ (is_settled h w || false))
      → current_round job h ≡ round_up_to job (h ++ e ∷ []) (last_issued job.clone h)
  stays h e legal happens counts settled =
      sym (round_same job h (h ++ e ∷ []) (last_issued job.clone h) counts (λ w own. settled w own ∙ or-false (is_settled h w)))

  module _ (h : List Event) (legal : is_legal plan h ≡ true) where
    skip_moves : (worker : ℕ) (write : WriteId) → may_happen plan h (Skip worker write) ≡ true → (write.clone ≡ job.clone) ⊎ (write.clone ≡ job.clone → ⊥) → Moves h (Skip worker write)
    skip_moves worker write happens (inl same) =
        let e = Skip worker write in
        ap {B = Round} (λ (b : Bool). cond b (with_passed (current_round job h) write) (current_round job h)) (eq-eqb write.clone job.clone same)
        ∙ sym (round_settles job h (h ++ e ∷ []) (last_issued job.clone h) (same_write write)
        (λ q. issued_same h e (pass_of job q) refl) (λ w own. settled_after plan h e w legal happens))
    skip_moves worker write happens (inr apart) =
        let e = Skip worker write in
        ap {B = Round} (λ (b : Bool). cond b (with_passed (current_round job h) write) (current_round job h)) (ne_eqb write.clone job.clone apart)
        ∙ stays h e legal happens (λ q. issued_same h e (pass_of job q) refl)
        (λ w own. settled_after plan h e w legal happens ∙ ap (λ (b : Bool). is_settled h w || b) (other_name write w job.clone apart own))

    module _ (worker io : ℕ) (outcome : Outcome) (happens : may_happen plan h (End worker io outcome) ≡ true) (runs : is_halted (h ++ End worker io outcome ∷ []) job ≡ false) where
      abbrev ended : List Event
      ended = h ++ End worker io outcome ∷ []

      -- the end of an I/O that settles nothing of the clone
      end_stays : (o : Option Started) → slice_get (started h) io ≡ o → ((w : WriteId) → w.clone ≡ job.clone → is_probe_of w o ≡ false) → current_round job h ≡ round_up_to job ended (last_issued job.clone h)
      end_stays o at none =
          stays h (End worker io outcome) legal happens (λ q. issued_same h (End worker io outcome) (pass_of job q) refl)
          (λ w own.
          settled_after plan h (End worker io outcome) w legal happens
          ∙ ap (λ (x : Option Started). is_settled h w || is_probe_of w x) at
          ∙ ap (λ (b : Bool). is_settled h w || b) (none w own))

      by_kind : (x : Started) → slice_get (started h) io ≡ Some x → (probe whole : Bool) → is_probe x.kind ≡ probe → ended_whole (Some outcome) ≡ whole → (x.write.clone ≡ job.clone) ⊎ (x.write.clone ≡ job.clone → ⊥) → after_end job (Some outcome) (Some x) (current_round job h) ≡ round_up_to job ended (last_issued job.clone h)
      by_kind x at false whole kind is by_clone =
          ap {B = Round} (λ (b : Bool). cond b (with_passed (current_round job h) x.write) (current_round job h))
          (and_left (is_probe x.kind && (x.write.clone == job.clone)) (ended_whole (Some outcome)) (and_left (is_probe x.kind) (x.write.clone == job.clone) kind))
          ∙ end_stays (Some x) at (λ w own. and_left (is_probe x.kind) (same_write x.write w) kind)
      by_kind x at true whole kind is (inr apart) =
          ap {B = Round} (λ (b : Bool). cond b (with_passed (current_round job h) x.write) (current_round job h))
          (and_left (is_probe x.kind && (x.write.clone == job.clone)) (ended_whole (Some outcome)) (and_right (is_probe x.kind) (x.write.clone == job.clone) (ne_eqb x.write.clone job.clone apart)))
          ∙ end_stays (Some x) at (λ w own. and_right (is_probe x.kind) (same_write x.write w) (other_name x.write w job.clone apart own))
      by_kind x at true true kind is (inl same) =
          ap {B = Round} (λ (b : Bool). cond b (with_passed (current_round job h) x.write) (current_round job h))
          (and_from (is_probe x.kind && (x.write.clone == job.clone)) (ended_whole (Some outcome)) (and_from (is_probe x.kind) (x.write.clone == job.clone) kind (eq-eqb x.write.clone job.clone same)) is)
          ∙ sym (round_settles job h ended (last_issued job.clone h) (same_write x.write)
          (λ q. issued_same h (End worker io outcome) (pass_of job q) refl)
          (λ w own.
          settled_after plan h (End worker io outcome) w legal happens
          ∙ ap (λ (o : Option Started). is_settled h w || is_probe_of w o) at
          ∙ ap (λ (b : Bool). is_settled h w || (b && same_write x.write w)) kind))
      by_kind x at true false kind is (inl same) =
          absurd (last_runs job h (End worker io outcome) runs
          (ap (λ (o : Option Started). is_io_of job.clone o && is_fault outcome) at
          ∙ and_from (x.write.clone == job.clone) (is_fault outcome) (eq-eqb x.write.clone job.clone same) (not_whole outcome is)))

      by_io : (o : Option Started) → slice_get (started h) io ≡ o → after_end job (Some outcome) o (current_round job h) ≡ round_up_to job ended (last_issued job.clone h)
      by_io None at = end_stays None at (λ w own. refl)
      by_io (Some x) at = by_kind x at (is_probe x.kind) (ended_whole (Some outcome)) refl refl (cases_eq x.write.clone job.clone)

      end_moves : Moves h (End worker io outcome)
      end_moves = by_io (slice_get (started h) io) refl

  -- the issue of a read, checked or not
  read_moves : (h : List Event) (worker : ℕ) (kind : IssueKind) (write : WriteId) (piece : Piece) → is_write (kind_for kind) ≡ false → is_legal plan h ≡ true → may_happen plan h (Issue worker kind write piece) ≡ true
      → cond (write.clone == job.clone) (cond (all_issued (h ++ Issue worker kind write piece ∷ []) (pass_of job write.pass)) (with_exhausted (current_round job h)) (current_round job h)) (current_round job h)
      ≡ round_up_to job (h ++ Issue worker kind write piece ∷ []) (last_issued job.clone h)
  read_moves h worker kind write piece no_write legal happens =
      elim (cases_eq write.clone job.clone) [
        | inl same ↦
            ap {B = Round} (λ (b : Bool). cond b (cond (all_issued (h ++ e ∷ []) (pass_of job write.pass)) (with_exhausted now) now) now) (eq-eqb write.clone job.clone same)
            ∙ read_round plan numbered job planned h legal worker kind no_write write piece happens (its_draw plan numbered job planned h worker kind write piece happens same) same
            (last_issued job.clone h) (last_is plan numbered job planned h legal)
        | inr apart ↦
            ap {B = Round} (λ (b : Bool). cond b (cond (all_issued (h ++ e ∷ []) (pass_of job write.pass)) (with_exhausted now) now) now) (ne_eqb write.clone job.clone apart)
            ∙ stays h e legal happens (λ q. issued_by_other job h worker kind write piece q apart) (λ w own. settled_after plan h e w legal happens)
      ]
    where
      e : Event
      e = Issue worker kind write piece

      now : Round
      now = current_round job h

  moves : (h : List Event) (e : Event) → is_legal plan h ≡ true → may_happen plan h e ≡ true → is_halted (h ++ e ∷ []) job ≡ false → Moves h e
  moves h (Probe worker write piece) legal happens runs =
      let e = Probe worker write piece in
      stays h e legal happens (λ q. issued_same h e (pass_of job q) refl) (λ w own. settled_after plan h e w legal happens)
  moves h (Verdict worker io verdict) legal happens runs =
      let e = Verdict worker io verdict in
      stays h e legal happens (λ q. issued_same h e (pass_of job q) refl) (λ w own. settled_after plan h e w legal happens)
  moves h (Skip worker write) legal happens runs = skip_moves h legal worker write happens (cases_eq write.clone job.clone)
  moves h (End worker io outcome) legal happens runs = end_moves h legal worker io outcome happens runs
  moves h (Issue worker issue.Read write piece) legal happens runs = read_moves h worker issue.Read write piece refl legal happens
  moves h (Issue worker issue.ReadCheck write piece) legal happens runs = read_moves h worker issue.ReadCheck write piece refl legal happens
  moves h (Issue worker issue.Write write piece) legal happens runs = by_clone (cases_eq write.clone job.clone)
    where
      by_clone : (write.clone ≡ job.clone) ⊎ (write.clone ≡ job.clone → ⊥) → Moves h (Issue worker issue.Write write piece)
      by_clone (inl same) =
          let e = Issue worker issue.Write write piece in
          ap {B = Round} (λ (b : Bool). cond b (after_issue job (h ++ e ∷ []) issue.Write write (current_round job h)) (current_round job h)) (eq-eqb write.clone job.clone same)
          ∙ write_round plan numbered job planned rounds h legal worker write piece happens (its_draw plan numbered job planned h worker issue.Write write piece happens same) same
          (last_issued job.clone h) (last_is plan numbered job planned h legal)
          ∙ ap {B = Round} (λ (b : Bool). round_up_to job (h ++ e ∷ []) (option_or (cond b (Some write) None) (last_issued job.clone h))) (sym (eq-eqb write.clone job.clone same))
      by_clone (inr apart) =
          let e = Issue worker issue.Write write piece in
          ap {B = Round} (λ (b : Bool). cond b (after_issue job (h ++ e ∷ []) issue.Write write (current_round job h)) (current_round job h)) (ne_eqb write.clone job.clone apart)
          ∙ stays h e legal happens (λ q. issued_by_other job h worker issue.Write write piece q apart) (λ w own. settled_after plan h e w legal happens)
          ∙ ap {B = Round} (λ (b : Bool). round_up_to job (h ++ e ∷ []) (option_or (cond b (Some write) None) (last_issued job.clone h))) (sym (ne_eqb write.clone job.clone apart))

  kept_is : 1 ≤ job.cells → (history : List Event) → is_legal plan history ≡ true → is_halted history job ≡ false → rounds_of job history ≡ current_round job history
  kept_is cells history legal =
      let draws = has_draw job 0 cells in
      by_events plan (λ (h : List Event). is_halted h job ≡ false → rounds_of job h ≡ current_round job h)
      (λ runs.
      ap {B = Round} (λ (b : Bool). record (new_round job.backlog) { exhausted = b })
      (sym (ne_eqb 0 (length (draws_of_job job 0)) (λ same. absurd (omega (arith, draws, same))))))
      (λ h e so_far known happens runs.
      rounds_of-more job h e
      ∙ ap (round_after job h e) (known (ran_before job h e runs))
      ∙ moves h e so_far happens runs
      ∙ sym (ap (round_up_to job (h ++ e ∷ [])) (last_issued-more job.clone h e)))
      history legal

pub kept-law : (plan : Plan) (history : List Event) (job : SubJob) → IsPlanned plan → is_legal plan history ≡ true → clone_of plan job.clone ≡ Some job → has_rounds job ≡ true → is_halted history job ≡ false → rounds_of job history ≡ current_round job history
kept-law plan history job planned_all legal planned rounds runs =
    let limits = planned_all.drafted.limited job.clone job planned in
    kept_is plan (numbered_of plan planned_all) job planned rounds limits.cells_least history legal runs
