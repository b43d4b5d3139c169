-- When the pass that a clone is in is finished, and when the clone is.
use Rattle.std.proofs.Common.{◌≡◌, ℕ, suc, ◌<◌, List, Bool, true, false, ◌&&◌, ◌||◌, not, refl, sym, ◌∙◌, ap, subst, arith, inl, inr}
use Rattle.std.specs.Prelude.{◌⊎◌, Some, slice_get, ◌==◌}
use Rattle.std.specs.List.{list_any, range_with_len}
use Rattle.std.proofs.lemmas.Bool.{eqb-true, eqb-false, eq-eqb, cases_Bool, cases_eq, cases_lt, cases_order, not-true, not_from_false, or_left, true_from_ne_false, false_from_ne_true, both_ways}
use Rattle.jr_model.specs.declared.events.Event.{Event}
use Rattle.jr_model.specs.declared.events.Started.{Started}
use Rattle.jr_model.specs.History.{in_flight_of}
use Rattle.jr_model.specs.Legal.{is_legal}
use Rattle.jr_model.specs.Plan.{Plan, SubJob, clone_of}
use Rattle.jr_model.specs.Rounds.{Pass, pass_of, passes_of, all_issued, has_rounds, rounds_closed, nothing_flies_of, nothing_flies_in, pass_finished, clone_finished}
use Rattle.jr_model.specs.PlanFacts.{IsPlanned}
use Rattle.jr_backlog.specs.Rounds.{is_closed}
use Rattle.jr_backlog.specs.CurrentRound.{current_round}
use Rattle.jr_model.proofs.PlaceLemmas.{all_from, got_made, got_ranged}
use Rattle.jr_model.proofs.PlanLemmas.{pass_at, own_place}
use Rattle.jr_model.proofs.ListLemmas.{none_by_length}
use Rattle.jr_model.proofs.BoolLemmas.{same_truth}
use Rattle.jr_laws_quiet.proofs.Issues.{all_at}
use Rattle.jr_laws_rounds.specs.Standing.{IsInPass, FinishedByStanding, CloneFinishedByStanding}
use Rattle.jr_laws_rounds.specs.Rounds.{ClosedAtEnd}
use Rattle.jr_laws_rounds.proofs.StandingLists.{any_of_some}
use Rattle.jr_laws_rounds.proofs.StandingFlights.{FliesOf, flies_found, flies_there}
use Rattle.jr_laws_rounds.proofs.StandingPasses.{done_parts, started_counts, unbegun}
use Rattle.jr_laws_rounds.proofs.StandingSteps.{finished_before}

module _ (plan : Plan) (planned : IsPlanned plan) (job : SubJob) (there : clone_of plan job.clone ≡ Some job) (h : List Event) (legal : is_legal plan h ≡ true) (p : ℕ) (in_pass : IsInPass h job p) where
  -- what flies of the clone is of its pass
  flies_in_pass : FliesOf h job.clone (λ (io : Started). true) → list_any (λ (io : Started). io.write.pass == p) (in_flight_of h job.clone) ≡ true
  flies_in_pass f =
      elim (cases_order f.io.write.pass p) [
        | inl same ↦ of_pass p same
        | inr other ↦
            elim other [
              | inl earlier ↦
                  absurd (both_ways (list_any (λ (io : Started). io.write.pass == f.io.write.pass) (in_flight_of h job.clone))
                  (not-true (list_any (λ (io : Started). io.write.pass == f.io.write.pass) (in_flight_of h job.clone)) (done_parts h (pass_of job f.io.write.pass) (finished_before h job p f.io.write.pass in_pass earlier)).rests)
                  (of_pass f.io.write.pass refl))
              | inr later ↦ absurd (omega (arith, started_counts plan planned job there h f.id f.io legal f.at f.clone, in_pass.after f.io.write.pass later))
            ]
      ]
    where
      of_pass : (q : ℕ) → f.io.write.pass ≡ q → list_any (λ (io : Started). io.write.pass == q) (in_flight_of h job.clone) ≡ true
      of_pass q same =
          flies_there h job.clone (λ (io : Started). io.write.pass == q)
          (record { id = f.id; io = f.io; at = f.at; going = f.going; clone = f.clone; passes = eq-eqb f.io.write.pass q same })

  -- so nothing of the pass flies exactly where nothing of the clone does
  pub flies_alike : nothing_flies_in h (pass_of job p) ≡ nothing_flies_of h job.clone
  flies_alike = same_truth (nothing_flies_in h (pass_of job p)) (nothing_flies_of h job.clone) of_clone of_pass
    where
      of_clone : nothing_flies_in h (pass_of job p) ≡ true → nothing_flies_of h job.clone ≡ true
      of_clone rests =
          true_from_ne_false (nothing_flies_of h job.clone) (λ some.
          both_ways (list_any (λ (io : Started). io.write.pass == p) (in_flight_of h job.clone))
          (not-true (list_any (λ (io : Started). io.write.pass == p) (in_flight_of h job.clone)) rests)
          (flies_in_pass (flies_found h job.clone (λ (io : Started). true) (any_of_some (in_flight_of h job.clone) some))))

      of_pass : nothing_flies_of h job.clone ≡ true → nothing_flies_in h (pass_of job p) ≡ true
      of_pass rests =
          ap (λ (ios : List Started). not (list_any (λ (io : Started). io.write.pass == p) ios)) (none_by_length (in_flight_of h job.clone) rests)

  -- the pass is finished where all is issued, nothing flies, and the round is closed
  pub finished_in_pass : (round_closed : Bool) → (all_issued h (pass_of job p) ≡ true → has_rounds job ≡ true → rounds_closed h (pass_of job p) ≡ round_closed) → pass_finished h (pass_of job p) ≡ (all_issued h (pass_of job p) && nothing_flies_of h job.clone && (not (has_rounds job) || round_closed))
  finished_in_pass round_closed closed =
      let pass = pass_of job p in
      elim (cases_Bool (all_issued h pass)) [
        | inl issued ↦
            ap (λ (b : Bool). all_issued h pass && b && rounds_closed h pass) flies_alike
            ∙ ap (λ (b : Bool). all_issued h pass && nothing_flies_of h job.clone && b) (by_rounds issued (has_rounds job) refl)
        | inr more ↦
            ap (λ (b : Bool). b && nothing_flies_in h pass && rounds_closed h pass) more
            ∙ sym (ap (λ (b : Bool). b && nothing_flies_of h job.clone && (not (has_rounds job) || round_closed)) more)
      ]
    where
      by_rounds : all_issued h (pass_of job p) ≡ true → (b : Bool) → has_rounds job ≡ b → rounds_closed h (pass_of job p) ≡ (not (has_rounds job) || round_closed)
      by_rounds issued true rounds =
          closed issued rounds ∙ sym (ap (λ (b : Bool). not b || round_closed) rounds)
      by_rounds issued false none =
          let open_all = not_from_false (has_rounds job) none in
          or_left (not (has_rounds job)) _ open_all ∙ sym (or_left (not (has_rounds job)) round_closed open_all)

  -- the clone is where it is in its last pass and that is
  pub clone_in_pass : clone_finished h job ≡ ((suc p == job.passes) && pass_finished h (pass_of job p))
  clone_in_pass =
      elim (cases_Bool (suc p == job.passes)) [
        | inl last ↦
            same_truth (clone_finished h job) (pass_finished h (pass_of job p))
            (λ all. all_at (pass_finished h) (passes_of job) p (pass_of job p) all (pass_at job p in_pass.within))
            (λ done. all_from (pass_finished h) (passes_of job) (λ k pass at. one (eqb-true (suc p) job.passes last) done k pass at))
            ∙ sym (ap (λ (b : Bool). b && pass_finished h (pass_of job p)) last)
        | inr more ↦
            false_from_ne_true (clone_finished h job) (λ all. not_all (eqb-false (suc p) job.passes more) all)
            ∙ sym (ap (λ (b : Bool). b && pass_finished h (pass_of job p)) more)
      ]
    where
      of_number : (q : ℕ) → q < suc p → pass_finished h (pass_of job p) ≡ true → (q ≡ p) ⊎ (q ≡ p → ⊥) → pass_finished h (pass_of job q) ≡ true
      of_number q below done (inl same) = subst (λ (n : ℕ). pass_finished h (pass_of job n) ≡ true) (sym same) done
      of_number q below done (inr apart) =
          elim (cases_lt q p) [
            | inl first ↦ finished_before h job p q in_pass first
            | inr high ↦ absurd (apart (omega (arith, below, high)))
          ]

      one : suc p ≡ job.passes → pass_finished h (pass_of job p) ≡ true → (k : ℕ) (pass : Pass) → slice_get (passes_of job) k ≡ Some pass → pass_finished h pass ≡ true
      one last done k pass at =
          let made = got_made (pass_of job) (range_with_len 0 job.passes) k pass at in
          let ranged = got_ranged 0 job.passes k made.0 made.1 in
          subst (λ (x : Pass). pass_finished h x ≡ true) made.2 (of_number made.0 (omega (arith, ranged.0, ranged.1, last)) done (cases_eq made.0 p))

      not_all : (suc p ≡ job.passes → ⊥) → clone_finished h job ≡ true → ⊥
      not_all more all =
          elim (cases_lt (suc p) job.passes) [
            | inl within ↦
                both_ways (pass_finished h (pass_of job (suc p))) (unbegun plan planned job there h (suc p) (in_pass.after (suc p) (omega arith)))
                (all_at (pass_finished h) (passes_of job) (suc p) (pass_of job (suc p)) all (pass_at job (suc p) within))
            | inr beyond ↦ more (omega (arith, beyond, in_pass.within))
          ]

-- the law, where the rounds of a pass are closed at its end as the current round is
pub finished_by_standing-law : ClosedAtEnd → FinishedByStanding
finished_by_standing-law closed plan h c p job planned legal at in_pass going =
    let there = own_place plan c job planned at in
    finished_in_pass plan planned job there h legal p in_pass (is_closed (current_round job h)) (λ issued rounds.
    closed plan h job p (record { planned = planned; legal = legal; there = there; in_pass = in_pass; rounds = rounds; runs = going }) issued)

pub clone_finished_by_standing-law : CloneFinishedByStanding
clone_finished_by_standing-law plan h c p job planned legal at in_pass =
    clone_in_pass plan planned job (own_place plan c job planned at) h legal p in_pass
