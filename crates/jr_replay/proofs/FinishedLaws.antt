-- When a pass and a run are finished, by what is counted of clones.
use Rattle.std.proofs.Common.{◌≡◌, ℕ, suc, ◌+◌, ◌<◌, List, Bool, true, false, ◌&&◌, not, refl, sym, ◌∙◌, ap, arith, inl, inr, length, take}
use Rattle.std.specs.Prelude.{◌==◌, nat_lt, Some, slice_get}
use Rattle.std.specs.List.{list_any, list_all}
use Rattle.std.proofs.lemmas.Bool.{and_parts, and_from, cases_lt, eqb-true, ne_eqb, both_ways}
use Rattle.std.proofs.lemmas.Option.{slice_get_within}
use Rattle.jr_model.specs.declared.events.Event.{Event}
use Rattle.jr_model.specs.declared.events.Started.{Started}
use Rattle.jr_model.specs.declared.workloads.Draw.{Draw}
use Rattle.jr_model.specs.History.{in_flight_of}
use Rattle.jr_model.specs.Legal.{is_legal, is_over, is_at_rest, is_complete}
use Rattle.jr_model.specs.Plan.{Plan, SubJob, clone_of}
use Rattle.jr_model.specs.PlanFacts.{IsPlanned}
use Rattle.jr_model.specs.Rounds.{Pass, pass_of, passes_of, issued_count, all_issued, nothing_flies_of, nothing_flies_in, rounds_closed, pass_finished, is_current}
use Rattle.jr_laws_quiet.proofs.Issues.{all_at}
use Rattle.jr_laws_rounds.specs.Standing.{IsInPass}
use Rattle.jr_laws_rounds.proofs.StandingFinished.{flies_alike}
use Rattle.jr_laws_rounds.proofs.StandingPasses.{unbegun}
use Rattle.jr_laws_rounds.proofs.StandingSteps.{always_in_pass, finished_before}
use Rattle.jr_model.proofs.PlaceLemmas.{all_from}
use Rattle.jr_model.proofs.ListLemmas.{none_by_length}
use Rattle.jr_model.proofs.BoolLemmas.{same_truth}
use Rattle.jr_desk_totals.specs.Tallies.{flying_issues, flying_checks, awaited}
use Rattle.jr_desk_totals.proofs.Compared.{is_at_rest-counts, is_complete-counts}
use Rattle.jr_replay.proofs.PhaseLaws.{begun_after}

-- ---- a pass
without_middle : (a b c : Bool) → b ≡ true → (a && c) ≡ (a && b && c)
without_middle true true c is = refl
without_middle false true c is = refl
without_middle a false c is = cc

no_middle : (a b c : Bool) → b ≡ false → (a && b && c) ≡ false
no_middle true false c is = refl
no_middle false false c is = refl
no_middle a true c is = cc

-- where nothing of the clone flies, nothing of the pass does
pub finished_where_quiet : (h : List Event) (pass : Pass) → nothing_flies_of h pass.job.clone ≡ true → (all_issued h pass && rounds_closed h pass) ≡ pass_finished h pass
finished_where_quiet h pass quiet =
    without_middle (all_issued h pass) (nothing_flies_in h pass) (rounds_closed h pass)
    (ap (λ (ios : List Started). not (list_any (λ (io : Started). io.write.pass == pass.number) ios)) (none_by_length (in_flight_of h pass.job.clone) quiet))

module _ (plan : Plan) (planned : IsPlanned plan) (job : SubJob) (there : clone_of plan job.clone ≡ Some job) (h : List Event) (legal : is_legal plan h ≡ true) where
  -- a clone is in the pass that has begun, where the next one hasn't
  in_last : (p : ℕ) → 0 < issued_count h (pass_of job p) → issued_count h (pass_of job (suc p)) ≡ 0 → IsInPass h job p
  in_last p some none =
      let now = always_in_pass plan planned job there h legal in
      record {
        within = elim (cases_lt now.0 p) [
          | inl before ↦ absurd (omega (arith, some, now.1.after p before))
          | inr beyond ↦ omega (arith, beyond, now.1.within)
        ];
        before = begun_after plan planned job there h legal p some;
        after = λ later low. elim (cases_lt now.0 later) [
          | inl before ↦ now.1.after later before
          | inr beyond ↦ elim (cases_lt (suc p) now.0) [
            | inl below ↦
                absurd (both_ways (pass_finished h (pass_of job (suc p))) (unbegun plan planned job there h (suc p) none)
                (finished_before h job now.0 (suc p) now.1 below))
            | inr same ↦
                let at : later ≡ suc p = omega (arith, low, beyond, same) in
                ap (λ (n : ℕ). issued_count h (pass_of job n)) at ∙ none
          ]
        ];
      }

  -- so it isn't finished while anything of the clone flies
  pub unfinished_in_flight : (p : ℕ) → 0 < issued_count h (pass_of job p) → issued_count h (pass_of job (suc p)) ≡ 0 → nothing_flies_of h job.clone ≡ false → false ≡ pass_finished h (pass_of job p)
  unfinished_in_flight p some none flies =
      let pass = pass_of job p in
      sym (no_middle (all_issued h pass) (nothing_flies_in h pass) (rounds_closed h pass)
      (flies_alike plan planned job there h legal p (in_last p some none) ∙ flies))

  -- no pass behind the last one begins
  pub none_behind : issued_count h (pass_of job job.passes) ≡ 0
  none_behind =
      let now = always_in_pass plan planned job there h legal in
      now.1.after job.passes now.1.within

-- the pass of a draw that is to be issued isn't finished
begun_on : (h : List Event) (pass : Pass) (draw : Draw) → slice_get pass.draws draw.number ≡ Some draw → (draw.number == issued_count h pass) ≡ true → pass_finished h pass ≡ false
begun_on h pass draw drawn next =
    let within = slice_get_within pass.draws draw.number draw drawn in
    let same = eqb-true draw.number (issued_count h pass) next in
    ap (λ (b : Bool). b && nothing_flies_in h pass && rounds_closed h pass)
    (ne_eqb (issued_count h pass) (length pass.draws) (λ all. omega (arith, within, same, all)))

current_test : (within done earlier all : Bool) → done ≡ false → (within ≡ true → earlier ≡ all) → (within && earlier) ≡ (within && not done && all)
current_test true false earlier all is known = known refl
current_test false false earlier all is known = refl
current_test within true earlier all is known = cc

pub current_is : (h : List Event) (pass : Pass) (draw : Draw) (earlier : Bool) → slice_get pass.draws draw.number ≡ Some draw → (draw.number == issued_count h pass) ≡ true → (nat_lt pass.number pass.job.passes ≡ true → earlier ≡ list_all (pass_finished h) (take pass.number (passes_of pass.job))) → (nat_lt pass.number pass.job.passes && earlier) ≡ is_current h pass
current_is h pass draw earlier drawn next known =
    current_test (nat_lt pass.number pass.job.passes) (pass_finished h pass) earlier (list_all (pass_finished h) (take pass.number (passes_of pass.job)))
    (begun_on h pass draw drawn next) known

-- ---- a run is whole where each clone is at rest
abbrev still : List Event → SubJob → Bool
still history job = flying_issues history job.clone + flying_checks history job.clone == 0

abbrev judged : List Event → SubJob → Bool
judged history job = awaited history job.clone == 0

record RestParts (history : List Event) (job : SubJob) : Type 0 where
  over : is_over history job ≡ true
  flown : still history job ≡ true
  told : judged history job ≡ true

rest_parts : (history : List Event) (job : SubJob) → is_at_rest history job ≡ true → RestParts history job
rest_parts history job rest =
    let parts = and_parts (is_over history job && still history job) (judged history job) (sym (is_at_rest-counts history job) ∙ rest) in
    let two = and_parts (is_over history job) (still history job) parts.0 in
    record { over = two.0; flown = two.1; told = parts.1 }

module _ (plan : Plan) (history : List Event) (planned : IsPlanned plan) (legal : is_legal plan history ≡ true) where
  abbrev flown_all : Bool
  flown_all = list_all (still history) plan.clones

  abbrev told_all : Bool
  told_all = list_all (judged history) plan.clones

  each_rests : is_complete plan history ≡ true → list_all (is_at_rest history) plan.clones ≡ true
  each_rests done =
      let parts = and_parts (flown_all && told_all) (list_all (is_over history) plan.clones) (sym (is_complete-counts plan history planned legal) ∙ done) in
      let two = and_parts flown_all told_all parts.0 in
      all_from (is_at_rest history) plan.clones (λ k job at.
      is_at_rest-counts history job
      ∙ and_from (is_over history job && still history job) (judged history job)
      (and_from (is_over history job) (still history job) (all_at (is_over history) plan.clones k job parts.1 at) (all_at (still history) plan.clones k job two.0 at))
      (all_at (judged history) plan.clones k job two.1 at))

  all_complete : list_all (is_at_rest history) plan.clones ≡ true → is_complete plan history ≡ true
  all_complete all =
      let of_job = λ (k : ℕ) (job : SubJob) (at : slice_get plan.clones k ≡ Some job). rest_parts history job (all_at (is_at_rest history) plan.clones k job all at) in
      is_complete-counts plan history planned legal
      ∙ and_from (flown_all && told_all) (list_all (is_over history) plan.clones)
      (and_from flown_all told_all (all_from (still history) plan.clones (λ k job at. (of_job k job at).flown)) (all_from (judged history) plan.clones (λ k job at. (of_job k job at).told)))
      (all_from (is_over history) plan.clones (λ k job at. (of_job k job at).over))

  pub whole_where_at_rest : list_all (is_at_rest history) plan.clones ≡ is_complete plan history
  whole_where_at_rest = sym (same_truth (is_complete plan history) (list_all (is_at_rest history) plan.clones) each_rests all_complete)
