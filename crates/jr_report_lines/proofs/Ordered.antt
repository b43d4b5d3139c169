-- The bad verdicts of a plan in order are strictly sorted, where no two are on one write.
use Rattle.std.proofs.Common.{◌≡◌, ℕ, ◌<◌, List, refl, sym, ◌∙◌, ap, arith}
use Rattle.std.specs.Prelude.{filter_map}
use Rattle.std.specs.List.{AllByRecursion, range_with_len}
use Rattle.std.specs.List.Sorted.{IsStrictlySortedBy}
use Rattle.jr_model.specs.declared.events.WriteId.{WriteId}
use Rattle.jr_model.specs.declared.workloads.Draw.{Draw}
use Rattle.jr_model.specs.Draws.{draws_of_job}
use Rattle.jr_model.specs.Plan.{Plan, SubJob, IsNumbered}
use Rattle.jr_model.specs.Report.{Miscompare, on_write, of_pass, of_clone, in_order}
use Rattle.jr_model.specs.Rounds.{pass_of, write_id}
use Rattle.jr_model.proofs.LegalLaws.{number_of_draw}
use Rattle.jr_report_lines.specs.InOrder.{by_write}
use Rattle.jr_report_lines.proofs.FlatMaps.{all_weaker, all_flat_map, NumberedFrom, numbered_from, numbered_range, sorted_flat_map}
use Rattle.jr_report_lines.proofs.Writes.{clone_first, pass_next, number_last, all_on_it, AreDistinct, on_it_sorted}

-- the bad verdicts on a draw
abbrev pub on_draw : SubJob → ℕ → List Miscompare → Draw → List Miscompare
on_draw job p found d = filter_map (on_write (write_id (pass_of job p) d)) found

pub numbered_draws : (job : SubJob) (p : ℕ) → NumberedFrom (λ (d : Draw). d.number) 0 (draws_of_job job p)
numbered_draws job p =
    numbered_from (λ (d : Draw). d.number) 0 (draws_of_job job p)
    (λ k d at. let place : d.number ≡ k = number_of_draw job p k d at in omega (arith, place))

pub numbered_passes : (job : SubJob) → NumberedFrom (λ (p : ℕ). p) 0 (range_with_len 0 job.passes)
numbered_passes job = numbered_range 0 0 job.passes refl

pub numbered_clones : (plan : Plan) → IsNumbered plan → NumberedFrom (λ (job : SubJob). job.clone) 0 plan.clones
numbered_clones plan numbered =
    numbered_from (λ (job : SubJob). job.clone) 0 plan.clones
    (λ c job at. let place : job.clone ≡ c = numbered c job at in omega (arith, place))

module _ (found : List Miscompare) where
  -- what a draw, a pass and a clone have is on their writes

  abbrev OfDraw : ℕ → ℕ → ℕ → Miscompare → Type 0
  OfDraw c p k m = (m.write.clone ≡ c) × (m.write.pass ≡ p) × (m.write.number ≡ k)

  abbrev OfPass : ℕ → ℕ → Miscompare → Type 0
  OfPass c p m = (m.write.clone ≡ c) × (m.write.pass ≡ p)

  abbrev OfClone : ℕ → Miscompare → Type 0
  OfClone c m = m.write.clone ≡ c

  each_draw : (job : SubJob) (p : ℕ) (d : Draw)
      → AllByRecursion (OfDraw job.clone p d.number) (on_draw job p found d)
  each_draw job p d =
      all_weaker (λ (m : Miscompare). m.write ≡ write_id (pass_of job p) d) (OfDraw job.clone p d.number)
      (λ m on. (ap (λ (w : WriteId). w.clone) on, ap (λ (w : WriteId). w.pass) on, ap (λ (w : WriteId). w.number) on))
      (on_draw job p found d) (all_on_it (write_id (pass_of job p) d) found)

  each_pass : (job : SubJob) (p : ℕ) → AllByRecursion (OfPass job.clone p) (of_pass found (pass_of job p))
  each_pass job p =
      all_flat_map (OfPass job.clone p) (on_draw job p found)
      (λ d. all_weaker (OfDraw job.clone p d.number) (OfPass job.clone p) (λ m own. (own.0, own.1))
      (on_draw job p found d) (each_draw job p d))
      (draws_of_job job p)

  each_clone : (job : SubJob) → AllByRecursion (OfClone job.clone) (of_clone found job)
  each_clone job =
      all_flat_map (OfClone job.clone) (λ (p : ℕ). of_pass found (pass_of job p))
      (λ p. all_weaker (OfPass job.clone p) (OfClone job.clone) (λ m own. own.0) (of_pass found (pass_of job p)) (each_pass job p))
      (range_with_len 0 job.passes)

  module _ (distinct : AreDistinct found) where
    pass_sorted : (job : SubJob) (p : ℕ) → IsStrictlySortedBy by_write (of_pass found (pass_of job p))
    pass_sorted job p =
        sorted_flat_map by_write (λ (d : Draw). d.number) (on_draw job p found) (OfDraw job.clone p)
        (each_draw job p)
        (λ d. on_it_sorted (write_id (pass_of job p) d) found distinct)
        (λ j k y z below own other.
        let low : y.write.number < z.write.number = omega (arith, below, own.2, other.2) in
        number_last y.write z.write (own.0 ∙ sym other.0) (own.1 ∙ sym other.1) low)
        0 (draws_of_job job p) (numbered_draws job p)

    clone_sorted : (job : SubJob) → IsStrictlySortedBy by_write (of_clone found job)
    clone_sorted job =
        sorted_flat_map by_write (λ (p : ℕ). p) (λ (p : ℕ). of_pass found (pass_of job p)) (OfPass job.clone)
        (each_pass job)
        (pass_sorted job)
        (λ j k y z below own other.
        let low : y.write.pass < z.write.pass = omega (arith, below, own.1, other.1) in
        pass_next y.write z.write (own.0 ∙ sym other.0) low)
        0 (range_with_len 0 job.passes) (numbered_passes job)

    pub in_order_sorted : (plan : Plan) → IsNumbered plan → IsStrictlySortedBy by_write (in_order plan found)
    in_order_sorted plan numbered =
        sorted_flat_map by_write (λ (job : SubJob). job.clone) (of_clone found) OfClone
        each_clone
        clone_sorted
        (λ j k y z below own other.
        let low : y.write.clone < z.write.clone = omega (arith, below, own, other) in
        clone_first y.write z.write low)
        0 plan.clones (numbered_clones plan numbered)
