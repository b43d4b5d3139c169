-- The bad verdicts of a plan in order are the bad verdicts, where each is on the write of a draw of the plan.
use Rattle.std.proofs.Common.{◌≡◌, ℕ, ◌<◌, List, [], ◌∷◌, ◌++◌, true, refl, sym, ◌∙◌, ap, subst, zero-add, IsPermutation}
use Rattle.std.specs.Prelude.{Some, slice_get, filter_map, flat_map}
use Rattle.std.specs.List.{AllByRecursion, range_with_len}
use Rattle.std.proofs.lemmas.List.Sorted.{IsPermutation-refl, IsPermutation-cons, IsPermutation-trans}
use Rattle.jr_model.specs.declared.events.WriteId.{WriteId}
use Rattle.jr_model.specs.declared.workloads.Draw.{Draw}
use Rattle.jr_model.specs.Draws.{draws_of_job}
use Rattle.jr_model.specs.History.{same_write}
use Rattle.jr_model.specs.Plan.{Plan, SubJob, IsNumbered, clone_of}
use Rattle.jr_model.specs.Report.{Miscompare, on_write, of_pass, of_clone, in_order}
use Rattle.jr_model.specs.Rounds.{pass_of, write_id}
use Rattle.jr_model.proofs.LegalLaws.{same_write_refl, number_of_draw}
use Rattle.jr_model.proofs.PlaceLemmas.{ranged_at}
use Rattle.jr_report_lines.proofs.FlatMaps.{flat_map_same, one_more}
use Rattle.jr_report_lines.proofs.Writes.{more_on, more_off, other_clone, other_pass, other_number}
use Rattle.jr_report_lines.proofs.Ordered.{on_draw, numbered_draws, numbered_passes, numbered_clones}

-- the write is that of a draw of the plan
pub record IsNamed (plan : Plan) (write : WriteId) : Type 0 where
  pub job : SubJob
  pub draw : Draw
  pub planned : clone_of plan write.clone ≡ Some job
  pub pass : write.pass < job.passes
  pub drawn : slice_get (draws_of_job job write.pass) write.number ≡ Some draw

module _ (m : Miscompare) (found : List Miscompare) where
  -- the parts of other writes stay

  other_draw : (job : SubJob) (p : ℕ) (d : Draw) → (d.number ≡ m.write.number → ⊥)
      → on_draw job p (m ∷ found) d ≡ on_draw job p found d
  other_draw job p d apart = more_off (write_id (pass_of job p) d) m found (other_number m.write (write_id (pass_of job p) d) apart)

  pass_stays : (job : SubJob) (p : ℕ) → (p ≡ m.write.pass → ⊥) → of_pass (m ∷ found) (pass_of job p) ≡ of_pass found (pass_of job p)
  pass_stays job p apart =
      flat_map_same (on_draw job p found) (on_draw job p (m ∷ found))
      (λ d. more_off (write_id (pass_of job p) d) m found (other_pass m.write (write_id (pass_of job p) d) apart))
      (draws_of_job job p)

  clone_stays : (job : SubJob) → (job.clone ≡ m.write.clone → ⊥) → of_clone (m ∷ found) job ≡ of_clone found job
  clone_stays job apart =
      flat_map_same (λ (p : ℕ). of_pass found (pass_of job p)) (λ (p : ℕ). of_pass (m ∷ found) (pass_of job p))
      (λ p. flat_map_same (on_draw job p found) (on_draw job p (m ∷ found))
      (λ d. more_off (write_id (pass_of job p) d) m found (other_clone m.write (write_id (pass_of job p) d) apart))
      (draws_of_job job p))
      (range_with_len 0 job.passes)

  -- those of its own have it

  draw_more : (job : SubJob) (d : Draw) → job.clone ≡ m.write.clone → d.number ≡ m.write.number
      → IsPermutation (on_draw job m.write.pass (m ∷ found) d) (m ∷ on_draw job m.write.pass found d)
  draw_more job d clone number =
      let w : WriteId = write_id (pass_of job m.write.pass) d in
      let made : ℕ → ℕ → WriteId = λ c n. record { clone = c; pass = m.write.pass; number = n } in
      let is : w ≡ m.write = ap (λ (c : ℕ). made c d.number) clone ∙ ap (λ (n : ℕ). made m.write.clone n) number in
      let same : same_write m.write w ≡ true = subst (λ (v : WriteId). same_write m.write v ≡ true) (sym is) (same_write_refl m.write) in
      subst (λ (ms : List Miscompare). IsPermutation ms (m ∷ filter_map (on_write w) found)) (sym (more_on w m found same))
      (IsPermutation-refl (m ∷ filter_map (on_write w) found))

  pass_more : (job : SubJob) (d : Draw) → job.clone ≡ m.write.clone → slice_get (draws_of_job job m.write.pass) m.write.number ≡ Some d
      → IsPermutation (of_pass (m ∷ found) (pass_of job m.write.pass)) (m ∷ of_pass found (pass_of job m.write.pass))
  pass_more job d clone drawn =
      let p : ℕ = m.write.pass in
      let number : d.number ≡ m.write.number = number_of_draw job p m.write.number d drawn in
      one_more (λ (x : Draw). x.number)
      (on_draw job p found) (on_draw job p (m ∷ found))
      m m.write.number (other_draw job p) 0 (draws_of_job job p) m.write.number d (numbered_draws job p) drawn number
      (draw_more job d clone number)

  clone_more : (job : SubJob) (d : Draw) → job.clone ≡ m.write.clone → m.write.pass < job.passes
      → slice_get (draws_of_job job m.write.pass) m.write.number ≡ Some d
      → IsPermutation (of_clone (m ∷ found) job) (m ∷ of_clone found job)
  clone_more job d clone within drawn =
      let p : ℕ = m.write.pass in
      one_more (λ (x : ℕ). x) (λ (x : ℕ). of_pass found (pass_of job x)) (λ (x : ℕ). of_pass (m ∷ found) (pass_of job x))
      m p (pass_stays job) 0 (range_with_len 0 job.passes) p p (numbered_passes job)
      (ranged_at 0 job.passes p within ∙ ap Some (zero-add p)) refl
      (pass_more job d clone drawn)

  pub in_order_more : (plan : Plan) → IsNumbered plan → IsNamed plan m.write
      → IsPermutation (in_order plan (m ∷ found)) (m ∷ in_order plan found)
  in_order_more plan numbered named =
      let clone : named.job.clone ≡ m.write.clone = numbered m.write.clone named.job named.planned in
      one_more (λ (job : SubJob). job.clone) (of_clone found) (of_clone (m ∷ found))
      m m.write.clone clone_stays 0 plan.clones m.write.clone named.job (numbered_clones plan numbered) named.planned clone
      (clone_more named.job named.draw clone named.pass named.drawn)

none_of_pass : (ds : List Draw) (job : SubJob) (p : ℕ)
    → flat_map (on_draw job p []) ds ≡ []
none_of_pass [] job p = refl
none_of_pass (d ∷ ds) job p = none_of_pass ds job p

none_of_clone : (ps : List ℕ) (job : SubJob) → flat_map (λ (p : ℕ). of_pass [] (pass_of job p)) ps ≡ []
none_of_clone [] job = refl
none_of_clone (p ∷ ps) job =
    ap (λ (ms : List Miscompare). ms ++ flat_map (λ (q : ℕ). of_pass [] (pass_of job q)) ps) (none_of_pass (draws_of_job job p) job p)
    ∙ none_of_clone ps job

none_of_plan : (jobs : List SubJob) → flat_map (of_clone []) jobs ≡ []
none_of_plan [] = refl
none_of_plan (job ∷ jobs) =
    ap (λ (ms : List Miscompare). ms ++ flat_map (of_clone []) jobs) (none_of_clone (range_with_len 0 job.passes) job) ∙ none_of_plan jobs

pub in_order_permuted : (plan : Plan) (found : List Miscompare) → IsNumbered plan
    → AllByRecursion (λ (m : Miscompare). IsNamed plan m.write) found → IsPermutation (in_order plan found) found
in_order_permuted plan [] numbered named =
    subst (λ (ms : List Miscompare). IsPermutation ms []) (sym (none_of_plan plan.clones)) (IsPermutation-refl [])
in_order_permuted plan (m ∷ found) numbered named =
    IsPermutation-trans (in_order plan (m ∷ found)) (m ∷ in_order plan found) (m ∷ found)
    (in_order_more m found plan numbered named.0)
    (IsPermutation-cons m (in_order plan found) found (in_order_permuted plan found numbered named.1))
