-- Each write of a verified clone is checked or skipped once: checked where it stays last in its group.
use Rattle.std.proofs.Common.{◌≡◌, ℕ, zero, suc, ◌<◌, List, [], ◌∷◌, ◌++◌, Bool, true, false, cond, ◌&&◌, ◌||◌, not, refl, sym, ◌∙◌, ap, subst, arith, inl, inr, zero-add}
use Rattle.std.specs.Prelude.{Option, Some, None, slice_get, ◌==◌}
use Rattle.std.specs.List.{list_any, list_all, range_with_len}
use Rattle.std.proofs.lemmas.Bool.{and_parts, and_from, and_left, eqb-true, eq-eqb, ne_eqb, cases_Bool, cases_eq, or_left, or_right, both_ways, false_from_ne_true}
use Rattle.std.proofs.lemmas.List.Folds.{list_any-append}
use Rattle.std.proofs.Math.Bool.{or-false}
use Rattle.jr_model.specs.declared.blocks.Piece.{Piece}
use Rattle.jr_model.specs.declared.events.Event.{Event}
use Rattle.jr_model.specs.declared.events.Event.TheVariants.{Issue, Probe, Skip, End, Verdict}
use Rattle.jr_model.specs.declared.events.Started.{Started}
use Rattle.jr_model.specs.declared.events.WriteId.{WriteId}
use Rattle.jr_model.specs.declared.workloads.Draw.{Draw}
use Rattle.jr_model.specs.Draws.{draws_of_job}
use Rattle.jr_model.specs.History.{started, kind_for, is_probe, same_write}
use Rattle.jr_model.specs.LastWrite.{is_intact}
use Rattle.jr_model.specs.Legal.{is_legal, is_complete, may_happen, takes_up}
use Rattle.jr_model.specs.Plan.{Plan, SubJob, clone_of}
use Rattle.jr_model.specs.Rounds.{pass_of, write_id, is_write_draw, issued_count, is_closed, is_full, is_settled, settles, is_probe_of, has_rounds, group_of, group_count, group_index}
use Rattle.jr_model.specs.Totals.{is_skip_of}
use Rattle.jr_plan.specs.Files.{are_apart}
use Rattle.jr_model.specs.PlanFacts.{IsPlanned}
use Rattle.jr_laws_quiet.proofs.Races.{unraced, raced_before, quiet_is_fine}
use Rattle.jr_model.proofs.PlaceLemmas.{any_found, any_at, ranged_at}
use Rattle.jr_model.proofs.PlanLemmas.{numbered_of}
use Rattle.jr_model.proofs.HistoryLemmas.{issue_is_no_probe}
use Rattle.jr_model.proofs.LegalLaws.{number_of_draw}
use Rattle.jr_laws_quiet.specs.Quiet.{is_quiet, NothingRaced, stays_last}
use Rattle.jr_laws_quiet.specs.Declining.{none_declines}
use Rattle.jr_laws_quiet.proofs.Steps.{are_fine}
use Rattle.jr_laws_quiet.proofs.Tallies.{total, marked, upto, total_push}
use Rattle.jr_laws_quiet.proofs.Steps.{IsStep, along, IsNamed, IsTakeUp, probe_of, skip_of}
use Rattle.jr_laws_quiet.proofs.Issues.{spread, spread_same, spread_grows, spread_all, MayTakeUp, may_take_up_parts, clone_is, all_at, finishes, finished_parts}
use Rattle.jr_laws_quiet.proofs.Members.{in_own_group, full_issued}
use Rattle.jr_laws_quiet.proofs.Phases.{issue_cases, open_parts}
use Rattle.jr_laws_quiet.proofs.Latest.{intact_is_last}

-- the name of draw k of pass p of clone c
abbrev pub name_at : ℕ → ℕ → ℕ → WriteId
name_at c p k = record { clone = c; pass = p; number = k }

-- it was checked or skipped
abbrev pub is_taken : ℕ → List Event → ℕ → ℕ → Bool
is_taken c h p k = list_any (takes_up (name_at c p k)) h

pub taken_push : (c : ℕ) (h : List Event) (e : Event) (p k : ℕ) → is_taken c (h ++ e ∷ []) p k ≡ (is_taken c h p k || takes_up (name_at c p k) e)
taken_push c h e p k =
    list_any-append (takes_up (name_at c p k)) h (e ∷ []) ∙ ap (λ (b : Bool). is_taken c h p k || b) (or-false (takes_up (name_at c p k) e))

-- the write is of a verified clone and passes the test
abbrev pub worth_where : SubJob → (ℕ → Draw → Bool) → ℕ → Draw → ℕ
worth_where job test p d = cond (is_write_draw d && has_rounds job && test p d) 1 0

-- no later write of its group overlaps draw d of pass p
abbrev pub is_kept : SubJob → ℕ → Draw → Bool
is_kept job p d = stays_last (pass_of job p) d

-- a later write of its group overlaps it
abbrev pub is_overwritten : SubJob → ℕ → Draw → Bool
is_overwritten job p d = not (is_kept job p d)

-- the event checks a write of clone c, or skips one
abbrev pub probe_worth : ℕ → Event → ℕ
probe_worth c (Probe worker write piece) = cond (write.clone == c) 1 0
probe_worth c (Issue worker kind write piece) = 0
probe_worth c (Skip worker write) = 0
probe_worth c (End worker io outcome) = 0
probe_worth c (Verdict worker io verdict) = 0

abbrev pub skip_worth : ℕ → Event → ℕ
skip_worth c e = cond (is_skip_of c e) 1 0

-- a check or a skip of the clone's: of which draw, and whether it stays last in its group
pub record TakesUp (job : SubJob) (h : List Event) (stays : Bool) (write : WriteId) : Type 0 where
  pub draw : Draw
  pub drawn : slice_get (draws_of_job job write.pass) write.number ≡ Some draw
  pub below : write.pass < job.passes
  pub writes : is_write_draw draw ≡ true
  pub rounds : has_rounds job ≡ true
  pub fresh : list_any (takes_up write) h ≡ false
  pub last : is_kept job write.pass draw ≡ stays

-- what a check or skip of the clone marks
pub record MarksTaken (c : ℕ) (h : List Event) (e : Event) (p k : ℕ) : Type 0 where
  pub off : is_taken c h p k ≡ false
  pub on : is_taken c (h ++ e ∷ []) p k ≡ true
  pub others : (q i : ℕ) → (q ≡ p → i ≡ k → ⊥) → is_taken c (h ++ e ∷ []) q i ≡ is_taken c h q i

pub same_name : (write : WriteId) (c q i : ℕ) → same_write write (name_at c q i) ≡ true → (write.pass ≡ q) × (write.number ≡ i)
same_name write c q i h =
    let parts = and_parts ((write.clone == c) && (write.pass == q)) (write.number == i) h in
    let front = and_parts (write.clone == c) (write.pass == q) parts.0 in
    (eqb-true write.pass q front.1, eqb-true write.number i parts.1)

pub marks_taken : (c : ℕ) (h : List Event) (e : Event) (write : WriteId) → ((w : WriteId) → takes_up w e ≡ same_write write w) → write.clone ≡ c → list_any (takes_up write) h ≡ false → MarksTaken c h e write.pass write.number
marks_taken c h e write takes same fresh =
    let name : write ≡ name_at c write.pass write.number = ap (λ (x : ℕ). name_at x write.pass write.number) same in
    record {
      off = subst (λ (w : WriteId). list_any (takes_up w) h ≡ false) name fresh;
      on = taken_push c h e write.pass write.number
          ∙ or_right (is_taken c h write.pass write.number) (takes_up (name_at c write.pass write.number) e)
          (takes (name_at c write.pass write.number)
          ∙ and_from ((write.clone == c) && (write.pass == write.pass)) (write.number == write.number)
          (and_from (write.clone == c) (write.pass == write.pass) (eq-eqb write.clone c same) (eq-eqb write.pass write.pass refl))
          (eq-eqb write.number write.number refl));
      others = λ (q i : ℕ) (apart : q ≡ write.pass → i ≡ write.number → ⊥).
          taken_push c h e q i
          ∙ ap (λ (b : Bool). is_taken c h q i || b)
          (takes (name_at c q i) ∙ false_from_ne_true (same_write write (name_at c q i))
          (λ (hit : same_write write (name_at c q i) ≡ true). let parts = same_name write c q i hit in apart (sym parts.0) (sym parts.1)))
          ∙ or-false (is_taken c h q i);
    }

pub not_taken : (c : ℕ) (h : List Event) (e : Event) → ((q i : ℕ) → takes_up (name_at c q i) e ≡ false) → (q i : ℕ) → is_taken c (h ++ e ∷ []) q i ≡ is_taken c h q i
not_taken c h e none q i = taken_push c h e q i ∙ ap (λ (b : Bool). is_taken c h q i || b) (none q i) ∙ or-false (is_taken c h q i)

-- a check that was started was taken up
started_taken : (history : List Event) (io : ℕ) (s : Started) (w : WriteId) → slice_get (started history) io ≡ Some s → is_probe s.kind ≡ true → same_write s.write w ≡ true → list_any (takes_up w) history ≡ true
started_taken [] io s w at probe same = cc
started_taken (Issue worker kind write piece ∷ events) zero s w at probe same =
    let one : record { worker = worker; kind = kind_for kind; write = write; piece = piece } ≡ s = some_same _ s at in
    absurd (both_ways (is_probe (kind_for kind)) (issue_is_no_probe kind) (ap (λ (x : Started). is_probe x.kind) one ∙ probe))
  where
    some_same : (u v : Started) → Some u ≡ Some v → u ≡ v
    some_same u v g = cc
started_taken (Issue worker kind write piece ∷ events) (suc io) s w at probe same = started_taken events io s w at probe same
started_taken (Probe worker write piece ∷ events) zero s w at probe same =
    let one : write ≡ s.write = some_write _ s at in
    or_left (same_write write w) (list_any (takes_up w) events) (ap (λ (x : WriteId). same_write x w) one ∙ same)
  where
    some_write : (u v : Started) → Some u ≡ Some v → u.write ≡ v.write
    some_write u v g = let e : u ≡ v = cc in ap (λ (x : Started). x.write) e
started_taken (Probe worker write piece ∷ events) (suc io) s w at probe same =
    or_right (same_write write w) (list_any (takes_up w) events) (started_taken events io s w at probe same)
started_taken (Skip worker write ∷ events) io s w at probe same =
    or_right (same_write write w) (list_any (takes_up w) events) (started_taken events io s w at probe same)
started_taken (End worker id outcome ∷ events) io s w at probe same = started_taken events io s w at probe same
started_taken (Verdict worker id verdict ∷ events) io s w at probe same = started_taken events io s w at probe same

-- what is settled was taken up
pub settled_taken : (history : List Event) (w : WriteId) → is_settled history w ≡ true → list_any (takes_up w) history ≡ true
settled_taken history w settled =
    let found = any_found (settles (started history) w) history settled in
    one_event found.0 found.1 found.2 found.3
  where
    by_io : (o : Option Started) (io : ℕ) → slice_get (started history) io ≡ o → is_probe_of w o ≡ true → list_any (takes_up w) history ≡ true
    by_io None io at hit = cc
    by_io (Some s) io at hit =
        let parts = and_parts (is_probe s.kind) (same_write s.write w) hit in
        started_taken history io s w at parts.0 parts.1

    one_event : (k : ℕ) (e : Event) → slice_get history k ≡ Some e → settles (started history) w e ≡ true → list_any (takes_up w) history ≡ true
    one_event k (Skip worker skipped) at hit = any_at (takes_up w) history k (Skip worker skipped) at hit
    one_event k (End worker io outcome) at hit = by_io (slice_get (started history) io) io refl hit
    one_event k (Issue worker kind write piece) at hit = cc
    one_event k (Probe worker write piece) at hit = cc
    one_event k (Verdict worker io verdict) at hit = cc

module _ (plan : Plan) (planned_all : IsPlanned plan) (apart : are_apart plan.clones ≡ true) (c : ℕ) (job : SubJob) (planned : clone_of plan c ≡ Some job) where
  -- a pass that has begun is one of the clone's
  begun_step : (h : List Event) (e : Event) → IsStep plan h e → ((q : ℕ) → 0 < issued_count h (pass_of job q) → q < job.passes) → (q : ℕ) → 0 < issued_count (h ++ e ∷ []) (pass_of job q) → q < job.passes
  begun_step h e step begun q some =
      elim (issue_cases plan (numbered_of plan planned_all) c job planned h e step q) [
        | inl same ↦ begun q (omega (arith, same, some))
        | inr next ↦ next.may.below
      ]

  begun_below : (history : List Event) → is_legal plan history ≡ true → are_fine history ≡ true → (q : ℕ) → 0 < issued_count history (pass_of job q) → q < job.passes
  begun_below history legal quiet =
      along plan (λ (h : List Event). (q : ℕ) → 0 < issued_count h (pass_of job q) → q < job.passes) (λ q some. absurd (omega (arith, some))) begun_step history legal quiet

  pub takes_up_of : (h : List Event) (stays : Bool) (write : WriteId) → NothingRaced h → is_legal plan h ≡ true → are_fine h ≡ true → write.clone ≡ c → IsTakeUp plan h stays write → TakesUp job h stays write
  takes_up_of h stays write raceless legal quiet same take =
      let one : take.job ≡ job = some_same take.job job (sym take.names.planned ∙ ap (clone_of plan) same ∙ planned) in
      of_job (subst (λ (j : SubJob). IsNamed plan write j take.draw) one take.names)
      (subst (λ (j : SubJob). MayTakeUp plan h (pass_of j write.pass) take.draw) one (may_take_up_parts plan h (pass_of take.job write.pass) take.draw take.may))
      (subst (λ (j : SubJob). is_intact h (write_id (pass_of j write.pass) take.draw) take.draw.piece ≡ stays) one take.intact_is)
    where
      some_same : (u v : SubJob) → Some u ≡ Some v → u ≡ v
      some_same u v g = cc

      of_job : IsNamed plan write job take.draw → MayTakeUp plan h (pass_of job write.pass) take.draw → is_intact h (write_id (pass_of job write.pass) take.draw) take.draw.piece ≡ stays → TakesUp job h stays write
      of_job names may intact =
          let d = take.draw in
          let own = in_own_group job write.pass d.number d (ap (slice_get (draws_of_job job write.pass)) names.number ∙ names.drawn) may.writes in
          let issued : d.number < issued_count h (pass_of job write.pass) =
          full_issued h job write.pass (group_index (pass_of job write.pass) d.number) d (open_parts h (pass_of job write.pass) (group_index (pass_of job write.pass) d.number) may.opened).full own.0 own.1 in
          record {
            draw = d;
            drawn = names.drawn;
            below = begun_below h legal quiet write.pass (omega (arith, issued));
            writes = may.writes;
            rounds = may.rounds;
            fresh = subst (λ (w : WriteId). list_any (takes_up w) h ≡ false) names.name may.fresh;
            last = sym (intact_is_last plan planned_all apart c job planned h raceless legal quiet write.pass write.number d names.drawn may) ∙ intact;
          }

  module _ (worth : Event → ℕ) (test : ℕ → Draw → Bool) where
    abbrev TakenTally : List Event → Type 0
    TakenTally h = total worth h ≡ spread job (is_taken c h) (worth_where job test) job.passes

    tally_keeps : (h : List Event) (e : Event) → worth e ≡ 0 → ((q i : ℕ) → takes_up (name_at c q i) e ≡ false) → TakenTally h → TakenTally (h ++ e ∷ [])
    tally_keeps h e nothing none so_far =
        omega (arith, total_push worth h e, nothing, so_far, spread_same job (is_taken c h) (is_taken c (h ++ e ∷ [])) (worth_where job test) job.passes (not_taken c h e none))

    tally_takes : (h : List Event) (e : Event) (write : WriteId) (stays : Bool) → ((w : WriteId) → takes_up w e ≡ same_write write w) → write.clone ≡ c → (takes : TakesUp job h stays write) → worth e ≡ cond (test write.pass takes.draw) 1 0 → TakenTally h → TakenTally (h ++ e ∷ [])
    tally_takes h e write stays says same takes worth_is so_far =
        let marks = marks_taken c h e write says same takes.fresh in
        let its_worth : worth_where job test write.pass takes.draw ≡ cond (test write.pass takes.draw) 1 0 =
        ap {B = ℕ} (λ (b : Bool). cond (b && test write.pass takes.draw) 1 0) (and_from (is_write_draw takes.draw) (has_rounds job) takes.writes takes.rounds) in
        omega (
          arith,
          total_push worth h e,
          worth_is,
          its_worth,
          so_far,
          spread_grows job (is_taken c h) (is_taken c (h ++ e ∷ [])) (worth_where job test) job.passes write.pass write.number takes.draw takes.below takes.drawn marks.off marks.on marks.others,
        )

    start_tally : TakenTally []
    start_tally = sym (zeros job.passes)
      where
        no_marks : (p n : ℕ) (xs : List Draw) → marked (is_taken c [] p) (worth_where job test p) n xs ≡ 0
        no_marks p n [] = refl
        no_marks p n (x ∷ xs) = omega (arith, no_marks p (suc n) xs)

        zeros : (n : ℕ) → spread job (is_taken c []) (worth_where job test) n ≡ 0
        zeros zero = refl
        zeros (suc n) = omega (arith, zeros n, no_marks n 0 (draws_of_job job n))

  other_name : (write : WriteId) → (write.clone ≡ c → ⊥) → (q i : ℕ) → same_write write (name_at c q i) ≡ false
  other_name write differs q i =
      and_left ((write.clone == c) && (write.pass == q)) (write.number == i) (and_left (write.clone == c) (write.pass == q) (ne_eqb write.clone c differs))

  -- checks
  probes_step : (h : List Event) (e : Event) → IsStep plan h e → NothingRaced h → TakenTally (probe_worth c) (is_kept job) h → TakenTally (probe_worth c) (is_kept job) (h ++ e ∷ [])
  probes_step h (Issue worker kind write piece) step raceless so_far = tally_keeps (probe_worth c) (is_kept job) h (Issue worker kind write piece) refl (λ q i. refl) so_far
  probes_step h (End worker io outcome) step raceless so_far = tally_keeps (probe_worth c) (is_kept job) h (End worker io outcome) refl (λ q i. refl) so_far
  probes_step h (Verdict worker io verdict) step raceless so_far = tally_keeps (probe_worth c) (is_kept job) h (Verdict worker io verdict) refl (λ q i. refl) so_far
  probes_step h (Probe worker write piece) step raceless so_far =
      elim (cases_eq write.clone c) [
        | inl same ↦
            let takes = takes_up_of h true write raceless step.legal step.quiet same (probe_of plan h worker write piece (numbered_of plan planned_all) step.may) in
            tally_takes (probe_worth c) (is_kept job) h (Probe worker write piece) write true (λ w. refl) same takes
            (ap {B = ℕ} (λ (b : Bool). cond b 1 0) (eq-eqb write.clone c same ∙ sym takes.last)) so_far
        | inr differs ↦
            tally_keeps (probe_worth c) (is_kept job) h (Probe worker write piece)
            (ap {B = ℕ} (λ (b : Bool). cond b 1 0) (ne_eqb write.clone c differs)) (other_name write differs) so_far
      ]
  probes_step h (Skip worker write) step raceless so_far =
      elim (cases_eq write.clone c) [
        | inl same ↦
            let takes = takes_up_of h false write raceless step.legal step.quiet same (skip_of plan h worker write (numbered_of plan planned_all) step.may) in
            tally_takes (probe_worth c) (is_kept job) h (Skip worker write) write false (λ w. refl) same takes
            (ap {B = ℕ} (λ (b : Bool). cond b 1 0) (sym takes.last)) so_far
        | inr differs ↦
            tally_keeps (probe_worth c) (is_kept job) h (Skip worker write) refl (other_name write differs) so_far
      ]

  -- skips
  skips_step : (h : List Event) (e : Event) → IsStep plan h e → NothingRaced h → TakenTally (skip_worth c) (is_overwritten job) h → TakenTally (skip_worth c) (is_overwritten job) (h ++ e ∷ [])
  skips_step h (Issue worker kind write piece) step raceless so_far = tally_keeps (skip_worth c) (is_overwritten job) h (Issue worker kind write piece) refl (λ q i. refl) so_far
  skips_step h (End worker io outcome) step raceless so_far = tally_keeps (skip_worth c) (is_overwritten job) h (End worker io outcome) refl (λ q i. refl) so_far
  skips_step h (Verdict worker io verdict) step raceless so_far = tally_keeps (skip_worth c) (is_overwritten job) h (Verdict worker io verdict) refl (λ q i. refl) so_far
  skips_step h (Probe worker write piece) step raceless so_far =
      elim (cases_eq write.clone c) [
        | inl same ↦
            let takes = takes_up_of h true write raceless step.legal step.quiet same (probe_of plan h worker write piece (numbered_of plan planned_all) step.may) in
            tally_takes (skip_worth c) (is_overwritten job) h (Probe worker write piece) write true (λ w. refl) same takes
            (ap {B = ℕ} (λ (b : Bool). cond (not b) 1 0) (sym takes.last)) so_far
        | inr differs ↦
            tally_keeps (skip_worth c) (is_overwritten job) h (Probe worker write piece) refl (other_name write differs) so_far
      ]
  skips_step h (Skip worker write) step raceless so_far =
      elim (cases_eq write.clone c) [
        | inl same ↦
            let takes = takes_up_of h false write raceless step.legal step.quiet same (skip_of plan h worker write (numbered_of plan planned_all) step.may) in
            tally_takes (skip_worth c) (is_overwritten job) h (Skip worker write) write false (λ w. refl) same takes
            (ap {B = ℕ} (λ (b : Bool). cond b 1 0) (eq-eqb write.clone c same) ∙ ap {B = ℕ} (λ (b : Bool). cond (not b) 1 0) (sym takes.last)) so_far
        | inr differs ↦
            tally_keeps (skip_worth c) (is_overwritten job) h (Skip worker write)
            (ap {B = ℕ} (λ (b : Bool). cond b 1 0) (ne_eqb write.clone c differs)) (other_name write differs) so_far
      ]

  -- each write of a complete history was checked or skipped
  all_taken : (history : List Event) → is_legal plan history ≡ true → are_fine history ≡ true → is_complete plan history ≡ true → (p k : ℕ) (d : Draw) → p < job.passes → slice_get (draws_of_job job p) k ≡ Some d → is_write_draw d ≡ true → has_rounds job ≡ true → is_taken c history p k ≡ true
  all_taken history legal quiet complete p k d below at writes rounds =
      let pass = pass_of job p in
      let closed = (finished_parts history pass (finishes plan history c job planned quiet complete p below)).closed in
      let own = in_own_group job p k d at writes in
      let g = group_index pass k in
      let all : list_all (λ (i : ℕ). is_closed history pass i) (range_with_len 0 (group_count pass)) ≡ true = second (has_rounds job) _ rounds closed in
      let one : is_closed history pass g ≡ true = all_at (λ (i : ℕ). is_closed history pass i) (range_with_len 0 (group_count pass)) g g all (ranged_at 0 (group_count pass) g own.1 ∙ ap Some (zero-add g)) in
      let members = (and_parts (is_full history pass g) (list_all (λ (x : Draw). is_settled history (write_id pass x)) (group_of pass g)) one).1 in
      let settled : is_settled history (write_id pass d) ≡ true = all_at (λ (x : Draw). is_settled history (write_id pass x)) (group_of pass g) own.0.place d members own.0.at in
      let name : write_id pass d ≡ name_at c p k = ap (λ (x : ℕ). name_at x p d.number) (clone_is plan (numbered_of plan planned_all) c job planned) ∙ ap (name_at c p) (number_of_draw job p k d at) in
      settled_taken history (name_at c p k) (subst (λ (w : WriteId). is_settled history w ≡ true) name settled)
    where
      second : (a b : Bool) → a ≡ true → (not a || b) ≡ true → b ≡ true
      second true b one h = h
      second false b one h = cc

  counted_all : (test : ℕ → Draw → Bool) (history : List Event) → is_legal plan history ≡ true → are_fine history ≡ true → is_complete plan history ≡ true → spread job (is_taken c history) (worth_where job test) job.passes ≡ upto (λ (p : ℕ). total (worth_where job test p) (draws_of_job job p)) job.passes
  counted_all test history legal quiet complete =
      spread_all job (is_taken c history) (worth_where job test) job.passes
      (λ (p k : ℕ) (d : Draw) (below : p < job.passes) (at : slice_get (draws_of_job job p) k ≡ Some d).
      elim (cases_Bool (is_write_draw d && has_rounds job)) [
        | inl both ↦
            let parts = and_parts (is_write_draw d) (has_rounds job) both in
            inl (all_taken history legal quiet complete p k d below at parts.0 parts.1)
        | inr neither ↦ inr (ap {B = ℕ} (λ (b : Bool). cond (b && test p d) 1 0) neither)
      ])

  -- how many were checked, and how many skipped
  pub probes_counted : (history : List Event) → NothingRaced history → is_legal plan history ≡ true → are_fine history ≡ true → is_complete plan history ≡ true → total (probe_worth c) history ≡ upto (λ (p : ℕ). total (worth_where job (is_kept job) p) (draws_of_job job p)) job.passes
  probes_counted history raceless legal quiet complete =
      along plan (λ (h : List Event). NothingRaced h → TakenTally (probe_worth c) (is_kept job) h) (λ none. start_tally (probe_worth c) (is_kept job))
      (λ h e step so_far none. probes_step h e step (raced_before h e none) (so_far (raced_before h e none))) history legal quiet raceless
      ∙ counted_all (is_kept job) history legal quiet complete

  pub skips_counted : (history : List Event) → NothingRaced history → is_legal plan history ≡ true → are_fine history ≡ true → is_complete plan history ≡ true → total (skip_worth c) history ≡ upto (λ (p : ℕ). total (worth_where job (is_overwritten job) p) (draws_of_job job p)) job.passes
  skips_counted history raceless legal quiet complete =
      along plan (λ (h : List Event). NothingRaced h → TakenTally (skip_worth c) (is_overwritten job) h) (λ none. start_tally (skip_worth c) (is_overwritten job))
      (λ h e step so_far none. skips_step h e step (raced_before h e none) (so_far (raced_before h e none))) history legal quiet raceless
      ∙ counted_all (is_overwritten job) history legal quiet complete

-- what is checked stays last in its group, and what is skipped doesn't
pub kept_or_not : (plan : Plan) (history : List Event) (worker : ℕ) (write : WriteId) (piece : Piece) (job : SubJob) (draw : Draw) → IsPlanned plan → none_declines plan ≡ true → are_apart plan.clones ≡ true → is_legal plan history ≡ true → is_quiet history ≡ true → clone_of plan write.clone ≡ Some job → slice_get (draws_of_job job write.pass) write.number ≡ Some draw → (may_happen plan history (Probe worker write piece) ≡ true → stays_last (pass_of job write.pass) draw ≡ true) × (may_happen plan history (Skip worker write) ≡ true → stays_last (pass_of job write.pass) draw ≡ false)
kept_or_not plan history worker write piece job draw planned_all none files legal quiet planned drawn = (
  λ (may : may_happen plan history (Probe worker write piece) ≡ true). of_draw true (probe_of plan history worker write piece (numbered_of plan planned_all) may),
  λ (may : may_happen plan history (Skip worker write) ≡ true). of_draw false (skip_of plan history worker write (numbered_of plan planned_all) may),
)
  where
    some_same : (u v : Draw) → Some u ≡ Some v → u ≡ v
    some_same u v g = cc

    of_draw : (stays : Bool) → IsTakeUp plan history stays write → stays_last (pass_of job write.pass) draw ≡ stays
    of_draw stays take =
        let raceless = unraced plan (numbered_of plan planned_all) none history legal in
        let takes = takes_up_of plan planned_all files write.clone job planned history stays write raceless legal (quiet_is_fine plan history raceless legal quiet) refl take in
        let one : takes.draw ≡ draw = some_same takes.draw draw (sym takes.drawn ∙ drawn) in
        subst (λ (d : Draw). stays_last (pass_of job write.pass) d ≡ stays) one takes.last
