-- The order of a clone's issues: a pass begins once those before are issued and their rounds closed, and a group's writes
-- once the groups before are closed.
use Rattle.std.proofs.Common.{◌≡◌, ℕ, zero, suc, ◌*◌, ◌<◌, ◌≤◌, List, [], ◌∷◌, ◌++◌, length, take, drop, Bool, true, false, ◌&&◌, ◌||◌, not, refl, sym, ◌∙◌, ap, subst, arith, inl, inr, zero-add, length-take}
use Rattle.std.specs.Prelude.{◌⊎◌, Some, slice_get, nat_lt, ◌==◌}
use Rattle.std.specs.List.{list_any, list_all, cons_option, range_with_len}
use Rattle.std.proofs.lemmas.Bool.{and_parts, and_from, and_right, eqb-true, eq-eqb, ne_eqb, ltb-true, cases_eq, cases_lt, not-true, not-false, or_left, or_right, or_cases, or_parts, both_ways}
use Rattle.std.proofs.lemmas.List.Folds.{list_any-append}
use Rattle.std.proofs.lemmas.Option.{slice_get_within}
use Rattle.jr_model.specs.declared.blocks.Piece.{Piece}
use Rattle.jr_model.specs.declared.events.Event.{Event}
use Rattle.jr_model.specs.declared.events.Event.TheVariants.{Issue, Probe, Skip, End, Verdict}
use Rattle.jr_model.specs.declared.events.IssueKind.{IssueKind}
use Rattle.jr_model.specs.declared.events.Started.{Started}
use Rattle.jr_model.specs.declared.events.WriteId.{WriteId}
use Rattle.jr_model.specs.declared.workloads.Draw.{Draw}
use Rattle.jr_model.specs.Draws.{draws_of_job}
use Rattle.jr_model.specs.History.{started, started_by}
use Rattle.jr_model.specs.Legal.{is_legal}
use Rattle.jr_model.specs.Plan.{Plan, SubJob, IsNumbered, clone_of, issued_as}
use Rattle.jr_model.specs.Rounds.{Pass, pass_of, passes_of, write_id, issued_count, all_issued, issued_among, is_probe_of, settles, is_settled, is_full, is_closed, is_open, no_issue_flies, rounds_closed, pass_finished, has_rounds, group_of, group_count, group_index, writes_of}
use Rattle.jr_model.proofs.ListLemmas.{all_weaker}
use Rattle.jr_model.proofs.PlaceLemmas.{got_longer, ranged_at}
use Rattle.jr_model.proofs.HistoryLemmas.{started-more}
use Rattle.jr_model.proofs.PlanLemmas.{pass_at}
use Rattle.jr_laws_quiet.proofs.Steps.{are_fine}
use Rattle.jr_laws_quiet.proofs.Tallies.{count_by-total}
use Rattle.jr_laws_quiet.proofs.Steps.{IsStep, along, refers, all_refer, Agrees}
use Rattle.jr_laws_quiet.proofs.Issues.{MayIssue, issued_same, its_issue, its_marks, other_clone, all_at, finished_parts}
use Rattle.jr_laws_quiet.proofs.Groups.{rank, rank_le_length, group_is, got_take}
use Rattle.jr_laws_quiet.proofs.Members.{before_full, rank_mono}

pub settles_agrees : (w : WriteId) → Agrees (λ (ios : List Started). λ (e : Event). settles ios w e)
settles_agrees w ios more (End worker io outcome) h = ap (is_probe_of w) (got_longer ios more io (ltb-true io (length ios) h))
settles_agrees w ios more (Issue worker kind write piece) h = refl
settles_agrees w ios more (Probe worker write piece) h = refl
settles_agrees w ios more (Skip worker write) h = refl
settles_agrees w ios more (Verdict worker io verdict) h = refl

pub any_agrees : (w : WriteId) (ios more : List Started) (events : List Event) → list_all (refers (length ios)) events ≡ true → list_any (settles (ios ++ more) w) events ≡ list_any (settles ios w) events
any_agrees w ios more [] h = refl
any_agrees w ios more (e ∷ events) h =
    let parts = and_parts (refers (length ios) e) (list_all (refers (length ios)) events) h in
    ap (λ (b : Bool). b || list_any (settles (ios ++ more) w) events) (settles_agrees w ios more e parts.0)
    ∙ ap (λ (b : Bool). settles ios w e || b) (any_agrees w ios more events parts.1)

-- what is settled stays so
pub settled_more : (plan : Plan) (h : List Event) (e : Event) (w : WriteId) → IsStep plan h e → is_settled h w ≡ true → is_settled (h ++ e ∷ []) w ≡ true
settled_more plan h e w step settled =
    let ios = started (h ++ e ∷ []) in
    list_any-append (settles ios w) h (e ∷ [])
    ∙ or_left (list_any (settles ios w) h) (list_any (settles ios w) (e ∷ []))
    (ap (λ (s : List Started). list_any (settles s w) h) (started-more h e)
    ∙ any_agrees w (started h) (cons_option (started_by e) []) h (all_refer plan h step.legal step.quiet)
    ∙ settled)

-- the event issues the next draw of pass q
pub record NextIssue (plan : Plan) (job : SubJob) (h : List Event) (e : Event) (q : ℕ) : Type 0 where
  pub worker : ℕ
  pub write : WriteId
  pub draw : Draw
  pub is : e ≡ Issue worker (issued_as job draw.dir) write draw.piece
  pub clone : write.clone ≡ job.clone
  pub pass : write.pass ≡ q
  pub before : issued_count h (pass_of job q) ≡ write.number
  pub after : issued_count (h ++ e ∷ []) (pass_of job q) ≡ suc write.number
  pub drawn : slice_get (draws_of_job job q) write.number ≡ Some draw
  pub may : MayIssue plan h (pass_of job q) draw

pub none_at : {X : Type 0} (p : X → Bool) (xs : List X) (k : ℕ) (x : X) → list_any p xs ≡ false → slice_get xs k ≡ Some x → p x ≡ false
none_at p [] k x h at = cc
none_at {X = X} p (y ∷ xs) zero x h at =
    let same : y ≡ x = cc in
    subst (λ (z : X). p z ≡ false) same (or_parts (p y) (list_any p xs) h).0
none_at p (y ∷ xs) (suc k) x h at = none_at p xs k x (or_parts (p y) (list_any p xs) h).1 at

-- all draws of the pass are issued, and its rounds are closed
pub record IsPast (job : SubJob) (h : List Event) (p : ℕ) : Type 0 where
  pub issued : issued_count h (pass_of job p) ≡ length (draws_of_job job p)
  pub closed : rounds_closed h (pass_of job p) ≡ true

-- where a draw of a pass was issued, the passes before are past
abbrev pub PassesInTurn : SubJob → List Event → Type 0
PassesInTurn job h = (p q : ℕ) → p < q → 0 < issued_count h (pass_of job q) → IsPast job h p

-- where a draw was issued, the groups before its own are closed
abbrev pub GroupsInTurn : SubJob → List Event → Type 0
GroupsInTurn job h = (p k g : ℕ) → has_rounds job ≡ true → k < issued_count h (pass_of job p) → g < group_index (pass_of job p) k → is_closed h (pass_of job p) g ≡ true

module _ (plan : Plan) (numbered : IsNumbered plan) (c : ℕ) (job : SubJob) (planned : clone_of plan c ≡ Some job) where
  -- an event issues the next draw of a pass, or leaves its count
  pub issue_cases : (h : List Event) (e : Event) → IsStep plan h e → (q : ℕ) → (issued_count (h ++ e ∷ []) (pass_of job q) ≡ issued_count h (pass_of job q)) ⊎ NextIssue plan job h e q
  issue_cases h (Probe worker write piece) step q = inl (issued_same h (Probe worker write piece) (pass_of job q) refl)
  issue_cases h (Skip worker write) step q = inl (issued_same h (Skip worker write) (pass_of job q) refl)
  issue_cases h (End worker io outcome) step q = inl (issued_same h (End worker io outcome) (pass_of job q) refl)
  issue_cases h (Verdict worker io verdict) step q = inl (issued_same h (Verdict worker io verdict) (pass_of job q) refl)
  issue_cases h (Issue worker kind write piece) step q = by_clone (cases_eq write.clone c) (cases_eq write.pass q)
    where
      by_clone : (write.clone ≡ c) ⊎ (write.clone ≡ c → ⊥) → (write.pass ≡ q) ⊎ (write.pass ≡ q → ⊥) → (issued_count (h ++ Issue worker kind write piece ∷ []) (pass_of job q) ≡ issued_count h (pass_of job q)) ⊎ NextIssue plan job h (Issue worker kind write piece) q
      by_clone (inr apart) same_pass = inl (other_clone plan numbered c job planned h worker kind write piece apart q)
      by_clone (inl same) (inr apart) =
          inl (issued_same h (Issue worker kind write piece) (pass_of job q) (and_right (write.clone == job.clone) (write.pass == q) (ne_eqb write.pass q apart)))
      by_clone (inl same) (inl same_pass) =
          let issue = its_issue plan numbered c job planned h worker kind write piece step same in
          let marks = its_marks plan numbered c job planned h worker kind write piece step same in
          let e = Issue worker kind write piece in
          inr (record {
            worker = worker;
            write = write;
            draw = issue.0;
            is = ap (λ (k : IssueKind). Issue worker k write piece) (sym issue.2) ∙ ap (λ (p : Piece). Issue worker (issued_as job issue.0.dir) write p) (sym issue.3);
            clone = sym issue.1.clone;
            pass = same_pass;
            before = subst (λ (p : ℕ). issued_count h (pass_of job p) ≡ write.number) same_pass (sym issue.4.next ∙ issue.1.number);
            after = subst (λ (p : ℕ). issued_count (h ++ e ∷ []) (pass_of job p) ≡ suc write.number) same_pass marks.more;
            drawn = subst (λ (p : ℕ). slice_get (draws_of_job job p) write.number ≡ Some issue.0) same_pass issue.1.drawn;
            may = subst (λ (p : ℕ). MayIssue plan h (pass_of job p) issue.0) same_pass issue.4;
          })

  -- counts only grow
  pub count_grows : (h : List Event) (e : Event) → IsStep plan h e → (q : ℕ) → issued_count h (pass_of job q) ≤ issued_count (h ++ e ∷ []) (pass_of job q)
  count_grows h e step q =
      elim (issue_cases h e step q) [
        | inl same ↦ omega (arith, same)
        | inr next ↦ omega (arith, next.before, next.after)
      ]

  -- once all are issued, none is
  pub all_stay : (h : List Event) (e : Event) → IsStep plan h e → (q : ℕ) → issued_count h (pass_of job q) ≡ length (draws_of_job job q) → issued_count (h ++ e ∷ []) (pass_of job q) ≡ length (draws_of_job job q)
  all_stay h e step q all =
      elim (issue_cases h e step q) [
        | inl same ↦ same ∙ all
        | inr next ↦ absurd (omega (arith, next.before, all, slice_get_within (draws_of_job job q) next.write.number next.draw next.drawn))
      ]

  -- a full group stays full
  pub full_more : (h : List Event) (e : Event) → IsStep plan h e → (p g : ℕ) → is_full h (pass_of job p) g ≡ true → is_full (h ++ e ∷ []) (pass_of job p) g ≡ true
  full_more h e step p g full =
      by_reason (or_cases (all_issued h (pass_of job p)) (nat_lt 0 job.backlog && (issued_among h (pass_of job p) (group_of (pass_of job p) g) == job.backlog)) full)
    where
      by_reason : (all_issued h (pass_of job p) ≡ true) ⊎ ((nat_lt 0 job.backlog && (issued_among h (pass_of job p) (group_of (pass_of job p) g) == job.backlog)) ≡ true) → is_full (h ++ e ∷ []) (pass_of job p) g ≡ true
      by_reason (inl all) =
          or_left (all_issued (h ++ e ∷ []) (pass_of job p)) (nat_lt 0 job.backlog && (issued_among (h ++ e ∷ []) (pass_of job p) (group_of (pass_of job p) g) == job.backlog))
          (eq-eqb (issued_count (h ++ e ∷ []) (pass_of job p)) (length (draws_of_job job p))
          (all_stay h e step p (eqb-true (issued_count h (pass_of job p)) (length (draws_of_job job p)) all)))
      by_reason (inr many) =
          let parts = and_parts (nat_lt 0 job.backlog) (issued_among h (pass_of job p) (group_of (pass_of job p) g) == job.backlog) many in
          let above : 0 < job.backlog = ltb-true 0 job.backlog parts.0 in
          let some : (job.backlog == 0) ≡ false = ne_eqb job.backlog 0 (λ same. absurd (omega (arith, same, above))) in
          let n = issued_count h (pass_of job p) in
          let m = issued_count (h ++ e ∷ []) (pass_of job p) in
          let was : rank (group_of (pass_of job p) g) n ≡ job.backlog = sym (count_by-total (λ (draw : Draw). nat_lt draw.number n) (group_of (pass_of job p) g)) ∙ eqb-true (issued_among h (pass_of job p) (group_of (pass_of job p) g)) job.backlog parts.1 in
          let short : length (group_of (pass_of job p) g) ≤ job.backlog = omega (arith, ap length (group_is job p g some), length-take job.backlog (drop (g * job.backlog) (writes_of (pass_of job p)))) in
          let now : rank (group_of (pass_of job p) g) m ≡ job.backlog = omega (arith, was, short, rank_le_length (group_of (pass_of job p) g) m, rank_mono (group_of (pass_of job p) g) n m (count_grows h e step p)) in
          or_right (all_issued (h ++ e ∷ []) (pass_of job p)) (nat_lt 0 job.backlog && (issued_among (h ++ e ∷ []) (pass_of job p) (group_of (pass_of job p) g) == job.backlog))
          (and_from (nat_lt 0 job.backlog) (issued_among (h ++ e ∷ []) (pass_of job p) (group_of (pass_of job p) g) == job.backlog) parts.0
          (eq-eqb (issued_among (h ++ e ∷ []) (pass_of job p) (group_of (pass_of job p) g)) job.backlog (count_by-total (λ (draw : Draw). nat_lt draw.number m) (group_of (pass_of job p) g) ∙ now)))

  -- a closed group stays closed
  pub closed_more : (h : List Event) (e : Event) → IsStep plan h e → (p g : ℕ) → is_closed h (pass_of job p) g ≡ true → is_closed (h ++ e ∷ []) (pass_of job p) g ≡ true
  closed_more h e step p g closed =
      let pass = pass_of job p in
      let parts = and_parts (is_full h pass g) (list_all (λ (draw : Draw). is_settled h (write_id pass draw)) (group_of pass g)) closed in
      and_from (is_full (h ++ e ∷ []) pass g) (list_all (λ (draw : Draw). is_settled (h ++ e ∷ []) (write_id pass draw)) (group_of pass g))
      (full_more h e step p g parts.0)
      (all_weaker (λ (draw : Draw). is_settled h (write_id pass draw)) (λ (draw : Draw). is_settled (h ++ e ∷ []) (write_id pass draw)) (group_of pass g)
      (λ (d : Draw) (settled : is_settled h (write_id pass d) ≡ true). settled_more plan h e (write_id pass d) step settled) parts.1)

  pub rounds_more : (h : List Event) (e : Event) → IsStep plan h e → (p : ℕ) → rounds_closed h (pass_of job p) ≡ true → rounds_closed (h ++ e ∷ []) (pass_of job p) ≡ true
  rounds_more h e step p closed =
      elim (or_cases (not (has_rounds job)) (list_all (λ (g : ℕ). is_closed h (pass_of job p) g) (range_with_len 0 (group_count (pass_of job p)))) closed) [
        | inl none ↦ or_left (not (has_rounds job)) (list_all (λ (g : ℕ). is_closed (h ++ e ∷ []) (pass_of job p) g) (range_with_len 0 (group_count (pass_of job p)))) none
        | inr all ↦
            or_right (not (has_rounds job)) (list_all (λ (g : ℕ). is_closed (h ++ e ∷ []) (pass_of job p) g) (range_with_len 0 (group_count (pass_of job p))))
            (all_weaker (λ (g : ℕ). is_closed h (pass_of job p) g) (λ (g : ℕ). is_closed (h ++ e ∷ []) (pass_of job p) g) (range_with_len 0 (group_count (pass_of job p)))
            (λ (g : ℕ) (one : is_closed h (pass_of job p) g ≡ true). closed_more h e step p g one) all)
      ]

  past_more : (h : List Event) (e : Event) → IsStep plan h e → (p : ℕ) → IsPast job h p → IsPast job (h ++ e ∷ []) p
  past_more h e step p past = record {
    issued = all_stay h e step p past.issued;
    closed = rounds_more h e step p past.closed;
  }

  passes_step : (h : List Event) (e : Event) → IsStep plan h e → PassesInTurn job h → PassesInTurn job (h ++ e ∷ [])
  passes_step h e step turns p q before some =
      elim (issue_cases h e step q) [
        | inl same ↦ past_more h e step p (turns p q before (omega (arith, same, some)))
        | inr next ↦
            let done = all_at (pass_finished h) (take q (passes_of job)) p (pass_of job p) next.may.earlier
            (got_take q (passes_of job) p before ∙ pass_at job p (omega (arith, before, next.may.below))) in
            let parts = finished_parts h (pass_of job p) done in
            past_more h e step p (record { issued = parts.issued; closed = parts.closed })
      ]

  pub passes_in_turn : (history : List Event) → is_legal plan history ≡ true → are_fine history ≡ true → PassesInTurn job history
  passes_in_turn history legal quiet =
      along plan (λ (h : List Event). PassesInTurn job h) (λ p q before some. absurd (omega (arith, some))) passes_step history legal quiet

  groups_step : (h : List Event) (e : Event) → IsStep plan h e → GroupsInTurn job h → GroupsInTurn job (h ++ e ∷ [])
  groups_step h e step turns p k g rounds issued before =
      elim (issue_cases h e step p) [
        | inl same ↦ closed_more h e step p g (turns p k g rounds (omega (arith, same, issued)) before)
        | inr next ↦
            closed_more h e step p g (by_number next (cases_lt k next.write.number))
      ]
    where
      by_number : (next : NextIssue plan job h e p) → (k < next.write.number) ⊎ (next.write.number ≤ k) → is_closed h (pass_of job p) g ≡ true
      by_number next (inl earlier) = turns p k g rounds (omega (arith, earlier, next.before)) before
      by_number next (inr last) =
          let full = before_full h job p g k before (omega (arith, issued, next.after, next.before, last)) in
          let waits : list_any (λ (i : ℕ). is_full h (pass_of job p) i && not (is_closed h (pass_of job p) i)) (range_with_len 0 (group_count (pass_of job p))) ≡ false =
          second (has_rounds job) _ rounds next.may.proceeds in
          let here = none_at (λ (i : ℕ). is_full h (pass_of job p) i && not (is_closed h (pass_of job p) i)) (range_with_len 0 (group_count (pass_of job p))) g g waits
          (ranged_at 0 (group_count (pass_of job p)) g full.1 ∙ ap Some (zero-add g)) in
          not-false (is_closed h (pass_of job p) g) (second (is_full h (pass_of job p) g) _ full.0 here)
        where
          second : (a b : Bool) → a ≡ true → (a && b) ≡ false → b ≡ false
          second true b one g = g
          second false b one g = cc

  pub groups_in_turn : (history : List Event) → is_legal plan history ≡ true → are_fine history ≡ true → GroupsInTurn job history
  groups_in_turn history legal quiet =
      along plan (λ (h : List Event). GroupsInTurn job h) (λ p k g rounds issued before. absurd (omega (arith, issued))) groups_step history legal quiet

  -- while a group of a pass isn't closed no later pass has begun
  pub no_later_pass : (h : List Event) → is_legal plan h ≡ true → are_fine h ≡ true → (p q g : ℕ) → has_rounds job ≡ true → g < group_count (pass_of job p) → is_closed h (pass_of job p) g ≡ false → p < q → 0 < issued_count h (pass_of job q) → ⊥
  no_later_pass h legal quiet p q g rounds below not_closed later some =
      let past = passes_in_turn h legal quiet p q later some in
      elim (or_cases (not (has_rounds job)) (list_all (λ (i : ℕ). is_closed h (pass_of job p) i) (range_with_len 0 (group_count (pass_of job p)))) past.closed) [
        | inl none ↦ both_ways (not (has_rounds job)) (ap not rounds) none
        | inr all ↦
            both_ways (is_closed h (pass_of job p) g) not_closed
            (all_at (λ (i : ℕ). is_closed h (pass_of job p) i) (range_with_len 0 (group_count (pass_of job p))) g g all
            (ranged_at 0 (group_count (pass_of job p)) g below ∙ ap Some (zero-add g)))
      ]

-- while a group is open
pub record IsOpen (h : List Event) (pass : Pass) (g : ℕ) : Type 0 where
  pub full : is_full h pass g ≡ true
  pub not_closed : is_closed h pass g ≡ false
  pub still : no_issue_flies h pass.job.clone ≡ true

pub open_parts : (h : List Event) (pass : Pass) (g : ℕ) → is_open h pass g ≡ true → IsOpen h pass g
open_parts h pass g opened =
    let parts = and_parts (is_full h pass g && not (is_closed h pass g)) (no_issue_flies h pass.job.clone) opened in
    let front = and_parts (is_full h pass g) (not (is_closed h pass g)) parts.0 in
    record { full = front.0; not_closed = not-true (is_closed h pass g) front.1; still = parts.1 }
