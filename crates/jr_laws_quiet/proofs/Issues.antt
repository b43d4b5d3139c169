-- Each draw of a pass is issued once, in order, so a sum over issues is one over draws.
use Rattle.std.proofs.Common.{◌≡◌, ℕ, zero, suc, ◌+◌, ◌<◌, ◌≤◌, List, [], ◌∷◌, ◌++◌, length, take, Bool, true, false, cond, ◌&&◌, ◌||◌, not, refl, sym, ◌∙◌, ap, subst, arith, inl, inr, zero-add}
use Rattle.std.specs.Prelude.{◌⊎◌, Option, Some, None, slice_get, nat_lt, ◌==◌, flat_map}
use Rattle.std.specs.List.{list_any, list_all, range_with_len}
use Rattle.std.proofs.lemmas.Bool.{and_parts, and_from, eqb-true, eq-eqb, ne_eqb, lt-ltb, le-ltb, ltb-true, cases_eq, cases_lt, not-true, and_left, and_right, or_from}
use Rattle.std.proofs.lemmas.Option.{slice_get_within}
use Rattle.jr_model.specs.declared.blocks.Piece.{Piece}
use Rattle.jr_model.specs.declared.events.Event.{Event}
use Rattle.jr_model.specs.declared.events.Event.TheVariants.{Issue, Probe, Skip, End, Verdict}
use Rattle.jr_model.specs.declared.events.IssueKind.{IssueKind}
use Rattle.jr_model.specs.declared.events.Outcome.{Outcome}
use Rattle.jr_model.specs.declared.events.Outcome.TheVariants.{Whole, Failed, Short}
use Rattle.jr_model.specs.declared.events.Started.{Started}
use Rattle.jr_model.specs.declared.events.Verdict.TheVariants.{Good, Bad, Void}
use Rattle.jr_model.specs.declared.events.WriteId.{WriteId}
use Rattle.jr_model.specs.declared.tickets.TicketKind.{TicketKind}
use Rattle.jr_model.specs.declared.tickets.TicketKind.TheVariants as ticket
use Rattle.jr_model.specs.declared.workloads.Draw.{Draw}
use Rattle.jr_model.specs.Draws.{draws_of_job}
use Rattle.jr_model.specs.History.{started, started_by, kind_for, is_of_clone}
use Rattle.jr_model.specs.Legal.{is_legal, is_complete, is_over, is_halted, halts, is_fault, is_io_of, may_issue, may_take_up, is_clear, has_room, phase_is_open, takes_up}
use Rattle.jr_model.specs.Plan.{Plan, SubJob, IsNumbered, clone_of, issued_as}
use Rattle.jr_model.specs.Rounds.{Pass, pass_of, passes_of, write_id, is_write_draw, issues_of, issued_count, all_issued, is_current, waits_for_round, pass_finished, clone_finished, nothing_flies_in, rounds_closed, has_rounds, is_open, group_index}
use Rattle.jr_model.specs.Totals.{moved, moved_by, if_wanted}
use Rattle.jr_model.proofs.PlanLemmas.{pass_at}
use Rattle.jr_model.proofs.HistoryLemmas.{issued_push}
use Rattle.jr_laws_quiet.proofs.Steps.{is_fine, are_fine}
use Rattle.jr_laws_quiet.proofs.Tallies.{total, got, marked, upto, total_push, total-filter_map, total_same, total-map, total_upto, marked_same, marked_grows, marked_all, upto_same_below, upto_grows, total-flat_map}
use Rattle.jr_laws_quiet.proofs.Steps.{IsStep, along, IsNamed, issue_of}
use Rattle.jr_laws_quiet.proofs.Ends.{end_worth, ends_in_all, completes}

-- the sum over the marked draws of the first n passes
abbrev pub spread : SubJob → (ℕ → ℕ → Bool) → (ℕ → Draw → ℕ) → ℕ → ℕ
spread job T f n = upto (λ (p : ℕ). marked (T p) (f p) 0 (draws_of_job job p)) n

pub spread_same : (job : SubJob) (T U : ℕ → ℕ → Bool) (f : ℕ → Draw → ℕ) (n : ℕ) → ((p k : ℕ) → U p k ≡ T p k) → spread job U f n ≡ spread job T f n
spread_same job T U f n same =
    upto_same_below (λ (p : ℕ). marked (U p) (f p) 0 (draws_of_job job p)) (λ (p : ℕ). marked (T p) (f p) 0 (draws_of_job job p)) n
    (λ (p : ℕ) (below : p < n). marked_same (U p) (T p) (f p) 0 (draws_of_job job p) (λ k low high. same p k))

pub spread_grows : (job : SubJob) (T U : ℕ → ℕ → Bool) (f : ℕ → Draw → ℕ) (n p k : ℕ) (d : Draw) → p < n → slice_get (draws_of_job job p) k ≡ Some d → T p k ≡ false → U p k ≡ true → ((q i : ℕ) → (q ≡ p → i ≡ k → ⊥) → U q i ≡ T q i) → spread job U f n ≡ spread job T f n + f p d
spread_grows job T U f n p k d below at off on others =
    upto_grows (λ (q : ℕ). marked (T q) (f q) 0 (draws_of_job job q)) (λ (q : ℕ). marked (U q) (f q) 0 (draws_of_job job q)) n p (f p d) below
    (marked_grows (T p) (U p) (f p) 0 k (draws_of_job job p) d at
    (subst (λ (i : ℕ). T p i ≡ false) (sym (zero-add k)) off)
    (subst (λ (i : ℕ). U p i ≡ true) (sym (zero-add k)) on)
    (λ (i : ℕ) (apart : i ≡ 0 + k → ⊥). others p i (λ same_pass same. apart (omega (arith, same)))))
    (λ (q : ℕ) (apart : q ≡ p → ⊥). marked_same (U q) (T q) (f q) 0 (draws_of_job job q) (λ i low high. others q i (λ same_pass same. apart same_pass)))

pub spread_all : (job : SubJob) (T : ℕ → ℕ → Bool) (f : ℕ → Draw → ℕ) (n : ℕ) → ((p k : ℕ) (d : Draw) → p < n → slice_get (draws_of_job job p) k ≡ Some d → (T p k ≡ true) ⊎ (f p d ≡ 0)) → spread job T f n ≡ upto (λ (p : ℕ). total (f p) (draws_of_job job p)) n
spread_all job T f n all =
    upto_same_below (λ (p : ℕ). marked (T p) (f p) 0 (draws_of_job job p)) (λ (p : ℕ). total (f p) (draws_of_job job p)) n
    (λ (p : ℕ) (below : p < n). marked_all (T p) (f p) 0 (draws_of_job job p)
    (λ (k : ℕ) (d : Draw) (at : slice_get (draws_of_job job p) k ≡ Some d). moved_on p k d (all p k d below at)))
  where
    moved_on : (p k : ℕ) (d : Draw) → (T p k ≡ true) ⊎ (f p d ≡ 0) → (T p (0 + k) ≡ true) ⊎ (f p d ≡ 0)
    moved_on p k d (inl on) = inl (subst (λ (i : ℕ). T p i ≡ true) (sym (zero-add k)) on)
    moved_on p k d (inr nothing) = inr nothing

-- what an issue of a draw rests on
pub record MayIssue (plan : Plan) (h : List Event) (pass : Pass) (draw : Draw) : Type 0 where
  pub next : draw.number ≡ issued_count h pass
  pub clear : is_clear plan h pass.job (is_write_draw draw) draw.piece ≡ true
  pub below : pass.number < pass.job.passes
  pub earlier : list_all (pass_finished h) (take pass.number (passes_of pass.job)) ≡ true
  pub proceeds : waits_for_round h pass ≡ false

pub may_issue_parts : (plan : Plan) (h : List Event) (pass : Pass) (draw : Draw) → may_issue plan h pass draw ≡ true → MayIssue plan h pass draw
may_issue_parts plan h pass draw may =
    let a = draw.number == issued_count h pass in
    let b = not (is_halted h pass.job) in
    let c = has_room h pass.job in
    let d = is_clear plan h pass.job (is_write_draw draw) draw.piece in
    let e = is_current h pass in
    let f = not (waits_for_round h pass) in
    let p6 = and_parts (a && b && c && d && e && f) (phase_is_open plan h pass.job) may in
    let p5 = and_parts (a && b && c && d && e) f p6.0 in
    let p4 = and_parts (a && b && c && d) e p5.0 in
    let p3 = and_parts (a && b && c) d p4.0 in
    let p2 = and_parts (a && b) c p3.0 in
    let p1 = and_parts a b p2.0 in
    let now = and_parts (nat_lt pass.number pass.job.passes && not (pass_finished h pass)) (list_all (pass_finished h) (take pass.number (passes_of pass.job))) p4.1 in
    record {
      next = eqb-true draw.number (issued_count h pass) p1.0;
      clear = p3.1;
      below = ltb-true pass.number pass.job.passes (and_parts (nat_lt pass.number pass.job.passes) (not (pass_finished h pass)) now.0).0;
      earlier = now.1;
      proceeds = not-true (waits_for_round h pass) p5.1;
    }

-- what a check or a skip rests on
pub record MayTakeUp (plan : Plan) (h : List Event) (pass : Pass) (draw : Draw) : Type 0 where
  pub writes : is_write_draw draw ≡ true
  pub rounds : has_rounds pass.job ≡ true
  pub fresh : list_any (takes_up (write_id pass draw)) h ≡ false
  pub clear : is_clear plan h pass.job false draw.piece ≡ true
  pub opened : is_open h pass (group_index pass draw.number) ≡ true

pub may_take_up_parts : (plan : Plan) (h : List Event) (pass : Pass) (draw : Draw) → may_take_up plan h pass draw ≡ true → MayTakeUp plan h pass draw
may_take_up_parts plan h pass draw may =
    let a = is_write_draw draw in
    let b = has_rounds pass.job in
    let c = not (list_any (takes_up (write_id pass draw)) h) in
    let d = not (is_halted h pass.job) in
    let e = has_room h pass.job in
    let f = is_clear plan h pass.job false draw.piece in
    let p6 = and_parts (a && b && c && d && e && f) (is_open h pass (group_index pass draw.number)) may in
    let p5 = and_parts (a && b && c && d && e) f p6.0 in
    let p4 = and_parts (a && b && c && d) e p5.0 in
    let p3 = and_parts (a && b && c) d p4.0 in
    let p2 = and_parts (a && b) c p3.0 in
    let p1 = and_parts a b p2.0 in
    record {
      writes = p1.0;
      rounds = p1.1;
      fresh = not-true (list_any (takes_up (write_id pass draw)) h) p2.1;
      clear = p5.1;
      opened = p6.1;
    }

-- an event that issues nothing of the pass
pub issued_same : (h : List Event) (e : Event) (pass : Pass) → issues_of pass e ≡ false → issued_count (h ++ e ∷ []) pass ≡ issued_count h pass
issued_same h e pass none = omega (arith, issued_push h e pass, ap {B = ℕ} (λ (b : Bool). cond b 1 0) none)

-- the draw is issued
abbrev pub is_issued : SubJob → List Event → ℕ → ℕ → Bool
is_issued job h p k = nat_lt k (issued_count h (pass_of job p))

-- what an issue of this clone marks
pub record MarksIssue (job : SubJob) (h : List Event) (e : Event) (p k : ℕ) : Type 0 where
  pub off : is_issued job h p k ≡ false
  pub on : is_issued job (h ++ e ∷ []) p k ≡ true
  pub others : (q i : ℕ) → (q ≡ p → i ≡ k → ⊥) → is_issued job (h ++ e ∷ []) q i ≡ is_issued job h q i
  pub more : issued_count (h ++ e ∷ []) (pass_of job p) ≡ suc k

pub marks_issue : (job : SubJob) (h : List Event) (worker : ℕ) (kind : IssueKind) (write : WriteId) (piece : Piece) → write.clone ≡ job.clone → issued_count h (pass_of job write.pass) ≡ write.number → MarksIssue job h (Issue worker kind write piece) write.pass write.number
marks_issue job h worker kind write piece clone count =
    let e = Issue worker kind write piece in
    let p = write.pass in
    let k = write.number in
    let here : issues_of (pass_of job p) e ≡ true = and_from (write.clone == job.clone) (p == p) (eq-eqb write.clone job.clone clone) (eq-eqb p p refl) in
    let more : issued_count (h ++ e ∷ []) (pass_of job p) ≡ suc k = omega (arith, issued_push h e (pass_of job p), ap {B = ℕ} (λ (b : Bool). cond b 1 0) here, count) in
    record {
      off = le-ltb k (issued_count h (pass_of job p)) (omega (arith, count));
      on = lt-ltb k (issued_count (h ++ e ∷ []) (pass_of job p)) (omega (arith, more));
      others = λ (q i : ℕ) (apart : q ≡ p → i ≡ k → ⊥). by_pass q i apart more (cases_eq q p);
      more = more;
    }
  where
    same_test : (i a b : ℕ) → a ≡ suc b → (i ≡ b → ⊥) → nat_lt i a ≡ nat_lt i b
    same_test i a b grows apart =
        elim (cases_lt i b) [
          | inl below ↦ lt-ltb i a (omega (arith, below, grows)) ∙ sym (lt-ltb i b below)
          | inr above ↦
              elim (cases_eq i b) [
                | inl same ↦ absurd (apart same)
                | inr differs ↦ le-ltb i a (less i a b grows above differs) ∙ sym (le-ltb i b above)
              ]
        ]
      where
        less : (i a b : ℕ) → a ≡ suc b → b ≤ i → (i ≡ b → ⊥) → a ≤ i
        less i a b grows above differs =
            elim (cases_lt b i) [
              | inl beyond ↦ omega (arith, grows, beyond)
              | inr under ↦ absurd (differs (omega (arith, above, under)))
            ]

    by_pass : (q i : ℕ) → (q ≡ write.pass → i ≡ write.number → ⊥) → issued_count (h ++ Issue worker kind write piece ∷ []) (pass_of job write.pass) ≡ suc write.number → (q ≡ write.pass) ⊎ (q ≡ write.pass → ⊥) → is_issued job (h ++ Issue worker kind write piece ∷ []) q i ≡ is_issued job h q i
    by_pass q i apart more (inl same) =
        let counts : issued_count (h ++ Issue worker kind write piece ∷ []) (pass_of job q) ≡ suc (issued_count h (pass_of job q)) =
        subst (λ (r : ℕ). issued_count (h ++ Issue worker kind write piece ∷ []) (pass_of job r) ≡ suc (issued_count h (pass_of job r))) (sym same) (omega (arith, more, count)) in
        let at : issued_count h (pass_of job q) ≡ write.number = subst (λ (r : ℕ). issued_count h (pass_of job r) ≡ write.number) (sym same) count in
        same_test i (issued_count (h ++ Issue worker kind write piece ∷ []) (pass_of job q)) (issued_count h (pass_of job q)) counts (λ equal. apart same (omega (arith, equal, at)))
    by_pass q i apart more (inr differs) =
        ap (nat_lt i) (issued_same h (Issue worker kind write piece) (pass_of job q)
        (and_right (write.clone == job.clone) (write.pass == q) (ne_eqb write.pass q (λ same. differs (sym same)))))

-- what the event issues of clone c is worth
abbrev pub issue_worth : (IssueKind → Piece → ℕ) → ℕ → Event → ℕ
issue_worth f c (Issue worker kind write piece) = cond (write.clone == c) (f kind piece) 0
issue_worth f c (Probe worker write piece) = 0
issue_worth f c (Skip worker write) = 0
issue_worth f c (End worker io outcome) = 0
issue_worth f c (Verdict worker io verdict) = 0

-- and what a draw of the clone is
abbrev pub draw_worth : SubJob → (IssueKind → Piece → ℕ) → ℕ → Draw → ℕ
draw_worth job f p d = f (issued_as job d.dir) d.piece

module _ (plan : Plan) (numbered : IsNumbered plan) (c : ℕ) (job : SubJob) (planned : clone_of plan c ≡ Some job) where
  -- an issue of the clone is of this job, with its next draw
  pub its_issue : (h : List Event) (worker : ℕ) (kind : IssueKind) (write : WriteId) (piece : Piece) → IsStep plan h (Issue worker kind write piece) → write.clone ≡ c → (draw : Draw) × IsNamed plan write job draw × (issued_as job draw.dir ≡ kind) × (draw.piece ≡ piece) × MayIssue plan h (pass_of job write.pass) draw
  its_issue h worker kind write piece step same =
      let issue = issue_of plan h worker kind write piece numbered step.may in
      let one : issue.job ≡ job = some_same issue.job job (sym issue.names.planned ∙ ap (clone_of plan) same ∙ planned) in (
        issue.draw,
        subst (λ (j : SubJob). IsNamed plan write j issue.draw) one issue.names,
        subst (λ (j : SubJob). issued_as j issue.draw.dir ≡ kind) one issue.kind_is,
        issue.piece_is,
        subst (λ (j : SubJob). MayIssue plan h (pass_of j write.pass) issue.draw) one (may_issue_parts plan h (pass_of issue.job write.pass) issue.draw issue.may),
      )
    where
      some_same : (u v : SubJob) → Some u ≡ Some v → u ≡ v
      some_same u v g = cc

  pub clone_is : job.clone ≡ c
  clone_is = numbered c job planned

  pub its_marks : (h : List Event) (worker : ℕ) (kind : IssueKind) (write : WriteId) (piece : Piece) → IsStep plan h (Issue worker kind write piece) → write.clone ≡ c → MarksIssue job h (Issue worker kind write piece) write.pass write.number
  its_marks h worker kind write piece step same =
      let issue = its_issue h worker kind write piece step same in
      marks_issue job h worker kind write piece (omega (arith, same, clone_is)) (omega (arith, issue.1.number, issue.4.next))

  -- other events mark nothing
  pub other_clone : (h : List Event) (worker : ℕ) (kind : IssueKind) (write : WriteId) (piece : Piece) → (write.clone ≡ c → ⊥) → (q : ℕ) → issued_count (h ++ Issue worker kind write piece ∷ []) (pass_of job q) ≡ issued_count h (pass_of job q)
  other_clone h worker kind write piece apart q =
      issued_same h (Issue worker kind write piece) (pass_of job q)
      (and_left (write.clone == job.clone) (write.pass == q) (ne_eqb write.clone job.clone (λ same. apart (omega (arith, same, clone_is)))))

  pub no_issue : (h : List Event) (e : Event) → ((q : ℕ) → issues_of (pass_of job q) e ≡ false) → (q i : ℕ) → is_issued job (h ++ e ∷ []) q i ≡ is_issued job h q i
  no_issue h e none q i = ap (nat_lt i) (issued_same h e (pass_of job q) (none q))

  module _ (f : IssueKind → Piece → ℕ) where
    abbrev IssueTally : List Event → Type 0
    IssueTally h = total (issue_worth f c) h ≡ spread job (is_issued job h) (draw_worth job f) job.passes

    issues_keep : (h : List Event) (e : Event) → issue_worth f c e ≡ 0 → ((q i : ℕ) → is_issued job (h ++ e ∷ []) q i ≡ is_issued job h q i) → IssueTally h → IssueTally (h ++ e ∷ [])
    issues_keep h e nothing same so_far =
        omega (arith, total_push (issue_worth f c) h e, nothing, so_far, spread_same job (is_issued job h) (is_issued job (h ++ e ∷ [])) (draw_worth job f) job.passes same)

    issues_grow : (h : List Event) (worker : ℕ) (kind : IssueKind) (write : WriteId) (piece : Piece) → IsStep plan h (Issue worker kind write piece) → (write.clone ≡ c) ⊎ (write.clone ≡ c → ⊥) → IssueTally h → IssueTally (h ++ Issue worker kind write piece ∷ [])
    issues_grow h worker kind write piece step (inl same) so_far =
        let e = Issue worker kind write piece in
        let issue = its_issue h worker kind write piece step same in
        let marks = its_marks h worker kind write piece step same in
        let worth : issue_worth f c e ≡ draw_worth job f write.pass issue.0 =
        ap (λ (b : Bool). cond b (f kind piece) 0) (eq-eqb write.clone c same) ∙ ap (λ (x : IssueKind). f x piece) (sym issue.2) ∙ ap (f (issued_as job issue.0.dir)) (sym issue.3) in
        omega (
          arith,
          total_push (issue_worth f c) h e,
          worth,
          so_far,
          spread_grows job (is_issued job h) (is_issued job (h ++ e ∷ [])) (draw_worth job f) job.passes write.pass write.number issue.0 issue.4.below issue.1.drawn marks.off marks.on marks.others,
        )
    issues_grow h worker kind write piece step (inr apart) so_far =
        issues_keep h (Issue worker kind write piece) (ap (λ (b : Bool). cond b (f kind piece) 0) (ne_eqb write.clone c apart))
        (λ q i. ap (nat_lt i) (other_clone h worker kind write piece apart q)) so_far

    issues_step : (h : List Event) (e : Event) → IsStep plan h e → IssueTally h → IssueTally (h ++ e ∷ [])
    issues_step h (Issue worker kind write piece) step so_far = issues_grow h worker kind write piece step (cases_eq write.clone c) so_far
    issues_step h (Probe worker write piece) step so_far = issues_keep h (Probe worker write piece) refl (no_issue h (Probe worker write piece) (λ q. refl)) so_far
    issues_step h (Skip worker write) step so_far = issues_keep h (Skip worker write) refl (no_issue h (Skip worker write) (λ q. refl)) so_far
    issues_step h (End worker io outcome) step so_far = issues_keep h (End worker io outcome) refl (no_issue h (End worker io outcome) (λ q. refl)) so_far
    issues_step h (Verdict worker io verdict) step so_far = issues_keep h (Verdict worker io verdict) refl (no_issue h (Verdict worker io verdict) (λ q. refl)) so_far

    none_marked : spread job (is_issued job []) (draw_worth job f) job.passes ≡ 0
    none_marked = zeros job.passes
      where
        no_marks : (p n : ℕ) (xs : List Draw) → marked (is_issued job [] p) (draw_worth job f p) n xs ≡ 0
        no_marks p n [] = refl
        no_marks p n (x ∷ xs) = omega (arith, ap (λ (b : Bool). cond b (draw_worth job f p x) 0) (le-ltb n 0 (omega arith)), no_marks p (suc n) xs)

        zeros : (n : ℕ) → spread job (is_issued job []) (draw_worth job f) n ≡ 0
        zeros zero = refl
        zeros (suc n) = omega (arith, zeros n, no_marks n 0 (draws_of_job job n))

    pub issue_tally : (history : List Event) → is_legal plan history ≡ true → are_fine history ≡ true → total (issue_worth f c) history ≡ spread job (is_issued job history) (draw_worth job f) job.passes
    issue_tally history legal quiet = along plan IssueTally (sym none_marked) issues_step history legal quiet

-- nothing halts a clone where nothing goes wrong
pub never_halted : (history : List Event) (job : SubJob) → are_fine history ≡ true → is_halted history job ≡ false
never_halted history job quiet = none (started history) history quiet
  where
    calm_end : (b : Bool) (o : Outcome) → not (is_fault o) ≡ true → (b && is_fault o) ≡ false
    calm_end b o calm = and_right b (is_fault o) (not-true (is_fault o) calm)

    none : (ios : List Started) (events : List Event) → are_fine events ≡ true → list_any (halts ios job) events ≡ false
    none ios [] calm = refl
    none ios (e ∷ events) calm =
        let parts = and_parts (is_fine e) (are_fine events) calm in
        both (halts ios job e) (list_any (halts ios job) events) (one ios e parts.0) (none ios events parts.1)
      where
        both : (a b : Bool) → a ≡ false → b ≡ false → (a || b) ≡ false
        both a b p q = or_from a b p q

        one : (ios : List Started) (x : Event) → is_fine x ≡ true → halts ios job x ≡ false
        one ios (Issue worker kind write piece) g = refl
        one ios (Probe worker write piece) g = refl
        one ios (Skip worker write) g = refl
        one ios (End worker io outcome) g = and_right (is_io_of job.clone (slice_get ios io)) (is_fault outcome) (not-true (is_fault outcome) g)
        one ios (Verdict worker io Good) g = and_right (is_io_of job.clone (slice_get ios io) && job.is_fatal) false refl
        one ios (Verdict worker io (Bad what)) g = cc
        one ios (Verdict worker io Void) g = cc

pub all_at : {X : Type 0} (p : X → Bool) (xs : List X) (k : ℕ) (x : X) → list_all p xs ≡ true → slice_get xs k ≡ Some x → p x ≡ true
all_at p [] k x h at = cc
all_at {X = X} p (y ∷ xs) zero x h at =
    let same : y ≡ x = cc in
    subst (λ (z : X). p z ≡ true) same (and_parts (p y) (list_all p xs) h).0
all_at p (y ∷ xs) (suc k) x h at = all_at p xs k x (and_parts (p y) (list_all p xs) h).1 at

-- in a complete history in which nothing goes wrong each pass is finished
pub finishes : (plan : Plan) (history : List Event) (c : ℕ) (job : SubJob) → clone_of plan c ≡ Some job → are_fine history ≡ true → is_complete plan history ≡ true → (p : ℕ) → p < job.passes → pass_finished history (pass_of job p) ≡ true
finishes plan history c job planned quiet complete p below =
    let over = all_at (is_over history) plan.clones c job (completes plan history complete).2 planned in
    let finished : clone_finished history job ≡ true = either (is_halted history job) (clone_finished history job) (never_halted history job quiet) over in
    all_at (pass_finished history) (passes_of job) p (pass_of job p) finished (pass_at job p below)
  where
    either : (a b : Bool) → a ≡ false → (a || b) ≡ true → b ≡ true
    either true b p h = cc
    either false b p h = h

pub record Finished (h : List Event) (pass : Pass) : Type 0 where
  pub issued : issued_count h pass ≡ length pass.draws
  pub closed : rounds_closed h pass ≡ true

pub finished_parts : (h : List Event) (pass : Pass) → pass_finished h pass ≡ true → Finished h pass
finished_parts h pass done =
    let parts = and_parts (all_issued h pass && nothing_flies_in h pass) (rounds_closed h pass) done in
    record {
      issued = eqb-true (issued_count h pass) (length pass.draws) (and_parts (all_issued h pass) (nothing_flies_in h pass) parts.0).0;
      closed = parts.1;
    }

-- the same at events that are calm
pub total_calm : (f g : Event → ℕ) (events : List Event) → ((e : Event) → is_fine e ≡ true → f e ≡ g e) → are_fine events ≡ true → total f events ≡ total g events
total_calm f g [] same calm = refl
total_calm f g (e ∷ events) same calm =
    let parts = and_parts (is_fine e) (are_fine events) calm in
    omega (arith, same e parts.0, total_calm f g events same parts.1)

-- in a complete history each draw was issued
pub issues_in_all : (plan : Plan) (history : List Event) (numbered : IsNumbered plan) (c : ℕ) (job : SubJob) → clone_of plan c ≡ Some job → (f : IssueKind → Piece → ℕ) → is_legal plan history ≡ true → are_fine history ≡ true → is_complete plan history ≡ true → total (issue_worth f c) history ≡ upto (λ (p : ℕ). total (draw_worth job f p) (draws_of_job job p)) job.passes
issues_in_all plan history numbered c job planned f legal quiet complete =
    issue_tally plan numbered c job planned f history legal quiet
    ∙ spread_all job (is_issued job history) (draw_worth job f) job.passes
    (λ (p k : ℕ) (d : Draw) (below : p < job.passes) (at : slice_get (draws_of_job job p) k ≡ Some d).
    let done = finished_parts history (pass_of job p) (finishes plan history c job planned quiet complete p below) in
    inl (lt-ltb k (issued_count history (pass_of job p)) (omega (arith, done.issued, slice_get_within (draws_of_job job p) k d at))))

-- what was moved is what was drawn
module _ (plan : Plan) (numbered : IsNumbered plan) (c : ℕ) (job : SubJob) (planned : clone_of plan c ≡ Some job) (test : TicketKind → Bool) (no_check : test ticket.Probe ≡ false) (g : Piece → ℕ) where
  abbrev wanted_of : Started → ℕ
  wanted_of s = cond (test s.kind && is_of_clone c s) (g s.piece) 0

  abbrev drawn_worth : IssueKind → Piece → ℕ
  drawn_worth kind piece = cond (test (kind_for kind)) (g piece) 0

  moved_worth : (ios : List Started) (e : Event) → is_fine e ≡ true → got (λ (s : Started). g s.piece) (moved_by ios test c e) ≡ end_worth wanted_of ios e
  moved_worth ios (Issue worker kind write piece) calm = refl
  moved_worth ios (Probe worker write piece) calm = refl
  moved_worth ios (Skip worker write) calm = refl
  moved_worth ios (Verdict worker io verdict) calm = refl
  moved_worth ios (End worker io Failed) calm = cc
  moved_worth ios (End worker io (Short n)) calm = cc
  moved_worth ios (End worker io Whole) calm = by_io (slice_get ios io)
    where
      by_io : (o : Option Started) → got (λ (s : Started). g s.piece) (if_wanted test c true o) ≡ got wanted_of o
      by_io None = refl
      by_io (Some s) = by_test (test s.kind && is_of_clone c s)
        where
          by_test : (b : Bool) → got (λ (x : Started). g x.piece) (cond b (Some s) None) ≡ cond b (g s.piece) 0
          by_test true = refl
          by_test false = refl

  started_worth : (e : Event) → got wanted_of (started_by e) ≡ issue_worth drawn_worth c e
  started_worth (Issue worker kind write piece) = by_test (test (kind_for kind)) (write.clone == c)
    where
      by_test : (a b : Bool) → cond (a && b) (g piece) 0 ≡ cond b (cond a (g piece) 0) 0
      by_test true true = refl
      by_test true false = refl
      by_test false true = refl
      by_test false false = refl
  started_worth (Probe worker write piece) = ap (λ (b : Bool). cond (b && (write.clone == c)) (g piece) 0) no_check
  started_worth (Skip worker write) = refl
  started_worth (End worker io outcome) = refl
  started_worth (Verdict worker io verdict) = refl

  pub moved_is_drawn : (history : List Event) → is_legal plan history ≡ true → are_fine history ≡ true → is_complete plan history ≡ true → total (λ (s : Started). g s.piece) (moved history test c) ≡ upto (λ (p : ℕ). total (λ (d : Draw). cond (test (kind_for (issued_as job d.dir))) (g d.piece) 0) (draws_of_job job p)) job.passes
  moved_is_drawn history legal quiet complete =
      total-filter_map (λ (s : Started). g s.piece) (moved_by (started history) test c) history
      ∙ total_calm (λ (e : Event). got (λ (s : Started). g s.piece) (moved_by (started history) test c e)) (end_worth wanted_of (started history)) history (moved_worth (started history)) quiet
      ∙ ends_in_all plan history wanted_of legal quiet complete
      ∙ total-filter_map wanted_of started_by history
      ∙ total_same (λ (e : Event). got wanted_of (started_by e)) (issue_worth drawn_worth c) history started_worth
      ∙ issues_in_all plan history numbered c job planned drawn_worth legal quiet complete

-- the same sum, over the draws of all passes
pub drawn_in_all : (job : SubJob) (f : Draw → ℕ) → total f (flat_map (λ (pass : Pass). pass.draws) (passes_of job)) ≡ upto (λ (p : ℕ). total f (draws_of_job job p)) job.passes
drawn_in_all job f =
    total-flat_map f (λ (pass : Pass). pass.draws) (passes_of job)
    ∙ total-map (λ (pass : Pass). total f pass.draws) (pass_of job) (range_with_len 0 job.passes)
    ∙ total_upto (λ (p : ℕ). total f (draws_of_job job p)) job.passes
