-- The order of a clone's issues in any legal history: a pass begins once those before are issued, a group once those before
-- are closed, and the write that was issued last is the furthest.
use Rattle.std.proofs.Common.{◌≡◌, ℕ, suc, ◌-◌, ◌*◌, ◌<◌, ◌≤◌, List, [], ◌∷◌, ◌++◌, length, take, drop, Bool, true, false, cond, ◌&&◌, not, refl, sym, ◌∙◌, ap, subst, arith, inl, inr, zero-add, length-take, length-append, append-nil}
use Rattle.std.specs.Prelude.{◌⊎◌, Option, Some, None, slice_get, nat_lt, ◌==◌}
use Rattle.std.specs.Option.{option_or}
use Rattle.std.specs.List.{list_any, list_all, cons_option, range_with_len}
use Rattle.std.proofs.lemmas.Bool.{and_parts, and_from, eqb-true, eq-eqb, ne_eqb, ltb-true, cases_lt, cases_Bool, not-false, or_left, or_right, or_cases, false≢true}
use Rattle.std.proofs.lemmas.List.Elements.{filter_map-append}
use Rattle.std.proofs.lemmas.List.Folds.{list_any-append}
use Rattle.std.proofs.lemmas.Option.{same_Some}
use Rattle.jr_model.specs.declared.blocks.Piece.{Piece}
use Rattle.jr_model.specs.declared.events.Event.{Event}
use Rattle.jr_model.specs.declared.events.Event.TheVariants.{Issue, Probe, Skip, End, Verdict}
use Rattle.jr_model.specs.declared.events.IssueKind.{IssueKind}
use Rattle.jr_model.specs.declared.events.Started.{Started}
use Rattle.jr_model.specs.declared.events.WriteId.{WriteId}
use Rattle.jr_model.specs.declared.workloads.Draw.{Draw}
use Rattle.jr_model.specs.Draws.{draws_of_job}
use Rattle.jr_model.specs.History.{started}
use Rattle.jr_model.specs.Legal.{is_legal, may_happen}
use Rattle.jr_model.specs.Plan.{Plan, SubJob, IsNumbered, clone_of, issued_as}
use Rattle.jr_model.specs.Rounds.{Pass, pass_of, passes_of, write_id, is_write_draw, issues_of, issued_count, all_issued, issued_among, is_probe_of, settles, is_settled, is_full, is_closed, pass_finished, has_rounds, group_of, group_count, writes_of}
use Rattle.jr_model.proofs.LegalLaws.{is_legal-more}
use Rattle.jr_model.proofs.MachineLaws.{got_front}
use Rattle.jr_model.proofs.ListLemmas.{all_weaker}
use Rattle.jr_model.proofs.PlaceLemmas.{got_last, ranged_at}
use Rattle.jr_model.proofs.PlanLemmas.{pass_at}
use Rattle.jr_model.proofs.HistoryLemmas.{issued_push, by_events}
use Rattle.jr_laws_steps.proofs.StartedLemmas.{started-append}
use Rattle.jr_laws_steps.proofs.IssueLaws.{issued_at_most}
use Rattle.jr_laws_quiet.proofs.Tallies.{count_by-total}
use Rattle.jr_laws_quiet.proofs.Steps.{IsNamed, issue_of}
use Rattle.jr_laws_quiet.proofs.Issues.{MayIssue, may_issue_parts, issued_same, all_at, finished_parts}
use Rattle.jr_laws_quiet.proofs.Groups.{rank, rank_le_length, group_is, got_take}
use Rattle.jr_laws_quiet.proofs.Members.{before_full, rank_mono}
use Rattle.jr_laws_quiet.proofs.Phases.{GroupsInTurn, none_at}
use Rattle.jr_backlog.specs.CurrentRound.{write_issued, writes_issued, last_issued}

-- what is settled stays so
settles_longer : (w : WriteId) (ios more : List Started) (e : Event) → settles ios w e ≡ true → settles (ios ++ more) w e ≡ true
settles_longer w ios more (Skip worker skipped) h = h
settles_longer w ios more (Issue worker kind issued piece) h = h
settles_longer w ios more (Probe worker probed piece) h = h
settles_longer w ios more (Verdict worker io verdict) h = h
settles_longer w ios more (End worker io outcome) h = by_io (slice_get ios io) refl h
  where
    by_io : (o : Option Started) → slice_get ios io ≡ o → is_probe_of w o ≡ true → is_probe_of w (slice_get (ios ++ more) io) ≡ true
    by_io None at g = absurd (false≢true g)
    by_io (Some x) at g = ap (is_probe_of w) (got_front ios more io x at) ∙ g

any_weaker : {X : Type 0} (p q : X → Bool) (xs : List X) → ((x : X) → p x ≡ true → q x ≡ true) → list_any p xs ≡ true → list_any q xs ≡ true
any_weaker p q [] weaker h = h
any_weaker p q (x ∷ xs) weaker h =
    elim (or_cases (p x) (list_any p xs) h) [
      | inl here ↦ or_left (q x) (list_any q xs) (weaker x here)
      | inr later ↦ or_right (q x) (list_any q xs) (any_weaker p q xs weaker later)
    ]

pub settled_longer : (h : List Event) (e : Event) (w : WriteId) → is_settled h w ≡ true → is_settled (h ++ e ∷ []) w ≡ true
settled_longer h e w settled =
    let more = started (e ∷ []) in
    let grown : started (h ++ e ∷ []) ≡ started h ++ more = started-append h (e ∷ []) in
    list_any-append (settles (started (h ++ e ∷ [])) w) h (e ∷ [])
    ∙ or_left (list_any (settles (started (h ++ e ∷ [])) w) h) (list_any (settles (started (h ++ e ∷ [])) w) (e ∷ []))
    (ap (λ (ios : List Started). list_any (settles ios w) h) grown
    ∙ any_weaker (settles (started h) w) (settles (started h ++ more) w) h (settles_longer w (started h) more) settled)

-- the draw that an issue issues
pub record IsIssued (plan : Plan) (job : SubJob) (h : List Event) (kind : IssueKind) (write : WriteId) : Type 0 where
  pub draw : Draw
  pub drawn : slice_get (draws_of_job job write.pass) write.number ≡ Some draw
  pub way : issued_as job draw.dir ≡ kind
  pub number : draw.number ≡ write.number
  pub name : write_id (pass_of job write.pass) draw ≡ write
  pub count : issued_count h (pass_of job write.pass) ≡ write.number
  pub may : MayIssue plan h (pass_of job write.pass) draw

-- the next draw of a pass may be issued
pub record IsNext (plan : Plan) (job : SubJob) (h : List Event) (p : ℕ) : Type 0 where
  pub draw : Draw
  pub drawn : slice_get (draws_of_job job p) (issued_count h (pass_of job p)) ≡ Some draw
  pub may : MayIssue plan h (pass_of job p) draw

-- a pass begins once all draws of those before are issued
abbrev pub BegunInTurn : SubJob → List Event → Type 0
BegunInTurn job h = (p q : ℕ) → p < q → 0 < issued_count h (pass_of job q) → issued_count h (pass_of job p) ≡ length (draws_of_job job p)

-- no write of the clone was issued
abbrev pub NoWrites : SubJob → List Event → Type 0
NoWrites job h =
    (p k : ℕ) (d : Draw)
    → slice_get (draws_of_job job p) k ≡ Some d
    → is_write_draw d ≡ true
    → k < issued_count h (pass_of job p)
    → ⊥

-- of the writes that were issued this is the furthest
pub record IsLast (job : SubJob) (h : List Event) (w : WriteId) : Type 0 where
  pub clone : w.clone ≡ job.clone
  pub draw : Draw
  pub drawn : slice_get (draws_of_job job w.pass) w.number ≡ Some draw
  pub writes : is_write_draw draw ≡ true
  pub issued : w.number < issued_count h (pass_of job w.pass)
  pub furthest : (p k : ℕ) (d : Draw) → slice_get (draws_of_job job p) k ≡ Some d → is_write_draw d ≡ true → k < issued_count h (pass_of job p) → (p < w.pass) ⊎ ((p ≡ w.pass) × (k ≤ w.number))

abbrev pub LastIs : SubJob → List Event → Option WriteId → Type 0
LastIs job h None = NoWrites job h
LastIs job h (Some w) = IsLast job h w

-- the last item of a list, where there is one
last_of : {X : Type 0} → List X → Option X
last_of xs = slice_get xs (length xs - 1)

last_more : {X : Type 0} (xs : List X) (o : Option X) → slice_get (xs ++ cons_option o []) (length (xs ++ cons_option o []) - 1) ≡ option_or o (slice_get xs (length xs - 1))
last_more xs None = let same : xs ++ [] ≡ xs = append-nil xs in ap (λ ys. slice_get ys (length ys - 1)) same
last_more xs (Some x) =
    let place : length (xs ++ x ∷ []) - 1 ≡ length xs = omega (arith, length-append xs (x ∷ [])) in
    ap (slice_get (xs ++ x ∷ [])) place ∙ got_last xs x

-- the write that is issued last after one more event
pub last_issued-more : (c : ℕ) (h : List Event) (e : Event) → last_issued c (h ++ e ∷ []) ≡ option_or (write_issued c e) (last_issued c h)
last_issued-more c h e =
    ap (λ ws. slice_get ws (length ws - 1)) (filter_map-append (write_issued c) h (e ∷ []))
    ∙ last_more (writes_issued c h) (write_issued c e)

-- counts only grow
pub count_longer : (h : List Event) (e : Event) (pass : Pass) → issued_count h pass ≤ issued_count (h ++ e ∷ []) pass
count_longer h e pass = omega (arith, issued_push h e pass)

-- a finished pass
pub all_finished : (h : List Event) (job : SubJob) (p q : ℕ) → p < q → q ≤ job.passes → list_all (pass_finished h) (take q (passes_of job)) ≡ true → pass_finished h (pass_of job p) ≡ true
all_finished h job p q before within all =
    all_at (pass_finished h) (take q (passes_of job)) p (pass_of job p) all
    (got_take q (passes_of job) p before ∙ pass_at job p (omega (arith, before, within)))

module _ (plan : Plan) (numbered : IsNumbered plan) (job : SubJob) (planned : clone_of plan job.clone ≡ Some job) where
  -- an issue of the clone is of its next draw
  pub its_draw : (h : List Event) (worker : ℕ) (kind : IssueKind) (write : WriteId) (piece : Piece) → may_happen plan h (Issue worker kind write piece) ≡ true → write.clone ≡ job.clone → IsIssued plan job h kind write
  its_draw h worker kind write piece happens same =
      let issue = issue_of plan h worker kind write piece numbered happens in
      let one : issue.job ≡ job = same_Some issue.job job (sym issue.names.planned ∙ ap (clone_of plan) same ∙ planned) in
      let names : IsNamed plan write job issue.draw = subst (λ (j : SubJob). IsNamed plan write j issue.draw) one issue.names in
      let may : MayIssue plan h (pass_of job write.pass) issue.draw =
      subst (λ (j : SubJob). MayIssue plan h (pass_of j write.pass) issue.draw) one (may_issue_parts plan h (pass_of issue.job write.pass) issue.draw issue.may) in
      record {
        draw = issue.draw;
        drawn = names.drawn;
        way = subst (λ (j : SubJob). issued_as j issue.draw.dir ≡ kind) one issue.kind_is;
        number = names.number;
        name = names.name;
        count = sym may.next ∙ names.number;
        may = may;
      }

  next_draw : (h : List Event) (p : ℕ) (e : Event) → may_happen plan h e ≡ true → issues_of (pass_of job p) e ≡ true → IsNext plan job h p
  next_draw h p (Probe worker write piece) happens issues = absurd (false≢true issues)
  next_draw h p (Skip worker write) happens issues = absurd (false≢true issues)
  next_draw h p (End worker io outcome) happens issues = absurd (false≢true issues)
  next_draw h p (Verdict worker io verdict) happens issues = absurd (false≢true issues)
  next_draw h p (Issue worker kind write piece) happens issues =
      let parts = and_parts (write.clone == job.clone) (write.pass == p) issues in
      let its = its_draw h worker kind write piece happens (eqb-true write.clone job.clone parts.0) in
      let here : slice_get (draws_of_job job write.pass) (issued_count h (pass_of job write.pass)) ≡ Some its.draw =
      ap (slice_get (draws_of_job job write.pass)) its.count ∙ its.drawn in
      subst (IsNext plan job h) (eqb-true write.pass p parts.1)
      (record { draw = its.draw; drawn = here; may = its.may })

  -- an event issues the next draw of a pass, or leaves its count
  pub next_cases : (h : List Event) (e : Event) (p : ℕ) → may_happen plan h e ≡ true → (issued_count (h ++ e ∷ []) (pass_of job p) ≡ issued_count h (pass_of job p)) ⊎ (IsNext plan job h p × (issued_count (h ++ e ∷ []) (pass_of job p) ≡ suc (issued_count h (pass_of job p))))
  next_cases h e p happens =
      elim (cases_Bool (issues_of (pass_of job p) e)) [
        | inl issues ↦
            let one : ◌≡◌ {A = ℕ} (cond (issues_of (pass_of job p) e) 1 0) 1 = ap {B = ℕ} (λ (b : Bool). cond b 1 0) issues in
            inr (next_draw h p e happens issues, omega (arith, issued_push h e (pass_of job p), one))
        | inr none ↦ inl (issued_same h e (pass_of job p) none)
      ]

  -- once all are issued, none is
  pub all_longer : (h : List Event) (e : Event) (p : ℕ) → is_legal plan h ≡ true → may_happen plan h e ≡ true → issued_count h (pass_of job p) ≡ length (draws_of_job job p) → issued_count (h ++ e ∷ []) (pass_of job p) ≡ length (draws_of_job job p)
  all_longer h e p legal happens all =
      let most = issued_at_most plan (h ++ e ∷ []) job.clone p job numbered planned (is_legal-more plan h e legal happens) in
      omega (arith, most, count_longer h e (pass_of job p), all)

  -- a full group stays full
  pub full_longer : (h : List Event) (e : Event) (p g : ℕ) → is_legal plan h ≡ true → may_happen plan h e ≡ true → is_full h (pass_of job p) g ≡ true → is_full (h ++ e ∷ []) (pass_of job p) g ≡ true
  full_longer h e p g legal happens full =
      by_reason (or_cases (all_issued h (pass_of job p)) (nat_lt 0 job.backlog && (issued_among h (pass_of job p) (group_of (pass_of job p) g) == job.backlog)) full)
    where
      by_reason : (all_issued h (pass_of job p) ≡ true) ⊎ ((nat_lt 0 job.backlog && (issued_among h (pass_of job p) (group_of (pass_of job p) g) == job.backlog)) ≡ true) → is_full (h ++ e ∷ []) (pass_of job p) g ≡ true
      by_reason (inl all) =
          or_left (all_issued (h ++ e ∷ []) (pass_of job p)) (nat_lt 0 job.backlog && (issued_among (h ++ e ∷ []) (pass_of job p) (group_of (pass_of job p) g) == job.backlog))
          (eq-eqb (issued_count (h ++ e ∷ []) (pass_of job p)) (length (draws_of_job job p))
          (all_longer h e p legal happens (eqb-true (issued_count h (pass_of job p)) (length (draws_of_job job p)) all)))
      by_reason (inr many) =
          let parts = and_parts (nat_lt 0 job.backlog) (issued_among h (pass_of job p) (group_of (pass_of job p) g) == job.backlog) many in
          let above : 0 < job.backlog = ltb-true 0 job.backlog parts.0 in
          let some : (job.backlog == 0) ≡ false = ne_eqb job.backlog 0 (λ same. absurd (omega (arith, same, above))) in
          let n = issued_count h (pass_of job p) in
          let m = issued_count (h ++ e ∷ []) (pass_of job p) in
          let was : rank (group_of (pass_of job p) g) n ≡ job.backlog = sym (count_by-total (λ (draw : Draw). nat_lt draw.number n) (group_of (pass_of job p) g)) ∙ eqb-true (issued_among h (pass_of job p) (group_of (pass_of job p) g)) job.backlog parts.1 in
          let short : length (group_of (pass_of job p) g) ≤ job.backlog = omega (arith, ap length (group_is job p g some), length-take job.backlog (drop (g * job.backlog) (writes_of (pass_of job p)))) in
          let now : rank (group_of (pass_of job p) g) m ≡ job.backlog = omega (arith, was, short, rank_le_length (group_of (pass_of job p) g) m, rank_mono (group_of (pass_of job p) g) n m (count_longer h e (pass_of job p))) in
          or_right (all_issued (h ++ e ∷ []) (pass_of job p)) (nat_lt 0 job.backlog && (issued_among (h ++ e ∷ []) (pass_of job p) (group_of (pass_of job p) g) == job.backlog))
          (and_from (nat_lt 0 job.backlog) (issued_among (h ++ e ∷ []) (pass_of job p) (group_of (pass_of job p) g) == job.backlog) parts.0
          (eq-eqb (issued_among (h ++ e ∷ []) (pass_of job p) (group_of (pass_of job p) g)) job.backlog (count_by-total (λ (draw : Draw). nat_lt draw.number m) (group_of (pass_of job p) g) ∙ now)))

  -- a closed group stays closed
  closed_longer : (h : List Event) (e : Event) (p g : ℕ) → is_legal plan h ≡ true → may_happen plan h e ≡ true → is_closed h (pass_of job p) g ≡ true → is_closed (h ++ e ∷ []) (pass_of job p) g ≡ true
  closed_longer h e p g legal happens closed =
      let pass = pass_of job p in
      let parts = and_parts (is_full h pass g) (list_all (λ (draw : Draw). is_settled h (write_id pass draw)) (group_of pass g)) closed in
      and_from (is_full (h ++ e ∷ []) pass g) (list_all (λ (draw : Draw). is_settled (h ++ e ∷ []) (write_id pass draw)) (group_of pass g))
      (full_longer h e p g legal happens parts.0)
      (all_weaker (λ (draw : Draw). is_settled h (write_id pass draw)) (λ (draw : Draw). is_settled (h ++ e ∷ []) (write_id pass draw)) (group_of pass g)
      (λ (d : Draw) (settled : is_settled h (write_id pass d) ≡ true). settled_longer h e (write_id pass d) settled) parts.1)

  begun_step : (h : List Event) (e : Event) → is_legal plan h ≡ true → BegunInTurn job h → may_happen plan h e ≡ true → BegunInTurn job (h ++ e ∷ [])
  begun_step h e legal turns happens p q before some =
      elim (next_cases h e q happens) [
        | inl same ↦ all_longer h e p legal happens (turns p q before (omega (arith, same, some)))
        | inr next ↦
            let below = next.0.may.below in
            let done = all_finished h job p q before (omega (arith, below)) next.0.may.earlier in
            all_longer h e p legal happens (finished_parts h (pass_of job p) done).issued
      ]

  pub begun_in_turn : (history : List Event) → is_legal plan history ≡ true → BegunInTurn job history
  begun_in_turn history legal =
      by_events plan (BegunInTurn job) (λ p q before some. absurd (omega (arith, some))) begun_step history legal

  groups_step : (h : List Event) (e : Event) → is_legal plan h ≡ true → GroupsInTurn job h → may_happen plan h e ≡ true → GroupsInTurn job (h ++ e ∷ [])
  groups_step h e legal turns happens p k g rounds issued before =
      elim (next_cases h e p happens) [
        | inl same ↦ closed_longer h e p g legal happens (turns p k g rounds (omega (arith, same, issued)) before)
        | inr next ↦ closed_longer h e p g legal happens (by_number next.0 next.1 (cases_lt k (issued_count h (pass_of job p))))
      ]
    where
      second : (a b : Bool) → a ≡ true → (a && b) ≡ false → b ≡ false
      second true b one g = g
      second false b one g = cc

      by_number : IsNext plan job h p → issued_count (h ++ e ∷ []) (pass_of job p) ≡ suc (issued_count h (pass_of job p)) → (k < issued_count h (pass_of job p)) ⊎ (issued_count h (pass_of job p) ≤ k) → is_closed h (pass_of job p) g ≡ true
      by_number next grows (inl earlier) = turns p k g rounds earlier before
      by_number next grows (inr last) =
          let full = before_full h job p g k before (omega (arith, issued, grows)) in
          let waits : list_any (λ (i : ℕ). is_full h (pass_of job p) i && not (is_closed h (pass_of job p) i)) (range_with_len 0 (group_count (pass_of job p))) ≡ false =
          second (has_rounds job) _ rounds next.may.proceeds in
          let here = none_at (λ (i : ℕ). is_full h (pass_of job p) i && not (is_closed h (pass_of job p) i)) (range_with_len 0 (group_count (pass_of job p))) g g waits
          (ranged_at 0 (group_count (pass_of job p)) g full.1 ∙ ap Some (zero-add g)) in
          not-false (is_closed h (pass_of job p) g) (second (is_full h (pass_of job p) g) _ full.0 here)

  pub groups_turn : (history : List Event) → is_legal plan history ≡ true → GroupsInTurn job history
  groups_turn history legal =
      by_events plan (GroupsInTurn job) (λ p k g rounds issued before. absurd (omega (arith, issued))) groups_step history legal
