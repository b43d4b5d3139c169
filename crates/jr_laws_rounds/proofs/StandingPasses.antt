-- What a finished pass says, that it stays finished, and what was issued of a pass of which something was started.
use Rattle.std.proofs.Common.{◌≡◌, ℕ, ◌<◌, ◌≤◌, List, [], ◌∷◌, ◌++◌, length, take, Bool, true, false, cond, ◌&&◌, not, sym, ◌∙◌, ap, subst, arith, inl, inr, zero-add}
use Rattle.std.specs.Prelude.{◌⊎◌, Some, slice_get, nat_lt, ◌==◌}
use Rattle.std.specs.List.{list_any, list_all, range_with_len}
use Rattle.std.proofs.lemmas.Bool.{and_parts, and_from, or_cases, or_left, or_right, eqb-true, eq-eqb, ltb-true, cases_Bool, cases_lt, not-true, not_from_true, not_from_false, false_from_ne_true, both_ways}
use Rattle.std.proofs.lemmas.List.Sums.{sum_by-append}
use Rattle.std.proofs.lemmas.Option.{same_Some, slice_get_within}
use Rattle.jr_model.specs.declared.blocks.Piece.{Piece}
use Rattle.jr_model.specs.declared.events.Event.{Event}
use Rattle.jr_model.specs.declared.events.Event.TheVariants.{Issue, Probe, Skip, End, Verdict}
use Rattle.jr_model.specs.declared.events.IssueKind.{IssueKind}
use Rattle.jr_model.specs.declared.events.Started.{Started}
use Rattle.jr_model.specs.declared.events.WriteId.{WriteId}
use Rattle.jr_model.specs.declared.tickets.TicketKind.TheVariants as ticket
use Rattle.jr_model.specs.declared.workloads.Draw.{Draw}
use Rattle.jr_model.specs.Draws.{draws_of_job}
use Rattle.jr_model.specs.History.{started, started_by, in_flight_of, is_probe, kind_for}
use Rattle.jr_model.specs.Legal.{is_legal, may_happen, may_issue, may_take_up}
use Rattle.jr_model.specs.Plan.{Plan, SubJob, clone_of}
use Rattle.jr_model.specs.Rounds.{Pass, pass_of, passes_of, write_id, issues_of, issued_count, all_issued, issued_among, has_rounds, group_of, group_count, group_index, is_full, is_settled, is_closed, rounds_closed, nothing_flies_in, pass_finished, is_current}
use Rattle.jr_model.proofs.LegalLaws.{is_legal-more, number_of_draw}
use Rattle.jr_model.specs.PlanFacts.{IsPlanned}
use Rattle.jr_model.proofs.ListLemmas.{all_weaker}
use Rattle.jr_model.proofs.HistoryLemmas.{issue_is_no_probe, issued_push}
use Rattle.jr_model.proofs.PlaceLemmas.{ranged_at}
use Rattle.jr_model.proofs.PlanLemmas.{numbered_of}
use Rattle.jr_laws_steps.proofs.DrawnLaws.{issuable, takeable, full_needs_issue}
use Rattle.jr_laws_steps.proofs.IssueLaws.{issued_at_most}
use Rattle.jr_laws_steps.proofs.OnceLaws.{is_counted}
use Rattle.jr_laws_steps.proofs.StartedLemmas.{is_started_legally}
use Rattle.jr_laws_steps.proofs.StepLaws.{MayTakeUp, may_issue_of, may_probe_of}
use Rattle.jr_laws_quiet.proofs.Issues.{all_at}
use Rattle.jr_laws_quiet.proofs.Members.{in_own_group}
use Rattle.jr_laws_quiet.proofs.Phases.{open_parts}
use Rattle.jr_laws_rounds.proofs.StandingDraws.{planned_draw}
use Rattle.jr_laws_rounds.proofs.StandingFlights.{FliesOf, flies_found, flies_there, flew_or_starts, stays_settled}

-- the parts of a finished pass
pub record IsDone (h : List Event) (pass : Pass) : Type 0 where
  pub issued : all_issued h pass ≡ true
  pub rests : nothing_flies_in h pass ≡ true
  pub closed : rounds_closed h pass ≡ true

pub done_parts : (h : List Event) (pass : Pass) → pass_finished h pass ≡ true → IsDone h pass
done_parts h pass done =
    let parts = and_parts (all_issued h pass && nothing_flies_in h pass) (rounds_closed h pass) done in
    let front = and_parts (all_issued h pass) (nothing_flies_in h pass) parts.0 in
    record { issued = front.0; rests = front.1; closed = parts.1 }

pub done_from : (h : List Event) (pass : Pass) → IsDone h pass → pass_finished h pass ≡ true
done_from h pass done =
    and_from (all_issued h pass && nothing_flies_in h pass) (rounds_closed h pass)
    (and_from (all_issued h pass) (nothing_flies_in h pass) done.issued done.rests)
    done.closed

-- the parts of a current pass
pub record IsNow (h : List Event) (pass : Pass) : Type 0 where
  pub within : pass.number < pass.job.passes
  pub unfinished : pass_finished h pass ≡ false
  pub before : list_all (pass_finished h) (take pass.number (passes_of pass.job)) ≡ true

pub current_parts : (h : List Event) (pass : Pass) → is_current h pass ≡ true → IsNow h pass
current_parts h pass now =
    let below = nat_lt pass.number pass.job.passes in
    let parts = and_parts (below && not (pass_finished h pass)) (list_all (pass_finished h) (take pass.number (passes_of pass.job))) now in
    let front = and_parts below (not (pass_finished h pass)) parts.0 in
    record { within = ltb-true pass.number pass.job.passes front.0; unfinished = not-true (pass_finished h pass) front.1; before = parts.1 }

-- where all rounds are closed each group is
pub group_closed : (h : List Event) (job : SubJob) (p g : ℕ) → has_rounds job ≡ true → rounds_closed h (pass_of job p) ≡ true → g < group_count (pass_of job p) → is_closed h (pass_of job p) g ≡ true
group_closed h job p g rounds closed below =
    let groups = range_with_len 0 (group_count (pass_of job p)) in
    elim (or_cases (not (has_rounds job)) (list_all (λ (i : ℕ). is_closed h (pass_of job p) i) groups) closed) [
      | inl none ↦ absurd (both_ways (not (has_rounds job)) (not_from_true (has_rounds job) rounds) none)
      | inr all ↦
          all_at (λ (i : ℕ). is_closed h (pass_of job p) i) groups g g all
          (ranged_at 0 (group_count (pass_of job p)) g below ∙ ap Some (zero-add g))
    ]

-- a draw stands at its number
pub at_number : (job : SubJob) (p k : ℕ) (draw : Draw) → slice_get (draws_of_job job p) k ≡ Some draw → slice_get (draws_of_job job p) draw.number ≡ Some draw
at_number job p k draw at = ap (slice_get (draws_of_job job p)) (number_of_draw job p k draw at) ∙ at

-- where all rounds of a pass are closed none of its writes is taken up
pub none_taken : (plan : Plan) (h : List Event) (job : SubJob) (p k : ℕ) (draw : Draw) → slice_get (draws_of_job job p) k ≡ Some draw → rounds_closed h (pass_of job p) ≡ true → may_take_up plan h (pass_of job p) draw ≡ false
none_taken plan h job p k draw at closed = false_from_ne_true (may_take_up plan h (pass_of job p) draw) not_taken
  where
    not_taken : may_take_up plan h (pass_of job p) draw ≡ true → ⊥
    not_taken may =
        let pass = pass_of job p in
        let g = group_index pass draw.number in
        let needs = takeable plan h pass draw may in
        let own = in_own_group job p draw.number draw (at_number job p k draw at) needs.writes in
        both_ways (is_closed h pass g) (open_parts h pass g needs.opened).not_closed (group_closed h job p g needs.rounds closed own.1)

-- what a history begins with has no more issues
pub count_of_front : (before rest : List Event) (pass : Pass) → issued_count before pass ≤ issued_count (before ++ rest) pass
count_of_front before rest pass =
    let both = sum_by-append (λ (x : Event). cond (issues_of pass x) 1 0) before rest in
    omega (arith, both)

-- a draw of the clone that an event issues
pub record IssueIn (plan : Plan) (job : SubJob) (h : List Event) (write : WriteId) : Type 0 where
  pub draw : Draw
  pub drawn : slice_get (draws_of_job job write.pass) write.number ≡ Some draw
  pub may : may_issue plan h (pass_of job write.pass) draw ≡ true

-- a write of the clone that an event checks or skips
pub record TakeIn (plan : Plan) (job : SubJob) (h : List Event) (write : WriteId) : Type 0 where
  pub draw : Draw
  pub drawn : slice_get (draws_of_job job write.pass) write.number ≡ Some draw
  pub may : may_take_up plan h (pass_of job write.pass) draw ≡ true

-- a planned clone
module _ (plan : Plan) (planned : IsPlanned plan) (job : SubJob) (there : clone_of plan job.clone ≡ Some job) where
  own_job : (other : SubJob) (c : ℕ) → clone_of plan c ≡ Some other → c ≡ job.clone → other ≡ job
  own_job other c at same = same_Some other job (sym at ∙ ap (clone_of plan) same ∙ there)

  pub issue_in : (h : List Event) (worker : ℕ) (kind : IssueKind) (write : WriteId) (piece : Piece) → may_happen plan h (Issue worker kind write piece) ≡ true → write.clone ≡ job.clone → IssueIn plan job h write
  issue_in h worker kind write piece may clone =
      let m = may_issue_of plan h worker kind write piece may in
      let same = own_job m.job write.clone m.named.planned clone in
      record {
        draw = m.draw;
        drawn = subst (λ (j : SubJob). slice_get (draws_of_job j write.pass) write.number ≡ Some m.draw) same m.named.drawn;
        may = subst (λ (j : SubJob). may_issue plan h (pass_of j write.pass) m.draw ≡ true) same m.may;
      }

  pub take_in : (h : List Event) (write : WriteId) → MayTakeUp plan h write → write.clone ≡ job.clone → TakeIn plan job h write
  take_in h write m clone =
      let same = own_job m.job write.clone m.named.planned clone in
      record {
        draw = m.draw;
        drawn = subst (λ (j : SubJob). slice_get (draws_of_job j write.pass) write.number ≡ Some m.draw) same m.named.drawn;
        may = subst (λ (j : SubJob). may_take_up plan h (pass_of j write.pass) m.draw ≡ true) same m.may;
      }

  -- of a finished pass nothing is started
  none_starts : (h : List Event) (e : Event) (q : ℕ) (io : Started) → may_happen plan h e ≡ true → pass_finished h (pass_of job q) ≡ true → started_by e ≡ Some io → io.write.clone ≡ job.clone → io.write.pass ≡ q → ⊥
  none_starts h (Issue worker kind write piece) q io may done starts clone pass =
      let s : Started = record { worker = worker; kind = kind_for kind; write = write; piece = piece } in
      let same : write ≡ io.write = ap (λ (x : Started). x.write) (same_Some s io starts) in
      let its_clone : write.clone ≡ job.clone = ap (λ (w : WriteId). w.clone) same ∙ clone in
      let its_pass : write.pass ≡ q = ap (λ (w : WriteId). w.pass) same ∙ pass in
      let issue = issue_in h worker kind write piece may its_clone in
      let now = current_parts h (pass_of job write.pass) (issuable plan h (pass_of job write.pass) issue.draw issue.may).current in
      both_ways (pass_finished h (pass_of job q)) (subst (λ (n : ℕ). pass_finished h (pass_of job n) ≡ false) its_pass now.unfinished) done
  none_starts h (Probe worker write piece) q io may done starts clone pass =
      let s : Started = record { worker = worker; kind = ticket.Probe; write = write; piece = piece } in
      let same : write ≡ io.write = ap (λ (x : Started). x.write) (same_Some s io starts) in
      let its_clone : write.clone ≡ job.clone = ap (λ (w : WriteId). w.clone) same ∙ clone in
      let its_pass : write.pass ≡ q = ap (λ (w : WriteId). w.pass) same ∙ pass in
      let take = take_in h write (may_probe_of plan h worker write piece may).0 its_clone in
      let closed : rounds_closed h (pass_of job write.pass) ≡ true =
      subst (λ (n : ℕ). rounds_closed h (pass_of job n) ≡ true) (sym its_pass) (done_parts h (pass_of job q) done).closed in
      both_ways (may_take_up plan h (pass_of job write.pass) take.draw) (none_taken plan h job write.pass write.number take.draw take.drawn closed) take.may
  none_starts h (Skip worker write) q io may done starts clone pass = cc
  none_starts h (End worker id outcome) q io may done starts clone pass = cc
  none_starts h (Verdict worker id verdict) q io may done starts clone pass = cc

  -- nor is it issued again, and nothing of it flies
  stays_issued : (h : List Event) (e : Event) (q : ℕ) → is_legal plan h ≡ true → may_happen plan h e ≡ true → all_issued h (pass_of job q) ≡ true → all_issued (h ++ e ∷ []) (pass_of job q) ≡ true
  stays_issued h e q legal may issued =
      let pass = pass_of job q in
      let all : issued_count h pass ≡ length (draws_of_job job q) = eqb-true (issued_count h pass) (length pass.draws) issued in
      let more = issued_push h e pass in
      let most = issued_at_most plan (h ++ e ∷ []) job.clone q job (numbered_of plan planned) there (is_legal-more plan h e legal may) in
      eq-eqb (issued_count (h ++ e ∷ []) pass) (length pass.draws) (omega (arith, all, more, most))

  stays_at_rest : (h : List Event) (e : Event) (q : ℕ) → may_happen plan h e ≡ true → pass_finished h (pass_of job q) ≡ true → nothing_flies_in (h ++ e ∷ []) (pass_of job q) ≡ true
  stays_at_rest h e q may done =
      let test : Started → Bool = λ (io : Started). io.write.pass == q in
      not_from_false (list_any test (in_flight_of (h ++ e ∷ []) job.clone))
      (false_from_ne_true (list_any test (in_flight_of (h ++ e ∷ []) job.clone)) (λ some.
      either (flew_or_starts h e job.clone test (flies_found (h ++ e ∷ []) job.clone test some))))
    where
      either : FliesOf h job.clone (λ (io : Started). io.write.pass == q) ⊎ ((io : Started) × (started_by e ≡ Some io) × (io.write.clone ≡ job.clone) × ((io.write.pass == q) ≡ true)) → ⊥
      either (inl flew) =
          both_ways (list_any (λ (io : Started). io.write.pass == q) (in_flight_of h job.clone))
          (not-true (list_any (λ (io : Started). io.write.pass == q) (in_flight_of h job.clone)) (done_parts h (pass_of job q) done).rests)
          (flies_there h job.clone (λ (io : Started). io.write.pass == q) flew)
      either (inr now) = none_starts h e q now.0 may done now.1 now.2 (eqb-true now.0.write.pass q now.3)

  stays_closed : (h : List Event) (e : Event) (q : ℕ) → is_legal plan h ≡ true → all_issued (h ++ e ∷ []) (pass_of job q) ≡ true → rounds_closed h (pass_of job q) ≡ true → rounds_closed (h ++ e ∷ []) (pass_of job q) ≡ true
  stays_closed h e q legal issued closed =
      let pass = pass_of job q in
      let after = h ++ e ∷ [] in
      let groups = range_with_len 0 (group_count pass) in
      elim (or_cases (not (has_rounds job)) (list_all (λ (g : ℕ). is_closed h pass g) groups) closed) [
        | inl none ↦ or_left (not (has_rounds job)) (list_all (λ (g : ℕ). is_closed after pass g) groups) none
        | inr all ↦
            or_right (not (has_rounds job)) (list_all (λ (g : ℕ). is_closed after pass g) groups)
            (all_weaker (λ (g : ℕ). is_closed h pass g) (λ (g : ℕ). is_closed after pass g) groups one_group all)
      ]
    where
      one_group : (g : ℕ) → is_closed h (pass_of job q) g ≡ true → is_closed (h ++ e ∷ []) (pass_of job q) g ≡ true
      one_group g was =
          let pass = pass_of job q in
          let after = h ++ e ∷ [] in
          let settled = λ (draw : Draw). is_settled h (write_id pass draw) in
          let still = λ (draw : Draw). is_settled after (write_id pass draw) in
          let parts = and_parts (is_full h pass g) (list_all settled (group_of pass g)) was in
          and_from (is_full after pass g) (list_all still (group_of pass g))
          (or_left (all_issued after pass) (nat_lt 0 job.backlog && (issued_among after pass (group_of pass g) == job.backlog)) issued)
          (all_weaker settled still (group_of pass g) (λ (d : Draw) (one : is_settled h (write_id pass d) ≡ true). stays_settled plan h e (write_id pass d) legal one) parts.1)

  -- a finished pass stays finished
  pub stays_finished : (h : List Event) (e : Event) (q : ℕ) → is_legal plan h ≡ true → may_happen plan h e ≡ true → pass_finished h (pass_of job q) ≡ true → pass_finished (h ++ e ∷ []) (pass_of job q) ≡ true
  stays_finished h e q legal may done =
      let parts = done_parts h (pass_of job q) done in
      let issued = stays_issued h e q legal may parts.issued in
      done_from (h ++ e ∷ []) (pass_of job q) (record {
        issued = issued;
        rests = stays_at_rest h e q may done;
        closed = stays_closed h e q legal issued parts.closed;
      })

  -- a pass of which nothing was issued isn't finished
  pub unbegun : (h : List Event) (q : ℕ) → issued_count h (pass_of job q) ≡ 0 → pass_finished h (pass_of job q) ≡ false
  unbegun h q none =
      let draw = planned_draw plan job.clone q job planned there in
      let some = slice_get_within (draws_of_job job q) 0 draw.0 draw.1 in
      false_from_ne_true (pass_finished h (pass_of job q)) (λ done.
      let all : issued_count h (pass_of job q) ≡ length (draws_of_job job q) = eqb-true (issued_count h (pass_of job q)) (length (draws_of_job job q)) (done_parts h (pass_of job q) done).issued in
      omega (arith, all, some, none))

  -- a write that is checked is of a pass of which something was issued
  check_counts : (h : List Event) (e : Event) (io : Started) → may_happen plan h e ≡ true → started_by e ≡ Some io → is_probe io.kind ≡ true → io.write.clone ≡ job.clone → 0 < issued_count h (pass_of job io.write.pass)
  check_counts h (Issue worker kind write piece) io may starts check clone =
      let s : Started = record { worker = worker; kind = kind_for kind; write = write; piece = piece } in
      absurd (both_ways (is_probe (kind_for kind)) (issue_is_no_probe kind) (ap (λ (x : Started). is_probe x.kind) (same_Some s io starts) ∙ check))
  check_counts h (Probe worker write piece) io may starts check clone =
      let s : Started = record { worker = worker; kind = ticket.Probe; write = write; piece = piece } in
      let same : write ≡ io.write = ap (λ (x : Started). x.write) (same_Some s io starts) in
      let pass = pass_of job write.pass in
      let take = take_in h write (may_probe_of plan h worker write piece may).0 (ap (λ (w : WriteId). w.clone) same ∙ clone) in
      let g = group_index pass take.draw.number in
      let opened = open_parts h pass g (takeable plan h pass take.draw take.may).opened in
      subst (λ (w : WriteId). 0 < issued_count h (pass_of job w.pass)) same
      (elim (cases_lt 0 (issued_count h pass)) [
        | inl some ↦ some
        | inr none ↦ absurd (full_needs_issue h pass g write.number take.draw take.drawn (omega (arith, none)) opened.full)
      ])
  check_counts h (Skip worker write) io may starts check clone = cc
  check_counts h (End worker id outcome) io may starts check clone = cc
  check_counts h (Verdict worker id verdict) io may starts check clone = cc

  -- what was started is of a pass of which something was issued
  pub started_counts : (h : List Event) (id : ℕ) (io : Started) → is_legal plan h ≡ true → slice_get (started h) id ≡ Some io → io.write.clone ≡ job.clone → 0 < issued_count h (pass_of job io.write.pass)
  started_counts h id io legal at clone =
      elim (cases_Bool (is_probe io.kind)) [
        | inl check ↦
            let was = is_started_legally plan h id io legal at in
            let then = check_counts was.moment.before was.moment.event io was.may was.moment.starts check clone in
            let more = count_of_front was.moment.before (was.moment.event ∷ was.moment.after) (pass_of job io.write.pass) in
            subst (λ (all : List Event). 0 < issued_count all (pass_of job io.write.pass)) (sym was.moment.split) (omega (arith, then, more))
        | inr issue ↦
            let counted = is_counted plan h id io job legal at issue (ap (clone_of plan) clone ∙ there) in
            omega (arith, counted)
      ]
