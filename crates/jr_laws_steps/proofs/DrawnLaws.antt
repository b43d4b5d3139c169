-- What was started is what was drawn, once each.
use Rattle.std.proofs.Common.{◌≡◌, ℕ, ◌+◌, ◌*◌, ◌<◌, ◌≤◌, List, [], ◌∷◌, ◌++◌, length, Bool, true, false, cond, ◌&&◌, not, refl, sym, ◌∙◌, ap, subst, arith, inl, inr}
use Rattle.std.specs.Prelude.{Some, slice_get, nat_lt, ◌==◌, count_by, take}
use Rattle.std.specs.List.{list_all, list_any}
use Rattle.std.proofs.lemmas.Bool.{and_parts, or_cases, eqb-true, ltb-true, le-ltb, cases_lt, false_from_ne_true, false≢true}
use Rattle.std.proofs.lemmas.List.Sums.{sum_by-append, sum_by-cons}
use Rattle.std.proofs.lemmas.Option.{slice_get_within, same_Some}
use Rattle.jr_model.specs.declared.blocks.Dir.{Dir}
use Rattle.jr_model.specs.declared.blocks.Dir.TheVariants as direction
use Rattle.jr_model.specs.declared.blocks.Piece.{Piece}
use Rattle.jr_model.specs.declared.events.Event.{Event}
use Rattle.jr_model.specs.declared.events.Event.TheVariants.{Issue, Probe, Skip, End, Verdict}
use Rattle.jr_model.specs.declared.events.IssueKind.{IssueKind}
use Rattle.jr_model.specs.declared.events.IssueKind.TheVariants as issue
use Rattle.jr_model.specs.Directions.{has_writes}
use Rattle.jr_model.specs.declared.events.Started.{Started}
use Rattle.jr_model.specs.declared.events.WriteId.{WriteId}
use Rattle.jr_model.specs.declared.tickets.TicketKind.{TicketKind}
use Rattle.jr_model.specs.declared.tickets.TicketKind.TheVariants as ticket
use Rattle.jr_model.specs.declared.workloads.Draw.{Draw}
use Rattle.jr_model.specs.Draws.{draws_over}
use Rattle.jr_model.specs.History.{started, started_by, kind_for, is_judged_kind}
use Rattle.jr_model.specs.Legal.{may_happen, may_issue, may_take_up, takes_up, is_legal, is_halted, has_room, is_clear, phase_is_open}
use Rattle.jr_model.specs.Pieces.{piece_end}
use Rattle.jr_model.specs.Plan.{Plan, SubJob, FileSpec, clone_of, is_verified, checks_reads, issued_as}
use Rattle.jr_model.specs.Rounds.{Pass, pass_of, passes_of, write_id, is_write_draw, issues_of, issued_count, all_issued, has_rounds, group_of, group_index, issued_among, is_full, is_open, waits_for_round, pass_finished, is_current}
use Rattle.jr_model.specs.Tickets.{piece_fits}
use Rattle.jr_model.specs.declared.contents.VerifyKind.TheVariants as verify
use Rattle.jr_model.specs.Words.{pass_words}
use Rattle.jr_model.specs.PlanFacts.{IsPlanned}
use Rattle.jr_model.proofs.HistoryLemmas.{by_events, open_is_full}
use Rattle.jr_model.proofs.ListLemmas.{all_got}
use Rattle.jr_model.proofs.BoolLemmas.{seven_parts}
use Rattle.jr_model.proofs.PieceLemmas.{interval_of_cells}
use Rattle.jr_model.proofs.LegalLaws.{is_legal-more}
use Rattle.jr_laws_draws.specs.PassLaw.{IsInRegion}
use Rattle.jr_laws_draws.proofs.TheLaw.{pass_law, drawable_of}
use Rattle.jr_laws_steps.specs.Drawn.{is_kind_of, IsDrawn, FitsPlan}
use Rattle.jr_laws_steps.proofs.StartedLemmas.{is_started_legally, started_next}
use Rattle.jr_laws_steps.proofs.StepLaws.{MayIssue, MayTakeUp, may_issue_of, may_probe_of}
use Rattle.jr_laws_steps.specs.Nexts.{IsNext}

-- what issuing a draw asks for
pub record IsIssuable (plan : Plan) (history : List Event) (pass : Pass) (draw : Draw) : Type 0 where
  pub number : draw.number ≡ issued_count history pass
  pub current : is_current history pass ≡ true

pub issuable : (plan : Plan) (history : List Event) (pass : Pass) (draw : Draw) → may_issue plan history pass draw ≡ true → IsIssuable plan history pass draw
issuable plan history pass draw may =
    let parts = seven_parts (draw.number == issued_count history pass) (not (is_halted history pass.job)) (has_room history pass.job)
    (is_clear plan history pass.job (is_write_draw draw) draw.piece) (is_current history pass) (not (waits_for_round history pass))
    (phase_is_open plan history pass.job) may in
    record { number = eqb-true draw.number (issued_count history pass) parts.0; current = parts.4 }

-- what checking or skipping a write asks for
pub record IsTakeable (history : List Event) (pass : Pass) (draw : Draw) : Type 0 where
  pub writes : is_write_draw draw ≡ true
  pub rounds : has_rounds pass.job ≡ true
  pub untaken : not (list_any (takes_up (write_id pass draw)) history) ≡ true
  pub opened : is_open history pass (group_index pass draw.number) ≡ true

pub takeable : (plan : Plan) (history : List Event) (pass : Pass) (draw : Draw) → may_take_up plan history pass draw ≡ true → IsTakeable history pass draw
takeable plan history pass draw may =
    let parts = seven_parts (is_write_draw draw) (has_rounds pass.job) (not (list_any (takes_up (write_id pass draw)) history))
    (not (is_halted history pass.job)) (has_room history pass.job) (is_clear plan history pass.job false draw.piece)
    (is_open history pass (group_index pass draw.number)) may in
    record { writes = parts.0; rounds = parts.1; untaken = parts.2; opened = parts.6 }

-- a current pass is one of the clone's
pub current_pass : (history : List Event) (pass : Pass) → is_current history pass ≡ true → pass.number < pass.job.passes
current_pass history pass h =
    let parts = and_parts (nat_lt pass.number pass.job.passes && not (pass_finished history pass)) (list_all (pass_finished history) (take pass.number (passes_of pass.job))) h in
    let front = and_parts (nat_lt pass.number pass.job.passes) (not (pass_finished history pass)) parts.0 in
    ltb-true pass.number pass.job.passes front.0

-- one more event
pub issued_count-more : (history : List Event) (pass : Pass) (e : Event) → issued_count (history ++ e ∷ []) pass ≡ issued_count history pass + cond (issues_of pass e) 1 0
issued_count-more history pass e =
    let more = sum_by-append (λ (x : Event). cond (issues_of pass x) 1 0) history (e ∷ []) in
    omega (arith, more)

-- an event that may happen issues no draw of a pass that the clone has not
module _ (plan : Plan) (job : SubJob) (p : ℕ) (planned : clone_of plan job.clone ≡ Some job) (past : job.passes ≤ p) where
  issue_is_within : (history : List Event) (dir : IssueKind) (write : WriteId) (piece : Piece) → MayIssue plan history dir write piece → ((write.clone == job.clone) && (write.pass == p)) ≡ true → ⊥
  issue_is_within history dir write piece step same =
      let parts = and_parts (write.clone == job.clone) (write.pass == p) same in
      let clone : write.clone ≡ job.clone = eqb-true write.clone job.clone parts.0 in
      let pass : write.pass ≡ p = eqb-true write.pass p parts.1 in
      let there : Some step.job ≡ Some job = sym step.named.planned ∙ ap (clone_of plan) clone ∙ planned in
      let passes : step.job.passes ≡ job.passes = ap (λ (j : SubJob). j.passes) (same_Some step.job job there) in
      let within = current_pass history (pass_of step.job write.pass) (issuable plan history (pass_of step.job write.pass) step.draw step.may).current in
      let below : write.pass < step.job.passes = within in
      omega (arith, below, passes, pass, past)

  none_issued_by : (history : List Event) (e : Event) → may_happen plan history e ≡ true → issues_of (pass_of job p) e ≡ false
  none_issued_by history (Issue worker dir write piece) may =
      false_from_ne_true ((write.clone == job.clone) && (write.pass == p)) (issue_is_within history dir write piece (may_issue_of plan history worker dir write piece may))
  none_issued_by history (Probe worker write piece) may = refl
  none_issued_by history (Skip worker write) may = refl
  none_issued_by history (End worker io outcome) may = refl
  none_issued_by history (Verdict worker io verdict) may = refl

  none_issued_past : (history : List Event) → is_legal plan history ≡ true → issued_count history (pass_of job p) ≡ 0
  none_issued_past history legal =
      by_events plan (λ (h : List Event). issued_count h (pass_of job p) ≡ 0) refl
      (λ h e legal_h none may.
      let more = issued_count-more h (pass_of job p) e in
      let nothing : cond (issues_of (pass_of job p) e) 1 0 ≡ 0 = ap {B = ℕ} (λ (b : Bool). cond b 1 0) (none_issued_by h e may) in
      more ∙ ap (λ (n : ℕ). issued_count h (pass_of job p) + n) nothing ∙ omega (arith, none))
      history legal

-- no number is below 0
none_below : (n : ℕ) (draws : List Draw) → n ≡ 0 → count_by (λ (draw : Draw). nat_lt draw.number n) draws ≡ 0
none_below n [] h = refl
none_below n (d ∷ draws) h =
    let above : nat_lt d.number n ≡ false = le-ltb d.number n (omega arith) in
    let test : Draw → Bool = λ draw. nat_lt draw.number n in
    let first : count_by test (d ∷ draws) ≡ cond (test d) 1 0 + count_by test draws = sum_by-cons (λ (draw : Draw). cond (test draw) 1 0) d draws in
    let nothing : cond (test d) 1 0 ≡ 0 = ap {B = ℕ} (λ (b : Bool). cond b 1 0) above in
    let rest : count_by test draws ≡ 0 = none_below n draws h in
    omega (arith, first, nothing, rest)

-- a group of a pass with a draw is full only once something is issued
pub full_needs_issue : (history : List Event) (pass : Pass) (g k : ℕ) (draw : Draw) → slice_get pass.draws k ≡ Some draw → issued_count history pass ≡ 0 → is_full history pass g ≡ true → ⊥
full_needs_issue history pass g k draw drawn none full =
    elim (or_cases (all_issued history pass) (nat_lt 0 pass.job.backlog && (issued_among history pass (group_of pass g) == pass.job.backlog)) full) [
      | inl all ↦
          let same : issued_count history pass ≡ length pass.draws = eqb-true (issued_count history pass) (length pass.draws) all in
          let within : k < length pass.draws = slice_get_within pass.draws k draw drawn in
          omega (arith, same, within, none)
      | inr some ↦
          let parts = and_parts (nat_lt 0 pass.job.backlog) (issued_among history pass (group_of pass g) == pass.job.backlog) some in
          let positive : 0 < pass.job.backlog = ltb-true 0 pass.job.backlog parts.0 in
          let same : issued_among history pass (group_of pass g) ≡ pass.job.backlog = eqb-true (issued_among history pass (group_of pass g)) pass.job.backlog parts.1 in
          let zero_among : issued_among history pass (group_of pass g) ≡ 0 = none_below (issued_count history pass) (group_of pass g) none in
          omega (arith, positive, sym zero_among ∙ same)
    ]

-- the write that is checked or skipped is of one of the clone's passes
pub taken_up_within : (plan : Plan) (history : List Event) (write : WriteId) (step : MayTakeUp plan history write) → is_legal plan history ≡ true → write.pass < step.job.passes
taken_up_within plan history write step legal =
    let pass = pass_of step.job write.pass in
    let may = takeable plan history pass step.draw step.may in
    let clone : write.clone ≡ step.job.clone = ap (λ (w : WriteId). w.clone) (sym step.named.name) in
    let planned : clone_of plan step.job.clone ≡ Some step.job =
    subst (λ (n : ℕ). clone_of plan n ≡ Some step.job) clone step.named.planned in
    elim (cases_lt write.pass step.job.passes) [
      | inl within ↦ within
      | inr past ↦
          absurd (full_needs_issue history pass (group_index pass step.draw.number) write.number step.draw step.named.drawn
          (none_issued_past plan step.job write.pass planned past history legal)
          (open_is_full history pass (group_index pass step.draw.number) may.opened))
    ]

writes_dir : (draw : Draw) (d : Dir) → draw.dir ≡ d → is_write_draw draw ≡ true → d ≡ direction.Write
writes_dir draw direction.Write same h = refl
writes_dir draw direction.Read same h =
    let not_write : is_write_draw draw ≡ false = ap (λ (d : Dir). is_write_draw (record { number = draw.number; dir = d; piece = draw.piece; seed = draw.seed })) same in
    absurd (false≢true (sym not_write ∙ h))

-- a draw is issued as an I/O that may be started for it
pub kind_for_draw : (d : Dir) (job : SubJob) → is_kind_of (kind_for (issued_as job d)) d job ≡ true
kind_for_draw direction.Write job = refl
kind_for_draw direction.Read job = of_read (checks_reads job) refl
  where
    of_read : (b : Bool) → checks_reads job ≡ b → is_kind_of (kind_for (cond b issue.ReadCheck issue.Read)) direction.Read job ≡ true
    of_read true checks = checks
    of_read false checks = ap not checks

-- what is started after a legal history is drawn
pub starts_drawn : (plan : Plan) (history : List Event) (e : Event) (io : Started) → is_legal plan history ≡ true → may_happen plan history e ≡ true → started_by e ≡ Some io → (job : SubJob) × (draw : Draw) × IsDrawn plan io job draw
starts_drawn plan history (Issue worker dir write piece) io legal may starts =
    let step = may_issue_of plan history worker dir write piece may in
    let pass = pass_of step.job write.pass in
    let drawn : IsDrawn plan (record { worker = worker; kind = kind_for dir; write = write; piece = piece }) step.job step.draw = record {
      planned = step.named.planned;
      pass = current_pass history pass (issuable plan history pass step.draw step.may).current;
      drawn = step.named.drawn;
      piece = sym step.same_place;
      kind = subst (λ (k : IssueKind). is_kind_of (kind_for k) step.draw.dir step.job ≡ true) step.same_way (kind_for_draw step.draw.dir step.job);
    } in
    (step.job, step.draw, subst (λ (s : Started). IsDrawn plan s step.job step.draw) (same_Some _ io starts) drawn)
starts_drawn plan history (Probe worker write piece) io legal may starts =
    let found = may_probe_of plan history worker write piece may in
    let step = found.0 in
    let pass = pass_of step.job write.pass in
    let checks = takeable plan history pass step.draw step.may in
    let way : step.draw.dir ≡ direction.Write = writes_dir step.draw step.draw.dir refl checks.writes in
    let drawn : IsDrawn plan (record { worker = worker; kind = ticket.Probe; write = write; piece = piece }) step.job step.draw = record {
      planned = step.named.planned;
      pass = taken_up_within plan history write step legal;
      drawn = step.named.drawn;
      piece = sym found.1;
      kind = subst (λ (d : Dir). is_kind_of ticket.Probe d step.job ≡ true) (sym way) checks.rounds;
    } in
    (step.job, step.draw, subst (λ (s : Started). IsDrawn plan s step.job step.draw) (same_Some _ io starts) drawn)
starts_drawn plan history (Skip worker write) io legal may starts = cc
starts_drawn plan history (End worker id outcome) io legal may starts = cc
starts_drawn plan history (Verdict worker id verdict) io legal may starts = cc

pub started_are_drawn-law : (plan : Plan) (history : List Event) (id : ℕ) (io : Started) → IsPlanned plan → is_legal plan history ≡ true → slice_get (started history) id ≡ Some io → (job : SubJob) × (draw : Draw) × IsDrawn plan io job draw
started_are_drawn-law plan history id io planned legal at =
    let was = is_started_legally plan history id io legal at in
    starts_drawn plan was.moment.before was.moment.event io was.legal was.may was.moment.starts

rounds_verify : (job : SubJob) → has_rounds job ≡ true → is_verified job.method.kind ≡ true
rounds_verify job h =
    let parts = and_parts (is_verified job.method.kind) job.checks_writes h in
    parts.0

-- only I/Os of verified clones get a verdict
check_is_verified : (kind : TicketKind) (d : Dir) (job : SubJob) → is_kind_of kind d job ≡ true → is_judged_kind kind ≡ true → is_verified job.method.kind ≡ true
check_is_verified ticket.Probe direction.Write job h probe = rounds_verify job h
check_is_verified ticket.Probe direction.Read job h probe = absurd (false≢true h)
check_is_verified ticket.ReadCheck direction.Write job h probe = absurd (false≢true h)
check_is_verified ticket.ReadCheck direction.Read job h probe =
    (and_parts (is_verified job.method.kind) job.checks_writes (and_parts (is_verified job.method.kind && job.checks_writes) (not (has_writes job.io_type)) h).0).0
check_is_verified ticket.Read d job h probe = absurd (false≢true probe)
check_is_verified ticket.Write d job h probe = absurd (false≢true probe)

-- what is drawn can be carried out
pub drawn_fits : (plan : Plan) (io : Started) (job : SubJob) (draw : Draw) → IsPlanned plan → IsDrawn plan io job draw → FitsPlan plan io job
drawn_fits plan io job draw planned drawn =
    let limits = planned.drafted.limited io.write.clone job drawn.planned in
    let placed = planned.drafted.placed io.write.clone job drawn.planned in
    let law = pass_law job (drawable_of job limits) in
    let words = pass_words job io.write.pass (4 * job.cells) in
    let Fits : Draw → Type 0 = λ d. piece_fits d.piece ≡ true in
    let Placed : Draw → Type 0 = λ d. IsInRegion job d.piece in
    let fits : piece_fits draw.piece ≡ true = all_got Fits (draws_over job words) io.write.number draw (law.fits words) drawn.drawn in
    let there : IsInRegion job draw.piece = all_got Placed (draws_over job words) io.write.number draw (law.placed words) drawn.drawn in
    let region : IsInRegion job io.piece = subst (IsInRegion job) (sym drawn.piece) there in
    record {
      planned = drawn.planned;
      fits = subst (λ (p : Piece). piece_fits p ≡ true) (sym drawn.piece) fits;
      pass = omega (arith, drawn.pass, limits.passes_most);
      pattern = limits.pattern;
      interval = interval_of_cells job.method.kind job.method.interval job.cell io.piece.len region.cells limits.interval;
      verified = check_is_verified io.kind draw.dir job drawn.kind;
      file = subst (λ (f : ℕ). f < length plan.files) (sym region.file) placed.file;
      bounds = λ (spec : FileSpec) at.
          let here : slice_get plan.files job.file ≡ Some spec = subst (λ (f : ℕ). slice_get plan.files f ≡ Some spec) region.file at in
          let within = placed.within spec here in
          let low : spec.low ≤ job.start = within.0 in
          let high : job.start + job.cells * job.cell ≤ spec.high = within.1 in
          let from : job.start ≤ io.piece.offset = region.low in
          let to : piece_end io.piece ≤ job.start + job.cells * job.cell = region.high in
          (omega (arith, low, from), omega (arith, high, to));
    }

pub started_fit-law : (plan : Plan) (history : List Event) (id : ℕ) (io : Started) → IsPlanned plan → is_legal plan history ≡ true → slice_get (started history) id ≡ Some io → (job : SubJob) × FitsPlan plan io job
started_fit-law plan history id io planned legal at =
    let drawn = started_are_drawn-law plan history id io planned legal at in
    (drawn.0, drawn_fits plan io drawn.0 drawn.1 planned drawn.2)

-- what is started is a piece of whole blocks
pub start_fits : (plan : Plan) (history : List Event) (event : Event) (begun : Started) → IsNext plan history event
    → started_by event ≡ Some begun → piece_fits begun.piece ≡ true
start_fits plan h event begun next starts =
    let legal = is_legal-more plan h event next.legal next.may in
    (started_fit-law plan (h ++ event ∷ []) (length (started h)) begun next.planned legal (started_next h event begun starts)).1.fits
