-- The report of a complete run in which nothing goes wrong is that of its draws.
use Rattle.std.proofs.Common.{◌≡◌, ℕ, zero, suc, ◌+◌, ◌-◌, ◌<◌, List, [], ◌∷◌, ◌++◌, length, map, Bool, true, false, cond, ◌&&◌, ◌||◌, not, refl, sym, ◌∙◌, ap, subst, arith, inl, inr, append-nil, add-zero}
use Rattle.std.specs.Prelude.{◌⊎◌, Option, Some, None, slice_get, ◌==◌, filter, filter_map, flat_map, sum, count_by}
use Rattle.std.specs.List.{range_with_len, cons_option}
use Rattle.std.proofs.lemmas.Bool.{and_parts, and_right, cases_Bool, not-true}
use Rattle.jr_model.specs.declared.blocks.Dir.{Dir}
use Rattle.jr_model.specs.declared.blocks.Dir.TheVariants as direction
use Rattle.jr_model.specs.declared.blocks.Piece.{Piece}
use Rattle.jr_model.specs.declared.events.Event.{Event}
use Rattle.jr_model.specs.declared.events.Event.TheVariants.{Issue, Probe, Skip, End, Verdict}
use Rattle.jr_model.specs.declared.events.IssueKind.{IssueKind}
use Rattle.jr_model.specs.declared.events.IssueKind.TheVariants as issue
use Rattle.jr_model.specs.declared.events.Started.{Started}
use Rattle.jr_model.specs.declared.events.Verdict.{Verdict as GivenVerdict}
use Rattle.jr_model.specs.declared.events.Verdict.TheVariants.{Good, Bad, Void}
use Rattle.jr_model.specs.declared.tickets.TicketKind.{TicketKind}
use Rattle.jr_model.specs.declared.tickets.TicketKind.TheVariants as ticket
use Rattle.jr_model.specs.declared.totals.Totals.{Totals}
use Rattle.jr_model.specs.declared.workloads.Draw.{Draw}
use Rattle.jr_model.specs.Draws.{draws_of_job}
use Rattle.jr_model.specs.History.{started, started_by, kind_for, is_of_clone, is_judged_kind, is_write, is_judged, ended_whole, outcome_of}
use Rattle.jr_model.specs.Legal.{is_legal, is_complete, is_io_of, is_fault, is_bad, is_void, verdict_fits, job_says}
use Rattle.jr_model.specs.Plan.{Plan, SubJob, clone_of, checks_reads, issued_as}
use Rattle.jr_model.specs.Quiet.{checks_of_pass, bytes_drawn, quiet_totals, quiet_report}
use Rattle.jr_model.specs.Report.{Miscompare, miscompare_on, miscompare_by, miscompares, miscompare_line, on_write, of_pass, of_clone, in_order, totals_lines, all_totals, report_of}
use Rattle.jr_model.specs.Rounds.{Pass, pass_of, passes_of, write_id, is_write_draw, has_rounds}
use Rattle.jr_model.specs.Totals.{is_read, moved, bytes_of, is_verdict_of, is_skip_of, is_fault_of, totals_of}
use Rattle.jr_plan.specs.Files.{are_apart}
use Rattle.jr_model.specs.PlanFacts.{IsPlanned}
use Rattle.jr_laws_quiet.proofs.Races.{unraced, quiet_is_fine}
use Rattle.jr_laws_quiet.specs.Quiet.{is_quiet, NothingRaced}
use Rattle.jr_laws_quiet.specs.Declining.{none_declines}
use Rattle.jr_model.specs.Races.{has_raced}
use Rattle.jr_model.proofs.PlanLemmas.{numbered_of}
use Rattle.jr_model.proofs.HistoryLemmas.{started-more}
use Rattle.jr_laws_quiet.proofs.Steps.{is_fine, are_fine}
use Rattle.jr_laws_quiet.proofs.Tallies.{total, got, upto, total-filter, total-filter_map, total_same, total_zero, total-sum, total-map, total_upto, sum_map-total, count_by-total, length-total, upto_same_below, upto-sum}
use Rattle.jr_laws_quiet.proofs.Steps.{IsStep, along, write_kind}
use Rattle.jr_laws_quiet.proofs.Ends.{verdict_worth, verdict_worth_agrees, one_more, verdicts_in_all}
use Rattle.jr_laws_quiet.proofs.Issues.{issue_worth, draw_worth, issues_in_all, total_calm, moved_is_drawn, drawn_in_all, clone_is}
use Rattle.jr_laws_quiet.proofs.Members.{checks_are}
use Rattle.jr_laws_quiet.proofs.Checks.{worth_where, is_kept, probe_worth, is_overwritten, probes_counted, skips_counted}

-- one for an I/O of the clone, and for a check or checked read of it
abbrev pub clone_worth : ℕ → Started → ℕ
clone_worth c s = cond (is_of_clone c s) 1 0

abbrev pub check_worth : ℕ → Started → ℕ
check_worth c s = cond (is_judged_kind s.kind && is_of_clone c s) 1 0

-- and for an issue of a checked read
abbrev pub checked_worth : IssueKind → Piece → ℕ
checked_worth kind piece = cond (is_judged_kind (kind_for kind)) 1 0

-- a verdict is on a check or checked read, so only what those are worth counts
abbrev pub CountsChecks : (Started → ℕ) → (Started → ℕ) → List Event → Type 0
CountsChecks f g h = total (verdict_worth f (started h)) h ≡ total (verdict_worth g (started h)) h

module _ (plan : Plan) (f g : Started → ℕ) (agree : (s : Started) → is_judged_kind s.kind ≡ true → f s ≡ g s) where
  verdict_agrees : (h : List Event) (e : Event) → IsStep plan h e → verdict_worth f (started (h ++ e ∷ [])) e ≡ verdict_worth g (started (h ++ e ∷ [])) e
  verdict_agrees h (Issue worker kind write piece) step = refl
  verdict_agrees h (Probe worker write piece) step = refl
  verdict_agrees h (Skip worker write) step = refl
  verdict_agrees h (End worker io outcome) step = refl
  verdict_agrees h (Verdict worker io verdict) step =
      subst (λ (ios : List Started). got f (slice_get ios io) ≡ got g (slice_get ios io)) (sym (started-more h (Verdict worker io verdict) ∙ append-nil (started h)))
      (by_io (slice_get (started h) io) (and_parts (ended_whole (outcome_of h io) && not (is_judged h io)) (verdict_fits plan (has_raced h io) verdict (slice_get (started h) io)) step.may).1)
    where
      by_io : (o : Option Started) → verdict_fits plan (has_raced h io) verdict o ≡ true → got f o ≡ got g o
      by_io None fits = refl
      by_io (Some s) fits = agree s (and_parts (is_judged_kind s.kind) (cond (has_raced h io) (is_void verdict) (job_says (clone_of plan s.write.clone) s.kind s.piece.len verdict)) fits).0

  counts_step : (h : List Event) (e : Event) → IsStep plan h e → CountsChecks f g h → CountsChecks f g (h ++ e ∷ [])
  counts_step h e step so_far =
      omega (
        arith,
        one_more plan f h e step (verdict_worth f) (verdict_worth_agrees f),
        one_more plan g h e step (verdict_worth g) (verdict_worth_agrees g),
        verdict_agrees h e step,
        so_far,
      )

  pub counts_checks : (history : List Event) → is_legal plan history ≡ true → are_fine history ≡ true → CountsChecks f g history
  counts_checks history legal quiet = along plan (CountsChecks f g) refl counts_step history legal quiet

-- a list of what is nothing at each item
pub flat_map_none : {X Y : Type 0} (f : X → List Y) (xs : List X) → ((x : X) → f x ≡ []) → flat_map f xs ≡ []
flat_map_none f [] none = refl
flat_map_none f (x ∷ xs) none = ap (λ ys. ys ++ flat_map f xs) (none x) ∙ flat_map_none f xs none

-- nothing is found bad
pub no_miscompares : (ios : List Started) (events : List Event) → are_fine events ≡ true → filter_map (miscompare_by ios) events ≡ []
no_miscompares ios [] quiet = refl
no_miscompares ios (e ∷ events) quiet =
    let calms = and_parts (is_fine e) (are_fine events) quiet in
    ap (λ (o : Option Miscompare). cons_option o (filter_map (miscompare_by ios) events)) (none_by e calms.0) ∙ no_miscompares ios events calms.1
  where
    none_on : (o : Option Started) → miscompare_on o Good ≡ None
    none_on None = refl
    none_on (Some s) = refl

    none_by : (x : Event) → is_fine x ≡ true → miscompare_by ios x ≡ None
    none_by (Issue worker kind write piece) calm = refl
    none_by (Probe worker write piece) calm = refl
    none_by (Skip worker write) calm = refl
    none_by (End worker io outcome) calm = refl
    none_by (Verdict worker io Good) calm = none_on (slice_get ios io)
    none_by (Verdict worker io (Bad what)) calm = cc
    none_by (Verdict worker io Void) calm = cc

pub none_in_order : (plan : Plan) → in_order plan [] ≡ []
none_in_order plan =
    flat_map_none (of_clone []) plan.clones
    (λ (job : SubJob). flat_map_none (λ (p : ℕ). of_pass [] (pass_of job p)) (range_with_len 0 job.passes)
    (λ (p : ℕ). flat_map_none (λ (draw : Draw). filter_map (on_write (write_id (pass_of job p) draw)) []) (draws_of_job job p) (λ (draw : Draw). refl)))

-- equal parts, equal totals
pub same_totals : (a b : Totals) → a.reads ≡ b.reads → a.rbytes ≡ b.rbytes → a.writes ≡ b.writes → a.wbytes ≡ b.wbytes → a.checks ≡ b.checks → a.good ≡ b.good → a.bad ≡ b.bad → a.skipped ≡ b.skipped → a.void ≡ b.void → a.faults ≡ b.faults → a ≡ b
same_totals a b e1 e2 e3 e4 e5 e6 e7 e8 e9 e10 =
    ap (λ (x : ℕ). make x a.rbytes a.writes a.wbytes a.checks a.good a.bad a.skipped a.void a.faults) e1
    ∙ ap (λ (x : ℕ). make b.reads x a.writes a.wbytes a.checks a.good a.bad a.skipped a.void a.faults) e2
    ∙ ap (λ (x : ℕ). make b.reads b.rbytes x a.wbytes a.checks a.good a.bad a.skipped a.void a.faults) e3
    ∙ ap (λ (x : ℕ). make b.reads b.rbytes b.writes x a.checks a.good a.bad a.skipped a.void a.faults) e4
    ∙ ap (λ (x : ℕ). make b.reads b.rbytes b.writes b.wbytes x a.good a.bad a.skipped a.void a.faults) e5
    ∙ ap (λ (x : ℕ). make b.reads b.rbytes b.writes b.wbytes b.checks x a.bad a.skipped a.void a.faults) e6
    ∙ ap (λ (x : ℕ). make b.reads b.rbytes b.writes b.wbytes b.checks b.good x a.skipped a.void a.faults) e7
    ∙ ap (λ (x : ℕ). make b.reads b.rbytes b.writes b.wbytes b.checks b.good b.bad x a.void a.faults) e8
    ∙ ap (λ (x : ℕ). make b.reads b.rbytes b.writes b.wbytes b.checks b.good b.bad b.skipped x a.faults) e9
    ∙ ap (λ (x : ℕ). make b.reads b.rbytes b.writes b.wbytes b.checks b.good b.bad b.skipped b.void x) e10
  where
    make : ℕ → ℕ → ℕ → ℕ → ℕ → ℕ → ℕ → ℕ → ℕ → ℕ → Totals
    make r rb w wb ch g bd sk v f = record {
      reads = r;
      rbytes = rb;
      writes = w;
      wbytes = wb;
      checks = ch;
      good = g;
      bad = bd;
      skipped = sk;
      void = v;
      faults = f;
    }

-- the draws of a clone
abbrev pub all_draws : SubJob → List Draw
all_draws job = flat_map (λ (pass : Pass). pass.draws) (passes_of job)

read_draw : (job : SubJob) (d : Draw) → is_read (kind_for (issued_as job d.dir)) ≡ not (is_write_draw d)
read_draw job d = by_dir d.dir
  where
    by_check : (b : Bool) → is_read (kind_for (cond b issue.ReadCheck issue.Read)) ≡ true
    by_check true = refl
    by_check false = refl

    by_dir : (dir : Dir) → is_read (kind_for (issued_as job dir)) ≡ not (is_write_draw (record { number = d.number; dir = dir; piece = d.piece; seed = d.seed }))
    by_dir direction.Read = by_check (checks_reads job)
    by_dir direction.Write = refl

-- the reads of a clone that checks them
checked_draw : (job : SubJob) (d : Draw) → is_judged_kind (kind_for (issued_as job d.dir)) ≡ (checks_reads job && not (is_write_draw d))
checked_draw job d = by_dir d.dir
  where
    by_check : (b : Bool) → is_judged_kind (kind_for (cond b issue.ReadCheck issue.Read)) ≡ (b && true)
    by_check true = refl
    by_check false = refl

    by_dir : (dir : Dir) → is_judged_kind (kind_for (issued_as job dir)) ≡ (checks_reads job && not (is_write_draw (record { number = d.number; dir = dir; piece = d.piece; seed = d.seed })))
    by_dir direction.Read = by_check (checks_reads job)
    by_dir direction.Write = sym (and_right (checks_reads job) false refl)

-- how many they are
pub reads_drawn : (job : SubJob) → upto (λ (p : ℕ). total (draw_worth job checked_worth p) (draws_of_job job p)) job.passes ≡ cond (checks_reads job) (length (filter (λ (d : Draw). not (is_write_draw d)) (all_draws job))) 0
reads_drawn job =
    sym (drawn_in_all job (λ (d : Draw). checked_worth (issued_as job d.dir) d.piece))
    ∙ total_same (λ (d : Draw). checked_worth (issued_as job d.dir) d.piece) (λ (d : Draw). cond (checks_reads job && not (is_write_draw d)) 1 0) (all_draws job)
    (λ (d : Draw). ap {B = ℕ} (λ (b : Bool). cond b 1 0) (checked_draw job d))
    ∙ by_check (checks_reads job)
  where
    by_check : (b : Bool) → total (λ (d : Draw). cond (b && not (is_write_draw d)) 1 0) (all_draws job) ≡ cond b (length (filter (λ (d : Draw). not (is_write_draw d)) (all_draws job))) 0
    by_check true =
        sym (length-total (filter (λ (d : Draw). not (is_write_draw d)) (all_draws job))
        ∙ total-filter (λ (d : Draw). 1) (λ (d : Draw). not (is_write_draw d)) (all_draws job))
    by_check false = total_zero (λ (d : Draw). 0) (all_draws job) (λ (d : Draw). refl)

-- where the clone has rounds, the writes that stay last are those that are checked
pub checks_drawn : (job : SubJob) → upto (λ (p : ℕ). total (worth_where job (is_kept job) p) (draws_of_job job p)) job.passes ≡ cond (has_rounds job) (sum (map checks_of_pass (passes_of job))) 0
checks_drawn job = by_rounds (has_rounds job) refl
  where
    by_rounds : (b : Bool) → has_rounds job ≡ b → upto (λ (p : ℕ). total (worth_where job (is_kept job) p) (draws_of_job job p)) job.passes ≡ cond b (sum (map checks_of_pass (passes_of job))) 0
    by_rounds true rounds =
        upto_same_below (λ (p : ℕ). total (worth_where job (is_kept job) p) (draws_of_job job p)) (λ (p : ℕ). checks_of_pass (pass_of job p)) job.passes
        (λ (p : ℕ) (below : p < job.passes).
        total_same (worth_where job (is_kept job) p) (λ (d : Draw). cond (is_write_draw d && is_kept job p d) 1 0) (draws_of_job job p)
        (λ (d : Draw). ap {B = ℕ} (λ (r : Bool). cond (is_write_draw d && r && is_kept job p d) 1 0) rounds ∙ ap {B = ℕ} (λ (b : Bool). cond (b && is_kept job p d) 1 0) (and_true (is_write_draw d)))
        ∙ sym (checks_are job p))
        ∙ sym (sum_map-total checks_of_pass (passes_of job) ∙ total-map checks_of_pass (pass_of job) (range_with_len 0 job.passes) ∙ total_upto (λ (p : ℕ). checks_of_pass (pass_of job p)) job.passes)
      where
        and_true : (b : Bool) → (b && true) ≡ b
        and_true true = refl
        and_true false = refl
    by_rounds false none = zeros job.passes
      where
        zeros : (n : ℕ) → upto (λ (p : ℕ). total (worth_where job (is_kept job) p) (draws_of_job job p)) n ≡ 0
        zeros zero = refl
        zeros (suc n) =
            omega (
              arith,
              zeros n,
              total_zero (worth_where job (is_kept job) n) (draws_of_job job n)
                  (λ (d : Draw). ap {B = ℕ} (λ (b : Bool). cond (b && is_kept job n d) 1 0) (and_right (is_write_draw d) (has_rounds job) none)),
            )

-- and the others those that are skipped
pub skips_drawn : (job : SubJob) → upto (λ (p : ℕ). total (worth_where job (is_overwritten job) p) (draws_of_job job p)) job.passes ≡ cond (has_rounds job) (length (filter is_write_draw (all_draws job)) - upto (λ (p : ℕ). total (worth_where job (is_kept job) p) (draws_of_job job p)) job.passes) 0
skips_drawn job = by_rounds (has_rounds job) refl
  where
    by_rounds : (b : Bool) → has_rounds job ≡ b → upto (λ (p : ℕ). total (worth_where job (is_overwritten job) p) (draws_of_job job p)) job.passes ≡ cond b (length (filter is_write_draw (all_draws job)) - upto (λ (p : ℕ). total (worth_where job (is_kept job) p) (draws_of_job job p)) job.passes) 0
    by_rounds true rounds =
        let writes : length (filter is_write_draw (all_draws job)) ≡ upto (λ (p : ℕ). total (λ (d : Draw). cond (is_write_draw d) 1 0) (draws_of_job job p)) job.passes =
        length-total (filter is_write_draw (all_draws job))
        ∙ total-filter (λ (d : Draw). 1) is_write_draw (all_draws job)
        ∙ drawn_in_all job (λ (d : Draw). cond (is_write_draw d) 1 0) in
        let parts : upto (λ (p : ℕ). total (λ (d : Draw). cond (is_write_draw d) 1 0) (draws_of_job job p)) job.passes ≡ upto (λ (p : ℕ). total (worth_where job (is_kept job) p) (draws_of_job job p) + total (worth_where job (is_overwritten job) p) (draws_of_job job p)) job.passes =
        upto_same_below (λ (p : ℕ). total (λ (d : Draw). cond (is_write_draw d) 1 0) (draws_of_job job p)) (λ (p : ℕ). total (worth_where job (is_kept job) p) (draws_of_job job p) + total (worth_where job (is_overwritten job) p) (draws_of_job job p)) job.passes
        (λ (p : ℕ) (below : p < job.passes).
        total_same (λ (d : Draw). cond (is_write_draw d) 1 0) (λ (d : Draw). worth_where job (is_kept job) p d + worth_where job (is_overwritten job) p d) (draws_of_job job p)
        (λ (d : Draw). two_kinds (is_write_draw d) (has_rounds job) (is_kept job p d) rounds)
        ∙ total-sum (worth_where job (is_kept job) p) (worth_where job (is_overwritten job) p) (draws_of_job job p)) in
        omega (arith, writes, parts, upto-sum (λ (p : ℕ). total (worth_where job (is_kept job) p) (draws_of_job job p)) (λ (p : ℕ). total (worth_where job (is_overwritten job) p) (draws_of_job job p)) job.passes)
      where
        two_kinds : (w r s : Bool) → r ≡ true → ◌≡◌ {A = ℕ} (cond w 1 0) (cond (w && r && s) 1 0 + cond (w && r && not s) 1 0)
        two_kinds true true true e = refl
        two_kinds true true false e = refl
        two_kinds false r s e = refl
        two_kinds true false s e = cc
    by_rounds false none = zeros job.passes
      where
        zeros : (n : ℕ) → upto (λ (p : ℕ). total (worth_where job (is_overwritten job) p) (draws_of_job job p)) n ≡ 0
        zeros zero = refl
        zeros (suc n) =
            omega (
              arith,
              zeros n,
              total_zero (worth_where job (is_overwritten job) n) (draws_of_job job n)
                  (λ (d : Draw). ap {B = ℕ} (λ (b : Bool). cond (b && is_overwritten job n d) 1 0) (and_right (is_write_draw d) (has_rounds job) none)),
            )

module _ (plan : Plan) (planned_all : IsPlanned plan) (apart : are_apart plan.clones ≡ true) (history : List Event) (raceless : NothingRaced history) (legal : is_legal plan history ≡ true) (complete : is_complete plan history ≡ true) (quiet : are_fine history ≡ true) (c : ℕ) (job : SubJob) (planned : clone_of plan c ≡ Some job) where
  moved_total : (test : TicketKind → Bool) (no_check : test ticket.Probe ≡ false) (p : Draw → Bool) (same : (d : Draw) → test (kind_for (issued_as job d.dir)) ≡ p d) (g : Piece → ℕ) → total (λ (s : Started). g s.piece) (moved history test c) ≡ total (λ (d : Draw). g d.piece) (filter p (all_draws job))
  moved_total test no_check p same g =
      moved_is_drawn plan (numbered_of plan planned_all) c job planned test no_check g history legal quiet complete
      ∙ upto_same_below (λ (q : ℕ). total (λ (d : Draw). cond (test (kind_for (issued_as job d.dir))) (g d.piece) 0) (draws_of_job job q)) (λ (q : ℕ). total (λ (d : Draw). cond (p d) (g d.piece) 0) (draws_of_job job q)) job.passes
      (λ (q : ℕ) (below : q < job.passes).
      total_same (λ (d : Draw). cond (test (kind_for (issued_as job d.dir))) (g d.piece) 0) (λ (d : Draw). cond (p d) (g d.piece) 0) (draws_of_job job q)
      (λ (d : Draw). ap (λ (b : Bool). cond b (g d.piece) 0) (same d)))
      ∙ sym (drawn_in_all job (λ (d : Draw). cond (p d) (g d.piece) 0))
      ∙ sym (total-filter (λ (d : Draw). g d.piece) p (all_draws job))

  -- how many were moved, and how many bytes
  moved_count : (test : TicketKind → Bool) (no_check : test ticket.Probe ≡ false) (p : Draw → Bool) (same : (d : Draw) → test (kind_for (issued_as job d.dir)) ≡ p d) → length (moved history test c) ≡ length (filter p (all_draws job))
  moved_count test no_check p same =
      length-total (moved history test c) ∙ moved_total test no_check p same (λ (x : Piece). 1) ∙ sym (length-total (filter p (all_draws job)))

  moved_bytes : (test : TicketKind → Bool) (no_check : test ticket.Probe ≡ false) (p : Draw → Bool) (same : (d : Draw) → test (kind_for (issued_as job d.dir)) ≡ p d) → bytes_of (moved history test c) ≡ bytes_drawn (filter p (all_draws job))
  moved_bytes test no_check p same =
      sum_map-total (λ (s : Started). s.piece.len) (moved history test c)
      ∙ moved_total test no_check p same (λ (x : Piece). x.len)
      ∙ sym (sum_map-total (λ (d : Draw). d.piece.len) (filter p (all_draws job)))

  -- how many verdicts there are of a test that good ones pass: one for each check, and for each checked read
  verdicts_counted : (test : GivenVerdict → Bool) → test Good ≡ true → count_by (is_verdict_of (started history) test c) history ≡ upto (λ (p : ℕ). total (worth_where job (is_kept job) p) (draws_of_job job p)) job.passes + upto (λ (p : ℕ). total (draw_worth job checked_worth p) (draws_of_job job p)) job.passes
  verdicts_counted test passes =
      let ios = started history in
      count_by-total (is_verdict_of ios test c) history
      ∙ total_calm (λ (e : Event). cond (is_verdict_of ios test c e) 1 0) (verdict_worth (clone_worth c) ios) history one_verdict quiet
      ∙ counts_checks plan (clone_worth c) (check_worth c) on_checks history legal quiet
      ∙ verdicts_in_all plan history (check_worth c) only_checks legal quiet complete
      ∙ total-filter_map (check_worth c) started_by history
      ∙ total_same (λ (e : Event). got (check_worth c) (started_by e)) (λ (e : Event). probe_worth c e + issue_worth checked_worth c e) history one_start
      ∙ total-sum (probe_worth c) (issue_worth checked_worth c) history
      ∙ ap (λ (n : ℕ). n + total (issue_worth checked_worth c) history) (probes_counted plan planned_all apart c job planned history raceless legal quiet complete)
      ∙ ap (λ (n : ℕ). upto (λ (p : ℕ). total (worth_where job (is_kept job) p) (draws_of_job job p)) job.passes + n)
      (issues_in_all plan history (numbered_of plan planned_all) c job planned checked_worth legal quiet complete)
    where
      both_true : (a b : Bool) → b ≡ true → ◌≡◌ {A = ℕ} (cond (a && b) 1 0) (cond a 1 0)
      both_true true true e = refl
      both_true false b e = refl
      both_true true false e = cc

      by_io : (o : Option Started) → ◌≡◌ {A = ℕ} (cond (is_io_of c o && test Good) 1 0) (got (clone_worth c) o)
      by_io None = refl
      by_io (Some s) = both_true (is_of_clone c s) (test Good) passes

      one_verdict : (e : Event) → is_fine e ≡ true → ◌≡◌ {A = ℕ} (cond (is_verdict_of (started history) test c e) 1 0) (verdict_worth (clone_worth c) (started history) e)
      one_verdict (Issue worker kind write piece) calm = refl
      one_verdict (Probe worker write piece) calm = refl
      one_verdict (Skip worker write) calm = refl
      one_verdict (End worker io outcome) calm = refl
      one_verdict (Verdict worker io Good) calm = by_io (slice_get (started history) io)
      one_verdict (Verdict worker io (Bad what)) calm = cc
      one_verdict (Verdict worker io Void) calm = cc

      on_checks : (s : Started) → is_judged_kind s.kind ≡ true → clone_worth c s ≡ check_worth c s
      on_checks s judged = ap {B = ℕ} (λ (b : Bool). cond (b && is_of_clone c s) 1 0) (sym judged)

      only_checks : (s : Started) → (is_judged_kind s.kind ≡ true) ⊎ (check_worth c s ≡ 0)
      only_checks s =
          elim (cases_Bool (is_judged_kind s.kind)) [
            | inl judged ↦ inl judged
            | inr other ↦ inr (ap {B = ℕ} (λ (b : Bool). cond (b && is_of_clone c s) 1 0) other)
          ]

      one_start : (e : Event) → got (check_worth c) (started_by e) ≡ probe_worth c e + issue_worth checked_worth c e
      one_start (Issue worker kind write piece) = by_tests (is_judged_kind (kind_for kind)) (write.clone == c)
        where
          by_tests : (a b : Bool) → ◌≡◌ {A = ℕ} (cond (a && b) 1 0) (0 + cond b (cond a 1 0) 0)
          by_tests true true = refl
          by_tests true false = refl
          by_tests false true = refl
          by_tests false false = refl
      one_start (Probe worker write piece) = sym (add-zero (cond (write.clone == c) 1 0))
      one_start (Skip worker write) = refl
      one_start (End worker io outcome) = refl
      one_start (Verdict worker io verdict) = refl

  -- no verdict passes a test that no good one passes
  none_passes : (test : GivenVerdict → Bool) → test Good ≡ false → count_by (is_verdict_of (started history) test c) history ≡ 0
  none_passes test fails =
      count_by-total (is_verdict_of (started history) test c) history
      ∙ total_calm (λ (e : Event). cond (is_verdict_of (started history) test c e) 1 0) (λ (e : Event). 0) history nothing quiet
      ∙ total_zero (λ (e : Event). 0) history (λ e. refl)
    where
      none_of : (own : Bool) → ◌≡◌ {A = ℕ} (cond (own && test Good) 1 0) 0
      none_of true = ap {B = ℕ} (λ (b : Bool). cond b 1 0) fails
      none_of false = refl

      nothing : (e : Event) → is_fine e ≡ true → ◌≡◌ {A = ℕ} (cond (is_verdict_of (started history) test c e) 1 0) 0
      nothing (Issue worker kind write piece) calm = refl
      nothing (Probe worker write piece) calm = refl
      nothing (Skip worker write) calm = refl
      nothing (End worker io outcome) calm = refl
      nothing (Verdict worker io Good) calm = none_of (is_io_of c (slice_get (started history) io))
      nothing (Verdict worker io (Bad what)) calm = cc
      nothing (Verdict worker io Void) calm = cc

  none_fails : count_by (is_fault_of (started history) c) history ≡ 0
  none_fails =
      count_by-total (is_fault_of (started history) c) history
      ∙ total_calm (λ (e : Event). cond (is_fault_of (started history) c e) 1 0) (λ (e : Event). 0) history nothing quiet
      ∙ total_zero (λ (e : Event). 0) history (λ e. refl)
    where
      nothing : (e : Event) → is_fine e ≡ true → ◌≡◌ {A = ℕ} (cond (is_fault_of (started history) c e) 1 0) 0
      nothing (Issue worker kind write piece) calm = refl
      nothing (Probe worker write piece) calm = refl
      nothing (Skip worker write) calm = refl
      nothing (Verdict worker io verdict) calm = refl
      nothing (End worker io outcome) calm =
          ap {B = ℕ} (λ (b : Bool). cond b 1 0) (and_right (is_io_of c (slice_get (started history) io)) (is_fault outcome) (not-true (is_fault outcome) calm))

  checks_are_drawn : (test : GivenVerdict → Bool) → test Good ≡ true → count_by (is_verdict_of (started history) test c) history ≡ (quiet_totals job).checks
  checks_are_drawn test passes =
      verdicts_counted test passes
      ∙ ap (λ (n : ℕ). n + upto (λ (p : ℕ). total (draw_worth job checked_worth p) (draws_of_job job p)) job.passes) (checks_drawn job)
      ∙ ap (λ (n : ℕ). cond (has_rounds job) (sum (map checks_of_pass (passes_of job))) 0 + n) (reads_drawn job)

  skips_are_drawn : count_by (is_skip_of c) history ≡ (quiet_totals job).skipped
  skips_are_drawn =
      count_by-total (is_skip_of c) history
      ∙ skips_counted plan planned_all apart c job planned history raceless legal quiet complete
      ∙ skips_drawn job
      ∙ ap (λ (n : ℕ). cond (has_rounds job) (length (filter is_write_draw (all_draws job)) - n) 0) (checks_drawn job)

  -- the clone's totals are those of its draws
  pub clone_totals : totals_of history c ≡ quiet_totals job
  clone_totals =
      same_totals (totals_of history c) (quiet_totals job)
      (moved_count is_read refl (λ (d : Draw). not (is_write_draw d)) (read_draw job))
      (moved_bytes is_read refl (λ (d : Draw). not (is_write_draw d)) (read_draw job))
      (moved_count is_write refl is_write_draw (write_kind job))
      (moved_bytes is_write refl is_write_draw (write_kind job))
      (checks_are_drawn (λ (verdict : GivenVerdict). not (is_void verdict)) refl)
      (checks_are_drawn (λ (verdict : GivenVerdict). not (is_bad verdict || is_void verdict)) refl)
      (none_passes is_bad refl)
      skips_are_drawn
      (none_passes is_void refl)
      none_fails

pub map_same_at : {X Y : Type 0} (f g : X → Y) (xs : List X) → ((k : ℕ) (x : X) → slice_get xs k ≡ Some x → f x ≡ g x) → map f xs ≡ map g xs
map_same_at f g [] same = refl
map_same_at {X = X} f g (x ∷ xs) same =
    ap (λ y. y ∷ map f xs) (same 0 x refl)
    ∙ ap (λ ys. g x ∷ ys) (map_same_at f g xs (λ (k : ℕ) (y : X) (at : slice_get xs k ≡ Some y). same (suc k) y at))

-- the report of a complete run in which nothing goes wrong and nothing raced
pub quiet_run_unraced : (plan : Plan) (history : List Event) → IsPlanned plan → NothingRaced history → are_apart plan.clones ≡ true → is_legal plan history ≡ true → is_complete plan history ≡ true → is_quiet history ≡ true → report_of plan history ≡ quiet_report plan
quiet_run_unraced plan history planned_all raceless apart legal complete calm =
    let quiet = quiet_is_fine plan history raceless legal calm in
    let totals : all_totals plan history ≡ map quiet_totals plan.clones =
    map_same_at (λ (job : SubJob). totals_of history job.clone) quiet_totals plan.clones
    (λ (k : ℕ) (job : SubJob) (at : slice_get plan.clones k ≡ Some job).
    ap (totals_of history) (clone_is plan (numbered_of plan planned_all) k job at) ∙ clone_totals plan planned_all apart history raceless legal complete quiet k job at) in
    let none : in_order plan (miscompares history) ≡ [] = ap (in_order plan) (no_miscompares (started history) history quiet) ∙ none_in_order plan in
    ap (λ (ts : List Totals). totals_lines plan ts ++ flat_map (miscompare_line plan) (in_order plan (miscompares history))) totals
    ∙ ap (λ (found : List Miscompare). quiet_report plan ++ flat_map (miscompare_line plan) found) none
    ∙ append-nil (quiet_report plan)

-- so where no clone declines, it is the report of every complete run in which nothing goes wrong
pub quiet_run : (plan : Plan) (history : List Event) → IsPlanned plan → none_declines plan ≡ true → are_apart plan.clones ≡ true → is_legal plan history ≡ true → is_complete plan history ≡ true → is_quiet history ≡ true → report_of plan history ≡ quiet_report plan
quiet_run plan history planned_all undeclined apart legal complete quiet =
    quiet_run_unraced plan history planned_all (unraced plan (numbered_of plan planned_all) undeclined history legal) apart legal complete quiet
