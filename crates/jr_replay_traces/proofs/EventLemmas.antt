-- The event of a line, from the step that may happen with its draw.
use Rattle.std.proofs.Common.{◌≡◌, ℕ, List, Bool, true, false, cond, ◌&&◌, refl, sym, ap, ◌∙◌, inl, inr}
use Rattle.std.specs.Prelude.{Option, Some, None, slice_get}
use Rattle.std.specs.Option.{option_map}
use Rattle.jr_model.specs.declared.blocks.Piece.{Piece}
use Rattle.jr_model.specs.declared.events.Event.{Event}
use Rattle.jr_model.specs.declared.events.Event.TheVariants.{Issue, Probe, Skip, End, Verdict}
use Rattle.jr_model.specs.declared.events.IssueKind.{IssueKind}
use Rattle.jr_model.specs.declared.events.WriteId.{WriteId}
use Rattle.jr_model.specs.declared.workloads.Draw.{Draw}
use Rattle.jr_model.specs.Draws.{draws_of_clone, draws_of_job}
use Rattle.jr_model.specs.History.{same_write, same_piece}
use Rattle.jr_model.specs.Legal.{step_of, step_of_draw, step_of_clone, step_at, same_issue, is_this_issue, is_this_probe, is_this_skip}
use Rattle.jr_model.specs.Plan.{Plan, SubJob, clone_of, issued_as}
use Rattle.jr_model.specs.Rounds.{Pass, pass_of}
use Rattle.jr_model.proofs.LegalLaws.{cases_step_of, same_issue_refl, same_piece_refl}
use Rattle.jr_replay_traces.specs.declared.entries.Entry.{Entry}
use Rattle.jr_replay_traces.specs.declared.entries.Entry.TheVariants as entry
use Rattle.jr_replay_traces.specs.declared.entries.Finding.{Finding}
use Rattle.jr_replay_traces.specs.declared.entries.Name.{Name}
use Rattle.jr_replay_traces.specs.declared.entries.Start.{Start}
use Rattle.jr_replay_traces.specs.TraceChecks.{draw_of, if_legal, is_small, issue_of, legal_event, name_fits, write_of}
use Rattle.jr_replay_traces.specs.TraceSteps.{event_in, event_named, issue_in, judged, named, probe_in, skip_in}

-- the issue of a clone's draw, where it is this step
if_issue : SubJob → ℕ → WriteId → Option Draw → Option Event → Option Event
if_issue job worker write None step = None
if_issue job worker write (Some draw) step =
    let kind = issued_as job draw.dir in
    cond (is_this_issue kind write draw.piece step) (Some (Issue worker kind write draw.piece)) None

-- the check of a draw, where it is this step
if_probe : ℕ → WriteId → Option Draw → Option Event → Option Event
if_probe worker write None step = None
if_probe worker write (Some draw) step =
    cond (is_this_probe write draw.piece step) (Some (Probe worker write draw.piece)) None

-- an issue of a draw, compared with the draw itself
issue_compared : (worker : ℕ) (write issued : WriteId) (kind k : IssueKind) (piece p : Piece) → k ≡ kind → p ≡ piece → cond (same_issue k kind && same_write issued write && same_piece p piece) (Some (Issue worker kind write piece)) None ≡ cond (same_write issued write) (Some (Issue worker k write p)) None
issue_compared worker write issued kind k piece p e f =
    ap (λ (x : IssueKind). cond (same_issue x kind && same_write issued write && same_piece p piece) (Some (Issue worker kind write piece)) None) e
    ∙ ap (λ (x : Piece). cond (same_issue kind kind && same_write issued write && same_piece x piece) (Some (Issue worker kind write piece)) None) f
    ∙ ap (λ (b : Bool). cond (b && same_write issued write && same_piece piece piece) (Some (Issue worker kind write piece)) None) (same_issue_refl kind)
    ∙ ap (λ (b : Bool). cond (true && same_write issued write && b) (Some (Issue worker kind write piece)) None) (same_piece_refl piece)
    ∙ and_true (same_write issued write)
    ∙ ap (λ (x : IssueKind). cond (same_write issued write) (Some (Issue worker x write piece)) None) (sym e)
    ∙ ap (λ (x : Piece). cond (same_write issued write) (Some (Issue worker k write x)) None) (sym f)
  where
    and_true : (b : Bool) → cond (true && b && true) (Some (Issue worker kind write piece)) None ≡ cond b (Some (Issue worker kind write piece)) None
    and_true true = refl
    and_true false = refl

same_probe : (worker : ℕ) (write probed : WriteId) (piece p : Piece) → p ≡ piece → cond (same_write probed write && same_piece p piece) (Some (Probe worker write piece)) None ≡ cond (same_write probed write) (Some (Probe worker write p)) None
same_probe worker write probed piece p f =
    ap (λ (x : Piece). cond (same_write probed write && same_piece x piece) (Some (Probe worker write piece)) None) f
    ∙ ap (λ (b : Bool). cond (same_write probed write && b) (Some (Probe worker write piece)) None) (same_piece_refl piece)
    ∙ and_true (same_write probed write)
    ∙ ap (λ (x : Piece). cond (same_write probed write) (Some (Probe worker write x)) None) (sym f)
  where
    and_true : (b : Bool) → cond (b && true) (Some (Probe worker write piece)) None ≡ cond b (Some (Probe worker write piece)) None
    and_true true = refl
    and_true false = refl

-- the step of a draw has what it is issued as, and its piece
issue_of_step : (plan : Plan) (history : List Event) (worker : ℕ) (write : WriteId) (pass : Pass) (draw : Draw) (step : Option Event) → step_of plan history worker pass draw ≡ step → if_issue pass.job worker write (Some draw) step ≡ issue_in worker write step
unfolding if_issue
issue_of_step plan history worker write pass draw None h = refl
issue_of_step plan history worker write pass draw (Some (Probe k w p)) h = refl
issue_of_step plan history worker write pass draw (Some (Skip k w)) h = refl
issue_of_step plan history worker write pass draw (Some (End k io outcome)) h = refl
issue_of_step plan history worker write pass draw (Some (Verdict k io verdict)) h = refl
issue_of_step plan history worker write pass draw (Some (Issue j k w p)) h =
    elim (cases_step_of plan history worker pass draw (Issue j k w p) h) [
      | inl probe ↦ cc
      | inr (inl skip) ↦ cc
      | inr (inr issue) ↦
          let kind : k ≡ issued_as pass.job draw.dir = cc in
          let piece : p ≡ draw.piece = cc in
          issue_compared worker write w (issued_as pass.job draw.dir) k draw.piece p kind piece
    ]

probe_of_step : (plan : Plan) (history : List Event) (worker : ℕ) (write : WriteId) (pass : Pass) (draw : Draw) (step : Option Event) → step_of plan history worker pass draw ≡ step → if_probe worker write (Some draw) step ≡ probe_in worker write step
unfolding if_probe
probe_of_step plan history worker write pass draw None h = refl
probe_of_step plan history worker write pass draw (Some (Issue k d w p)) h = refl
probe_of_step plan history worker write pass draw (Some (Skip k w)) h = refl
probe_of_step plan history worker write pass draw (Some (End k io outcome)) h = refl
probe_of_step plan history worker write pass draw (Some (Verdict k io verdict)) h = refl
probe_of_step plan history worker write pass draw (Some (Probe k w p)) h =
    elim (cases_step_of plan history worker pass draw (Probe k w p) h) [
      | inl probe ↦
          let piece : p ≡ draw.piece = cc in
          same_probe worker write w draw.piece p piece
      | inr (inl skip) ↦ cc
      | inr (inr issue) ↦ cc
    ]

module _ (plan : Plan) (history : List Event) (worker : ℕ) (write : WriteId) where
  of_draw : (pass : Pass) (o : Option Draw) → if_issue pass.job worker write o (step_of_draw plan history worker pass o) ≡ issue_in worker write (step_of_draw plan history worker pass o)
  unfolding if_issue
  of_draw pass None = refl
  of_draw pass (Some draw) = issue_of_step plan history worker write pass draw (step_of plan history worker pass draw) refl

  legal_as_issue : (job : SubJob) (o : Option Draw) → if_legal plan history (option_map (λ (draw : Draw). Issue worker (issued_as job draw.dir) write draw.piece) o) ≡ if_issue job worker write o (step_at plan history worker write)
  unfolding if_issue
  legal_as_issue job None = refl
  legal_as_issue job (Some draw) = refl

  of_clone : (o : Option SubJob) → step_at plan history worker write ≡ step_of_clone plan history worker write o → if_legal plan history (issue_of o worker write) ≡ issue_in worker write (step_of_clone plan history worker write o)
  of_clone None is = refl
  of_clone (Some job) is =
      let o = slice_get (draws_of_job job write.pass) write.number in
      legal_as_issue job o ∙ ap (if_issue job worker write o) is ∙ of_draw (pass_of job write.pass) o

  -- the issue of a planned draw is legal where it is the draw's step
  pub issue_is_step : if_legal plan history (issue_of (clone_of plan write.clone) worker write) ≡ issue_in worker write (step_at plan history worker write)
  issue_is_step = of_clone (clone_of plan write.clone) refl

  probe_of_draw : (pass : Pass) (o : Option Draw) → if_probe worker write o (step_of_draw plan history worker pass o) ≡ probe_in worker write (step_of_draw plan history worker pass o)
  unfolding if_probe
  probe_of_draw pass None = refl
  probe_of_draw pass (Some draw) = probe_of_step plan history worker write pass draw (step_of plan history worker pass draw) refl

  probe_of_clone : (o : Option SubJob) → if_probe worker write (slice_get (draws_of_clone o write.pass) write.number) (step_of_clone plan history worker write o) ≡ probe_in worker write (step_of_clone plan history worker write o)
  unfolding if_probe
  probe_of_clone None = refl
  probe_of_clone (Some job) = probe_of_draw (pass_of job write.pass) (slice_get (draws_of_job job write.pass) write.number)

  legal_as_probe : (o : Option Draw) → if_legal plan history (option_map (λ (draw : Draw). Probe worker write draw.piece) o) ≡ if_probe worker write o (step_at plan history worker write)
  unfolding if_probe
  legal_as_probe None = refl
  legal_as_probe (Some draw) = refl

  -- the check of a planned draw is legal where it is the draw's step
  pub probe_is_step : if_legal plan history (option_map (λ (draw : Draw). Probe worker write draw.piece) (draw_of plan write)) ≡ probe_in worker write (step_at plan history worker write)
  probe_is_step = legal_as_probe (draw_of plan write) ∙ probe_of_clone (clone_of plan write.clone)

-- the skip of a draw is legal where it is the draw's step
skip_is_step : (plan : Plan) (history : List Event) (worker : ℕ) (write : WriteId) → if_legal plan history (Some (Skip worker write)) ≡ skip_in worker write (step_at plan history worker write)
skip_is_step plan history worker write = by_step (step_at plan history worker write)
  where
    by_step : (step : Option Event) → cond (is_this_skip write step) (Some (Skip worker write)) None ≡ skip_in worker write step
    by_step None = refl
    by_step (Some (Issue w kind issued piece)) = refl
    by_step (Some (Probe w probed piece)) = refl
    by_step (Some (Skip w skipped)) = refl
    by_step (Some (End w io outcome)) = refl
    by_step (Some (Verdict w io verdict)) = refl

-- a line that names a draw, where its numbers are fit
named_where : (plan : Plan) (history : List Event) (line : Entry) (fits : Bool) (x : ℕ × WriteId) (event : Option Event) → event ≡ event_in line x.0 x.1 (step_at plan history x.0 x.1) → event_named plan history line (cond fits (Some x) None) ≡ cond fits event None
named_where plan history line true x event same = sym same
named_where plan history line false x event same = refl

-- the line's event is found by the step of the draw that it names
abbrev pub IsFound : Plan → List Event → Entry → Type 0
IsFound plan history line = event_named plan history line (named history line) ≡ legal_event plan history line

-- so it is of a line that starts an I/O or a check, or skips a write
pub legal_issue_is : (plan : Plan) (history : List Event) (start : Start) → IsFound plan history (entry.Issue start)
legal_issue_is plan history start =
    named_where plan history (entry.Issue start) _ (start.worker, write_of start.write) _ (issue_is_step plan history start.worker (write_of start.write))

pub legal_probe_is : (plan : Plan) (history : List Event) (start : Start) → IsFound plan history (entry.Probe start)
legal_probe_is plan history start =
    named_where plan history (entry.Probe start) _ (start.worker, write_of start.write) _ (probe_is_step plan history start.worker (write_of start.write))

pub legal_skip_is : (plan : Plan) (history : List Event) (worker : ℕ) (write : Name) → IsFound plan history (entry.Skip worker write)
legal_skip_is plan history worker write =
    named_where plan history (entry.Skip worker write) _ (worker, write_of write) _ (skip_is_step plan history worker (write_of write))
    ∙ ap (λ (b : Bool). cond b (if_legal plan history (Some (Skip worker (write_of write)))) None) (and_true (is_small worker && name_fits write))
  where
    and_true : (b : Bool) → b ≡ (b && true)
    and_true true = refl
    and_true false = refl

-- two tests, one after another, and as one
two_tests : {X : Type 0} (a b : Bool) (x : X) → cond (a && b) (Some x) None ≡ cond (a && true) (cond b (Some x) None) None
two_tests true true x = refl
two_tests true false x = refl
two_tests false b x = refl

-- the verdict of a line
pub legal_verdict_is : (plan : Plan) (history : List Event) (by io : ℕ) (finding : Finding) → judged plan history by io finding ≡ legal_event plan history (entry.Verdict by io finding)
legal_verdict_is plan history by io finding = two_tests _ _ _
