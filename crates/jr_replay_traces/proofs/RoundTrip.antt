-- The trace of a whole legal run is accepted.
use Rattle.std.proofs.Common.{◌≡◌, ℕ, ◌+◌, List, [], ◌∷◌, ◌++◌, length, Bool, true, cond, ◌&&◌, Result, Ok, Err, Vec, Global, refl, sym, ap, ◌∙◌, subst, inl, inr, append_assoc, append-nil}
use Rattle.std.specs.Prelude.{IfOk, Option, Some, None, codes, slice_get, ok_or}
use Rattle.std.specs.List.{slice_split}
use Rattle.std.specs.Option.{option_map}
use Rattle.std.proofs.lemmas.Bool.{and_from, and_parts, eq-eqb}
use Rattle.std.proofs.lemmas.List.Splits.{slice_split_at}
use Rattle.jr_model.specs.declared.blocks.Piece.{Piece}
use Rattle.jr_model.specs.declared.events.Event.{Event}
use Rattle.jr_model.specs.declared.events.Event.TheVariants.{Issue, Probe, Skip, End, Verdict}
use Rattle.jr_model.specs.declared.events.IssueKind.{IssueKind}
use Rattle.jr_model.specs.declared.events.Outcome.{Outcome}
use Rattle.jr_model.specs.declared.events.Outcome.TheVariants.{Whole, Failed, Short}
use Rattle.jr_model.specs.declared.events.Verdict.{Verdict as GivenVerdict}
use Rattle.jr_model.specs.declared.events.Verdict.TheVariants.{Good, Bad, Void}
use Rattle.jr_model.specs.declared.events.What.TheVariants.{Header, Digest, DataArea, Byte, Chunk}
use Rattle.jr_model.specs.declared.events.WriteId.{WriteId}
use Rattle.jr_model.specs.declared.workloads.Draw.{Draw}
use Rattle.jr_model.specs.Draws.{draws_of_clone, draws_of_job}
use Rattle.jr_model.specs.History.{started, same_write, same_piece}
use Rattle.jr_model.specs.Legal.{is_complete, is_legal, is_this_issue, is_this_probe, legal_after, may_happen, same_issue, step_of, step_of_clone, step_of_draw}
use Rattle.jr_model.specs.Plan.{Plan, SubJob, clone_of, issued_as}
use Rattle.jr_model.specs.Report.{all_totals}
use Rattle.jr_model.specs.Rounds.{Pass, pass_of}
use Rattle.jr_model.proofs.Equality.{eq_issue, eq_piece}
use Rattle.jr_model.proofs.LegalLaws.{cases_step_of}
use Rattle.jr_model.specs.PlanFacts.{IsPlanned}
use Rattle.jr_run_faults.specs.declared.traces.TraceFault.{TraceFault}
use Rattle.jr_run_faults.specs.declared.traces.TraceFault.TheVariants.{Illegal, Unfinished}
use Rattle.jr_replay_traces.specs.TraceChecks.{after, check_of, entry_event, entry_fits, event_of, if_legal, is_newline, is_numbered, issue_of, legal_event, line_event, lines_read, outcome_of, verdict_of, workers_fit}
use Rattle.jr_replay_traces.specs.TraceLaws.{TraceIsAccepted, ending_of, entry_of, finding_of, lines_fit}
use Rattle.jr_replay_traces.specs.Traces.{event_text, lines_after, trace_of}
use Rattle.jr_replay_traces.proofs.EntryReading.{event_read}
use Rattle.jr_replay_traces.proofs.LineEnds.{no_newline}
use Rattle.jr_replay_traces.proofs.Numbers.{numbers_fit}
use Rattle.jr_replay_traces.proofs.ReadingLemmas.{lines_read_next}

-- an issue that may happen is of its draw
record IsDrawn (job : SubJob) (kind : IssueKind) (piece : Piece) (o : Option Draw) : Type 0 where
  draw : Draw
  there : o ≡ Some draw
  kind_is : issued_as job draw.dir ≡ kind
  piece_is : draw.piece ≡ piece

record IsPlaced (piece : Piece) (o : Option Draw) : Type 0 where
  draw : Draw
  there : o ≡ Some draw
  piece_is : draw.piece ≡ piece

module _ (plan : Plan) (history : List Event) (worker : ℕ) (write : WriteId) where
  issue_by_step : (kind : IssueKind) (piece : Piece) (pass : Pass) (draw : Draw) (step : Option Event) → step_of plan history worker pass draw ≡ step → is_this_issue kind write piece step ≡ true → (issued_as pass.job draw.dir ≡ kind) × (draw.piece ≡ piece)
  issue_by_step kind piece pass draw None h t = cc
  issue_by_step kind piece pass draw (Some (Probe k w p)) h t = cc
  issue_by_step kind piece pass draw (Some (Skip k w)) h t = cc
  issue_by_step kind piece pass draw (Some (End k io outcome)) h t = cc
  issue_by_step kind piece pass draw (Some (Verdict k io verdict)) h t = cc
  issue_by_step kind piece pass draw (Some (Issue j k w p)) h t =
      let parts = and_parts (same_issue k kind && same_write w write) (same_piece p piece) t in
      let ways = and_parts (same_issue k kind) (same_write w write) parts.0 in
      let same_k = eq_issue k kind ways.0 in
      let same_p = eq_piece p piece parts.1 in
      elim (cases_step_of plan history worker pass draw (Issue j k w p) h) [
        | inl probe ↦ cc
        | inr (inl skip) ↦ cc
        | inr (inr issue) ↦
            let of_k : k ≡ issued_as pass.job draw.dir = cc in
            let of_p : p ≡ draw.piece = cc in
            (sym of_k ∙ same_k, sym of_p ∙ same_p)
      ]

  issue_drawn : (kind : IssueKind) (piece : Piece) (pass : Pass) (o : Option Draw) → is_this_issue kind write piece (step_of_draw plan history worker pass o) ≡ true → IsDrawn pass.job kind piece o
  issue_drawn kind piece pass None t = cc
  issue_drawn kind piece pass (Some draw) t =
      let same = issue_by_step kind piece pass draw (step_of plan history worker pass draw) refl t in
      record { draw = draw; there = refl; kind_is = same.0; piece_is = same.1 }

  issue_back : (kind : IssueKind) (piece : Piece) (o : Option SubJob) → is_this_issue kind write piece (step_of_clone plan history worker write o) ≡ true → issue_of o worker write ≡ Some (Issue worker kind write piece)
  issue_back kind piece None t = cc
  issue_back kind piece (Some job) t =
      let drawn = issue_drawn kind piece (pass_of job write.pass) (slice_get (draws_of_job job write.pass) write.number) t in
      ap (option_map (λ (draw : Draw). Issue worker (issued_as job draw.dir) write draw.piece)) drawn.there
      ∙ ap (λ (k : IssueKind). Some (Issue worker k write drawn.draw.piece)) drawn.kind_is
      ∙ ap (λ (p : Piece). Some (Issue worker kind write p)) drawn.piece_is

  probe_by_step : (piece : Piece) (pass : Pass) (draw : Draw) (step : Option Event) → step_of plan history worker pass draw ≡ step → is_this_probe write piece step ≡ true → draw.piece ≡ piece
  probe_by_step piece pass draw None h t = cc
  probe_by_step piece pass draw (Some (Issue k d w p)) h t = cc
  probe_by_step piece pass draw (Some (Skip k w)) h t = cc
  probe_by_step piece pass draw (Some (End k io outcome)) h t = cc
  probe_by_step piece pass draw (Some (Verdict k io verdict)) h t = cc
  probe_by_step piece pass draw (Some (Probe k w p)) h t =
      let parts = and_parts (same_write w write) (same_piece p piece) t in
      let same_p = eq_piece p piece parts.1 in
      elim (cases_step_of plan history worker pass draw (Probe k w p) h) [
        | inl probe ↦ let of_p : p ≡ draw.piece = cc in sym of_p ∙ same_p
        | inr (inl skip) ↦ cc
        | inr (inr issue) ↦ cc
      ]

  probe_drawn : (piece : Piece) (pass : Pass) (o : Option Draw) → is_this_probe write piece (step_of_draw plan history worker pass o) ≡ true → IsPlaced piece o
  probe_drawn piece pass None t = cc
  probe_drawn piece pass (Some draw) t =
      record { draw = draw; there = refl; piece_is = probe_by_step piece pass draw (step_of plan history worker pass draw) refl t }

  probe_of_clone : (piece : Piece) (o : Option SubJob) → is_this_probe write piece (step_of_clone plan history worker write o) ≡ true → IsPlaced piece (slice_get (draws_of_clone o write.pass) write.number)
  probe_of_clone piece None t = cc
  probe_of_clone piece (Some job) t = probe_drawn piece (pass_of job write.pass) (slice_get (draws_of_job job write.pass) write.number) t

-- the parts of an event, there and back
outcome_back : (outcome : Outcome) → outcome_of (ending_of outcome) ≡ outcome
outcome_back Whole = refl
outcome_back Failed = refl
outcome_back (Short n) = refl

verdict_back : (verdict : GivenVerdict) → verdict_of (finding_of verdict) ≡ verdict
verdict_back Good = refl
verdict_back Void = refl
verdict_back (Bad Header) = refl
verdict_back (Bad Digest) = refl
verdict_back (Bad DataArea) = refl
verdict_back (Bad (Byte i)) = refl
verdict_back (Bad (Chunk i found)) = refl

-- the entry of an event that may happen names it
event_back : (plan : Plan) (history : List Event) (io : ℕ) (e : Event) → may_happen plan history e ≡ true → event_of plan (entry_of io e) ≡ Some e
event_back plan history io (Issue worker kind write piece) may =
    issue_back plan history worker write kind piece (clone_of plan write.clone) may
event_back plan history io (Probe worker write piece) may =
    let placed = probe_of_clone plan history worker write piece (clone_of plan write.clone) may in
    ap (option_map (λ (draw : Draw). Probe worker write draw.piece)) placed.there
    ∙ ap (λ (p : Piece). Some (Probe worker write p)) placed.piece_is
event_back plan history io (Skip worker write) may = refl
event_back plan history io (End worker id outcome) may = ap (λ (o : Outcome). Some (End worker id o)) (outcome_back outcome)
event_back plan history io (Verdict by id verdict) may = ap (λ (v : GivenVerdict). Some (Verdict by id v)) (verdict_back verdict)

numbered : (history : List Event) (e : Event) → is_numbered history (entry_of (length (started history)) e) ≡ true
numbered history (Issue worker kind write piece) = eq-eqb (length (started history)) (length (started history)) refl
numbered history (Probe worker write piece) = eq-eqb (length (started history)) (length (started history)) refl
numbered history (Skip worker write) = refl
numbered history (End worker io outcome) = refl
numbered history (Verdict worker io verdict) = refl

-- a legal event's line gives the event back
line_back : (plan : Plan) (history : List Event) (n : ℕ) (e : Event) → may_happen plan history e ≡ true → entry_fits (entry_of (length (started history)) e) ≡ true → line_event plan history n (event_text (length (started history)) e) ≡ Ok e
line_back plan history n e may fits =
    let io = length (started history) in
    let x = entry_of io e in
    let tests = and_from (entry_fits x) (is_numbered history x) fits (numbered history e) in
    let legal : legal_event plan history x ≡ Some e =
    ap (λ (b : Bool). cond b (if_legal plan history (event_of plan x)) None) tests
    ∙ ap (if_legal plan history) (event_back plan history io e may)
    ∙ ap (λ (b : Bool). cond b (Some e) None) may in
    ap (entry_event plan history n) (event_read io e fits)
    ∙ ap (λ (o : Option Event). ok_or o (Illegal n)) legal

-- the lines of legal events are read
lines_back : (plan : Plan) (history events : List Event) (n : ℕ) → legal_after plan history events ≡ true → lines_fit history events ≡ true → lines_read plan history n (slice_split is_newline (lines_after history events)) ≡ Ok (history ++ events)
lines_back plan history [] n legal fits = ap Ok (sym (append-nil history))
lines_back plan history (e ∷ events) n legal fits =
    let io = length (started history) in
    let longer = history ++ e ∷ [] in
    let rest = lines_after longer events in
    let may = and_parts (may_happen plan history e) (legal_after plan longer events) legal in
    let small = and_parts (entry_fits (entry_of io e)) (lines_fit longer events) fits in
    ap (λ (text : List ℕ). lines_read plan history n (slice_split is_newline text)) (append_assoc (event_text io e) (codes "\n") rest)
    ∙ ap (lines_read plan history n) (slice_split_at is_newline (event_text io e) 10 rest (no_newline io e small.0) refl)
    ∙ lines_read_next plan history n (event_text io e) rest
    ∙ ap (λ (r : Result Event TraceFault). after r (λ event. lines_read plan (history ++ event ∷ []) (n + 1) (slice_split is_newline rest))) (line_back plan history n e may.0 small.0)
    ∙ lines_back plan longer events (n + 1) may.1 small.1
    ∙ ap Ok (append_assoc history (e ∷ []) events)

-- the trace of a legal run with small numbers is read back
pub trace_is_checked : (plan : Plan) (history : List Event) → IsPlanned plan → is_legal plan history ≡ true → workers_fit history ≡ true → check_of plan (trace_of history) ≡ cond (is_complete plan history) (Ok (all_totals plan history)) (Err Unfinished)
trace_is_checked plan history planned legal fit =
    ap (λ (r : Result (List Event) TraceFault). after r (λ h. cond (is_complete plan h) (Ok (all_totals plan h)) (Err Unfinished)))
    (lines_back plan [] history 1 legal (numbers_fit plan history planned legal ∙ fit))

pub trace_is_accepted : TraceIsAccepted
trace_is_accepted plan history planned legal complete fit =
    trace_is_checked plan history planned legal fit
    ∙ ap (λ (b : Bool). cond b (Ok (all_totals plan history)) (Err Unfinished)) complete

-- the same of a text, and of a history and a plan under other names
pub text_is_checked : {E : Type 0} (plan p : Plan) (history h : List Event) (text : Result (Vec ℕ Global) E) → p ≡ plan → h ≡ history → IsPlanned p → is_legal plan history ≡ true → IfOk text (λ t. t.items ≡ trace_of h) → IfOk text (λ t. workers_fit h ≡ true) → IfOk text (λ t. check_of plan t.items ≡ cond (is_complete plan history) (Ok (all_totals plan history)) (Err Unfinished))
text_is_checked plan p history h (Err e) same_plan same planned legal written fit = tt
text_is_checked plan p history h (Ok t) same_plan same planned legal written fit =
    let here : workers_fit history ≡ true = ap workers_fit (sym same) ∙ fit in
    ap (check_of plan) (written ∙ ap trace_of same)
    ∙ trace_is_checked plan history (subst IsPlanned same_plan planned) legal here
