-- What is accepted is the trace of a whole legal run.
use Rattle.std.proofs.Common.{◌≡◌, ℕ, ◌+◌, List, [], ◌∷◌, ◌++◌, length, Bool, true, false, cond, ◌&&◌, Result, Ok, Err, refl, sym, ap, ◌∙◌, subst, append_assoc, append-nil, arith}
use Rattle.std.specs.Prelude.{Option, Some, None, codes, slice_get, ◌==◌}
use Rattle.std.specs.List.{join_with_byte, slice_split}
use Rattle.std.specs.Fmt.{decimal}
use Rattle.std.proofs.lemmas.Bool.{and_from, and_parts, eqb-true}
use Rattle.std.proofs.lemmas.List.Splits.{join_with_byte-slice_split}
use Rattle.std.proofs.lemmas.Option.{same_Some}
use Rattle.jr_model.specs.declared.events.Event.{Event}
use Rattle.jr_model.specs.declared.events.Event.TheVariants.{Issue, Probe, Skip, End, Verdict}
use Rattle.jr_model.specs.declared.events.Outcome.TheVariants.{Whole, Failed, Short}
use Rattle.jr_model.specs.declared.events.Verdict.TheVariants.{Good, Bad, Void}
use Rattle.jr_model.specs.declared.events.Part.TheVariants as part
use Rattle.jr_model.specs.declared.events.What.TheVariants.{Header, Digest, DataArea, Byte, Chunk}
use Rattle.jr_model.specs.declared.events.WriteId.{WriteId}
use Rattle.jr_model.specs.declared.workloads.Draw.{Draw}
use Rattle.jr_model.specs.Draws.{draws_of_job}
use Rattle.jr_model.specs.History.{started}
use Rattle.jr_model.specs.Legal.{is_complete, legal_after, may_happen}
use Rattle.jr_model.specs.Plan.{Plan, SubJob, clone_of, issued_as}
use Rattle.jr_model.specs.Report.{all_totals}
use Rattle.jr_model.proofs.OptionLemmas.{made_of}
use Rattle.jr_replay_traces.specs.declared.entries.Ending.{Ending}
use Rattle.jr_replay_traces.specs.declared.entries.Ending.TheVariants as ending
use Rattle.jr_replay_traces.specs.declared.entries.Entry.{Entry}
use Rattle.jr_replay_traces.specs.declared.entries.Entry.TheVariants as entry
use Rattle.jr_replay_traces.specs.declared.entries.Finding.{Finding}
use Rattle.jr_replay_traces.specs.declared.entries.Finding.TheVariants as finding
use Rattle.jr_replay_traces.specs.declared.entries.Start.{Start}
use Rattle.jr_run_faults.specs.declared.traces.TraceFault.{TraceFault}
use Rattle.jr_run_faults.specs.declared.traces.TraceFault.TheVariants.{Illegal, Line, Unfinished}
use Rattle.jr_replay_traces.specs.TraceChecks.{after, draw_of, entry_event, entry_fits, event_of, history_in, if_legal, is_newline, is_numbered, issue_of, legal_event, line_event, lines_read, outcome_of, verdict_of, write_of}
use Rattle.jr_replay_traces.specs.TraceLaws.{AcceptedIsATrace, ending_of, entry_of, finding_of, lines_fit, start_by}
use Rattle.jr_replay_traces.specs.TraceLines.{read_line}
use Rattle.jr_replay_traces.specs.Traces.{event_text, lines_after}
use Rattle.jr_replay_traces.proofs.LineWriting.{entry_text, line_is_entry}
use Rattle.jr_replay_traces.proofs.ReadingLemmas.{from_cond, from_if_legal, from_ok_or}

-- the parts of an entry, there and back
ending_back : (e : Ending) → ending_of (outcome_of e) ≡ e
ending_back ending.Whole = refl
ending_back ending.Failed = refl
ending_back (ending.Short n) = refl

finding_back : (f : Finding) → finding_of (verdict_of f) ≡ f
finding_back finding.Good = refl
finding_back finding.Void = refl
finding_back finding.Header = refl
finding_back finding.Digest = refl
finding_back finding.DataArea = refl
finding_back (finding.Byte i) = refl
finding_back (finding.Chunk i found) = refl

entry_of_issue : (o : Option SubJob) (worker io : ℕ) (write : WriteId) (e : Event) → issue_of o worker write ≡ Some e → entry.Issue (start_by worker io write) ≡ entry_of io e
entry_of_issue None worker io write e h = cc
entry_of_issue (Some job) worker io write e h =
    ap (entry_of io) (made_of (λ (draw : Draw). Issue worker (issued_as job draw.dir) write draw.piece) (slice_get (draws_of_job job write.pass) write.number) e h).2

-- an event that an entry speaks of has that entry
entry_of_event : (plan : Plan) (history : List Event) (x : Entry) (e : Event) → is_numbered history x ≡ true → event_of plan x ≡ Some e → x ≡ entry_of (length (started history)) e
entry_of_event plan history (entry.Issue start) e numbered h =
    let io = length (started history) in
    let write = write_of start.write in
    let made : ℕ → Start = λ n. record { worker = start.worker; io = n; write = start.write } in
    ap (λ (n : ℕ). entry.Issue (made n)) (eqb-true start.io io numbered)
    ∙ entry_of_issue (clone_of plan write.clone) start.worker io write e h
entry_of_event plan history (entry.Probe start) e numbered h =
    let io = length (started history) in
    let write = write_of start.write in
    let drawn = made_of (λ (draw : Draw). Probe start.worker write draw.piece) (draw_of plan write) e h in
    let made : ℕ → Start = λ n. record { worker = start.worker; io = n; write = start.write } in
    ap (λ (n : ℕ). entry.Probe (made n)) (eqb-true start.io io numbered) ∙ ap (entry_of io) drawn.2
entry_of_event plan history (entry.Skip worker write) e numbered h =
    ap (entry_of (length (started history))) (same_Some (Skip worker (write_of write)) e h)
entry_of_event plan history (entry.End worker io e) event numbered h =
    ap (λ (o : Ending). entry.End worker io o) (sym (ending_back e))
    ∙ ap (entry_of (length (started history))) (same_Some (End worker io (outcome_of e)) event h)
entry_of_event plan history (entry.Verdict by io f) event numbered h =
    ap (λ (v : Finding). entry.Verdict by io v) (sym (finding_back f))
    ∙ ap (entry_of (length (started history))) (same_Some (Verdict by io (verdict_of f)) event h)

-- what is joined at once, and what is appended part by part
join_start : (t a b c d e : List ℕ) → join_with_byte 32 (t ∷ a ∷ b ∷ c ∷ d ∷ e ∷ []) ≡ ((t ++ 32 ∷ a) ++ 32 ∷ b) ++ ((32 ∷ c ++ 32 ∷ d) ++ 32 ∷ e)
join_start t a b c d e = simp append_assoc refl

join_skip : (t a c d e : List ℕ) → join_with_byte 32 (t ∷ a ∷ c ∷ d ∷ e ∷ []) ≡ (t ++ 32 ∷ a) ++ ((32 ∷ c ++ 32 ∷ d) ++ 32 ∷ e)
join_skip t a c d e = simp append_assoc refl

join_word : (t a b w : List ℕ) → join_with_byte 32 (t ∷ a ∷ b ∷ w ∷ []) ≡ ((t ++ 32 ∷ a) ++ 32 ∷ b) ++ 32 ∷ w
join_word t a b w = simp append_assoc refl

join_number : (t a b w n : List ℕ) → join_with_byte 32 (t ∷ a ∷ b ∷ w ∷ n ∷ []) ≡ ((t ++ 32 ∷ a) ++ 32 ∷ b) ++ (32 ∷ w ++ 32 ∷ n)
join_number t a b w n = simp append_assoc refl

-- the line of an event is its entry's
entry_text_is : (io : ℕ) (e : Event) → entry_text (entry_of io e) ≡ event_text io e
entry_text_is io (Issue worker kind write piece) =
    join_start (codes "I") (decimal worker) (decimal io) (decimal write.clone) (decimal write.pass) (decimal write.number)
entry_text_is io (Probe worker write piece) =
    join_start (codes "P") (decimal worker) (decimal io) (decimal write.clone) (decimal write.pass) (decimal write.number)
entry_text_is io (Skip worker write) =
    join_skip (codes "S") (decimal worker) (decimal write.clone) (decimal write.pass) (decimal write.number)
entry_text_is io (End worker id Whole) = join_word (codes "E") (decimal worker) (decimal id) (codes "whole")
entry_text_is io (End worker id Failed) = join_word (codes "E") (decimal worker) (decimal id) (codes "failed")
entry_text_is io (End worker id (Short n)) = join_number (codes "E") (decimal worker) (decimal id) (codes "short") (decimal n)
entry_text_is io (Verdict by id Good) = join_word (codes "V") (decimal by) (decimal id) (codes "good")
entry_text_is io (Verdict by id Void) = join_word (codes "V") (decimal by) (decimal id) (codes "void")
entry_text_is io (Verdict by id (Bad Header)) = join_word (codes "V") (decimal by) (decimal id) (codes "header")
entry_text_is io (Verdict by id (Bad Digest)) = join_word (codes "V") (decimal by) (decimal id) (codes "digest")
entry_text_is io (Verdict by id (Bad DataArea)) = join_word (codes "V") (decimal by) (decimal id) (codes "data")
entry_text_is io (Verdict by id (Bad (Byte i))) = join_number (codes "V") (decimal by) (decimal id) (codes "byte") (decimal i)
entry_text_is io (Verdict by id (Bad (Chunk i part.Header))) = join_number (codes "V") (decimal by) (decimal id) (codes "header") (decimal i)
entry_text_is io (Verdict by id (Bad (Chunk i part.Digest))) = join_number (codes "V") (decimal by) (decimal id) (codes "digest") (decimal i)
entry_text_is io (Verdict by id (Bad (Chunk i part.DataArea))) = join_number (codes "V") (decimal by) (decimal id) (codes "data") (decimal i)

-- a line that is read as an event is the event's line
record IsLineOf (plan : Plan) (history : List Event) (line : List ℕ) (e : Event) : Type 0 where
  written : line ≡ event_text (length (started history)) e
  may : may_happen plan history e ≡ true
  fits : entry_fits (entry_of (length (started history)) e) ≡ true

line_written : (plan : Plan) (history : List Event) (n : ℕ) (line : List ℕ) (e : Event) → line_event plan history n line ≡ Ok e → IsLineOf plan history line e
line_written plan history n line e h = by_entry (read_line line) refl h
  where
    by_entry : (o : Option Entry) → read_line line ≡ o → entry_event plan history n o ≡ Ok e → IsLineOf plan history line e
    by_entry None read g = cc
    by_entry (Some x) read g =
        let io = length (started history) in
        let found = from_cond (entry_fits x && is_numbered history x) (if_legal plan history (event_of plan x)) e (from_ok_or (legal_event plan history x) (Illegal n) e g) in
        let tests = and_parts (entry_fits x) (is_numbered history x) found.0 in
        let legal = from_if_legal plan history (event_of plan x) e found.1 in
        let same : x ≡ entry_of io e = entry_of_event plan history x e tests.1 legal.0 in
        record {
          written = line_is_entry line x read ∙ ap entry_text same ∙ entry_text_is io e;
          may = legal.1;
          fits = subst (λ (y : Entry). entry_fits y ≡ true) same tests.0;
        }

-- what lines say behind a history, written out
record AreLinesOf (plan : Plan) (history : List Event) (lines : List (List ℕ)) (all : List Event) : Type 0 where
  events : List Event
  grown : all ≡ history ++ events
  legal : legal_after plan history events ≡ true
  fits : lines_fit history events ≡ true
  written : join_with_byte 10 lines ≡ lines_after history events

from_after : {A B : Type 0} (r : Result A TraceFault) (f : A → Result B TraceFault) (y : B) → after r f ≡ Ok y → (x : A) × (r ≡ Ok x) × (f x ≡ Ok y)
from_after (Ok x) f y h = (x, refl, h)
from_after (Err fault) f y h = cc

same_ok : {X : Type 0} (fault : TraceFault) (x y : X) → cond true (Ok x) (Err fault) ≡ Ok y → x ≡ y
same_ok fault x y h = cc

from_test : {X : Type 0} (b : Bool) (x y : X) (fault : TraceFault) → cond b (Ok x) (Err fault) ≡ Ok y → (b ≡ true) × (x ≡ y)
from_test true x y fault h = (refl, same_ok fault x y h)
from_test false x y fault h = cc

none_by_length : (text : List ℕ) → (length text == 0) ≡ true → text ≡ []
none_by_length [] h = refl
none_by_length (b ∷ text) h = absurd (omega (arith, eqb-true (length (b ∷ text)) 0 h))

no_lines : (plan : Plan) (history all : List Event) (lines : List (List ℕ)) → join_with_byte 10 lines ≡ [] → history ≡ all → AreLinesOf plan history lines all
no_lines plan history all lines nothing same = record {
  events = [];
  grown = sym same ∙ sym (append-nil history);
  legal = refl;
  fits = refl;
  written = nothing;
}

lines_written : (plan : Plan) (history : List Event) (n : ℕ) (lines : List (List ℕ)) (all : List Event) → lines_read plan history n lines ≡ Ok all → AreLinesOf plan history lines all
lines_written plan history n [] all h = no_lines plan history all [] refl (from_test true history all Unfinished h).1
lines_written plan history n (rest ∷ []) all h =
    let last = from_test (length rest == 0) history all (Line n) h in
    no_lines plan history all (rest ∷ []) (none_by_length rest last.0) last.1
lines_written plan history n (line ∷ next ∷ more) all h =
    let first = from_after (line_event plan history n line) (λ event. lines_read plan (history ++ event ∷ []) (n + 1) (next ∷ more)) all h in
    let e = first.0 in
    let io = length (started history) in
    let longer = history ++ e ∷ [] in
    let here = line_written plan history n line e first.1 in
    let rest = lines_written plan longer (n + 1) (next ∷ more) all first.2 in
    record {
      events = e ∷ rest.events;
      grown = rest.grown ∙ append_assoc history (e ∷ []) rest.events;
      legal = and_from (may_happen plan history e) (legal_after plan longer rest.events) here.may rest.legal;
      fits = and_from (entry_fits (entry_of io e)) (lines_fit longer rest.events) here.fits rest.fits;
      written =
          ap (λ (text : List ℕ). text ++ 10 ∷ join_with_byte 10 (next ∷ more)) here.written
          ∙ ap (λ (text : List ℕ). event_text io e ++ 10 ∷ text) rest.written
          ∙ sym (append_assoc (event_text io e) (codes "\n") (lines_after longer rest.events));
    }

pub accepted_is_a_trace : AcceptedIsATrace
accepted_is_a_trace plan text totals h =
    let read = from_after (history_in plan text) (λ history. cond (is_complete plan history) (Ok (all_totals plan history)) (Err Unfinished)) totals h in
    let whole = from_test (is_complete plan read.0) (all_totals plan read.0) totals Unfinished read.2 in
    let lines = lines_written plan [] 1 (slice_split is_newline text) read.0 read.1 in
    let same : read.0 ≡ lines.events = lines.grown in (
      lines.events,
      record {
        written = sym (join_with_byte-slice_split 10 text) ∙ lines.written;
        legal = lines.legal;
        complete = subst (λ (history : List Event). is_complete plan history ≡ true) same whole.0;
        fits = lines.fits;
        counted = sym whole.1 ∙ ap (all_totals plan) same;
      },
    )
