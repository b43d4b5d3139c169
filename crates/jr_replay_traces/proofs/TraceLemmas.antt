-- The lines of a trace, one after another.
use Rattle.std.proofs.Common.{◌≡◌, ℕ, ◌+◌, ◌<◌, List, [], ◌∷◌, ◌++◌, length, take, drop, get_or, Bool, true, false, refl, sym, ap, ◌∙◌, append_assoc, arith}
use Rattle.std.specs.Prelude.{is_some}
use Rattle.std.proofs.lemmas.Bool.{and_from}
use Rattle.std.proofs.lemmas.List.{at_drop_more, take_more}
use Rattle.std.proofs.lemmas.List.Folds.{list_all-append}
use Rattle.jr_model.specs.declared.events.Event.{Event}
use Rattle.jr_model.specs.declared.events.Event.TheVariants.{Issue, Probe, Skip, End, Verdict}
use Rattle.jr_model.specs.History.{started, started_by}
use Rattle.jr_model.proofs.HistoryLemmas.{started_count-more}
use Rattle.jr_replay_traces.specs.TraceChecks.{is_small, worker_of, workers_fit}
use Rattle.jr_replay_traces.specs.Traces.{event_line, event_text, lines_after, trace_of}

-- the next line, and those after it
pub lines_more : (history : List Event) (i : ℕ) (d : Event) → i < length history → lines_after (take i history) (drop i history) ≡ event_line (length (started (take i history))) (get_or history i d) ++ lines_after (take (i + 1) history) (drop (i + 1) history)
lines_more history i d within =
    at_drop_more (λ (rest : List Event). lines_after (take i history) rest) history i d within
    ∙ ap (λ (before : List Event). event_line (length (started (take i history))) (get_or history i d) ++ lines_after before (drop (i + 1) history)) (sym (take_more history i d within))

starts_one : (e : Event) → is_some (started_by e) ≡ true → length (started (e ∷ [])) ≡ 1
starts_one (Issue worker kind write piece) h = refl
starts_one (Probe worker write piece) h = refl
starts_one (Skip worker write) h = cc
starts_one (End worker io outcome) h = cc
starts_one (Verdict worker io verdict) h = cc

starts_none : (e : Event) → is_some (started_by e) ≡ false → length (started (e ∷ [])) ≡ 0
starts_none (Issue worker kind write piece) h = cc
starts_none (Probe worker write piece) h = cc
starts_none (Skip worker write) h = refl
starts_none (End worker io outcome) h = refl
starts_none (Verdict worker io verdict) h = refl

-- how many are started with the next event
pub starts_more : (history : List Event) (i : ℕ) (d : Event) → i < length history → is_some (started_by (get_or history i d)) ≡ true → length (started (take (i + 1) history)) ≡ length (started (take i history)) + 1
starts_more history i d within starts =
    let more = started_count-more (take i history) (get_or history i d) in
    let one = starts_one (get_or history i d) starts in
    ap (λ (h : List Event). length (started h)) (take_more history i d within) ∙ omega (arith, more, one)

pub starts_same : (history : List Event) (i : ℕ) (d : Event) → i < length history → is_some (started_by (get_or history i d)) ≡ false → length (started (take (i + 1) history)) ≡ length (started (take i history))
starts_same history i d within starts =
    let more = started_count-more (take i history) (get_or history i d) in
    let none = starts_none (get_or history i d) starts in
    ap (λ (h : List Event). length (started h)) (take_more history i d within) ∙ omega (arith, more, none)

-- a line more is written
pub line_written : (history : List Event) (i io : ℕ) (d : Event) (before middle after : List ℕ) → i < length history → io ≡ length (started (take i history)) → middle ≡ before ++ event_text io (get_or history i d) → after ≡ middle ++ 10 ∷ [] → before ++ lines_after (take i history) (drop i history) ≡ trace_of history → after ++ lines_after (take (i + 1) history) (drop (i + 1) history) ≡ trace_of history
line_written history i io d before middle after within count text end so =
    let rest = lines_after (take (i + 1) history) (drop (i + 1) history) in
    let line = event_text io (get_or history i d) in
    ap (λ (x : List ℕ). x ++ rest) (end ∙ ap (λ (x : List ℕ). x ++ 10 ∷ []) text ∙ append_assoc before line (10 ∷ []))
    ∙ append_assoc before (line ++ 10 ∷ []) rest
    ∙ ap (λ (k : ℕ). before ++ (event_line k (get_or history i d) ++ rest)) count
    ∙ ap (λ (x : List ℕ). before ++ x) (sym (lines_more history i d within))
    ∙ so

-- the number of the next I/O, where the event starts one and where it doesn't
pub counted_more : (history : List Event) (i io next : ℕ) (d : Event) (b : Bool) → i < length history → b ≡ is_some (started_by (get_or history i d)) → b ≡ true → io ≡ length (started (take i history)) → next ≡ io + 1 → next ≡ length (started (take (i + 1) history))
counted_more history i io next d b within test starts count more =
    let size = starts_more history i d within (sym test ∙ starts) in
    omega (arith, size, count, more)

pub counted_same : (history : List Event) (i io next : ℕ) (d : Event) (b : Bool) → i < length history → b ≡ is_some (started_by (get_or history i d)) → b ≡ false → io ≡ length (started (take i history)) → next ≡ io → next ≡ length (started (take (i + 1) history))
counted_same history i io next d b within test other count same =
    let size = starts_same history i d within (sym test ∙ other) in
    omega (arith, size, count, same)

-- the workers of the events so far, with the next one's
pub worker_more : (history : List Event) (i : ℕ) (d : Event) → i < length history → workers_fit (take i history) ≡ true → is_small (worker_of (get_or history i d)) ≡ true → workers_fit (take (i + 1) history) ≡ true
worker_more history i d within before small =
    let e = get_or history i d in
    ap workers_fit (take_more history i d within)
    ∙ list_all-append (λ (x : Event). is_small (worker_of x)) (take i history) (e ∷ [])
    ∙ and_from (workers_fit (take i history)) _ before (and_from (is_small (worker_of e)) true small refl)
