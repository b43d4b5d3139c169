-- The reading of a trace, one line after another.
use Rattle.std.proofs.Common.{◌≡◌, ℕ, ◌+◌, ◌<◌, ◌≤◌, ◌^◌, List, [], ◌∷◌, ◌++◌, length, Bool, true, false, cond, ◌&&◌, Result, Ok, refl, sym, ap, ◌∙◌, subst, arith, length-append}
use Rattle.std.specs.Prelude.{Option, Some, None, ok_or, ◌==◌}
use Rattle.std.specs.List.{slice_split}
use Rattle.std.proofs.lemmas.Bool.{and_parts, eqb-true, ltb-true}
use Rattle.jr_model.specs.declared.events.Event.{Event}
use Rattle.jr_model.specs.declared.events.Event.TheVariants.{Issue, Probe, Skip, End, Verdict}
use Rattle.jr_model.specs.History.{started}
use Rattle.jr_model.specs.Legal.{is_legal, may_happen}
use Rattle.jr_model.specs.Plan.{Plan}
use Rattle.jr_model.proofs.LegalLaws.{is_legal-more}
use Rattle.jr_model.proofs.ListLemmas.{first_part}
use Rattle.jr_model.proofs.HistoryLemmas.{started_count-more}
use Rattle.jr_replay_traces.specs.declared.entries.Entry.{Entry}
use Rattle.jr_replay_traces.specs.declared.entries.Entry.TheVariants as entry
use Rattle.jr_run_faults.specs.declared.traces.TraceFault.{TraceFault}
use Rattle.jr_run_faults.specs.declared.traces.TraceFault.TheVariants.{Line, Illegal, Unfinished, Memory}
use Rattle.jr_replay_traces.specs.TraceChecks.{IsRefusal, after, entry_event, entry_fits, event_of, if_legal, is_newline, is_numbered, is_small, legal_event, line_event, lines_read, name_fits}
use Rattle.jr_replay_traces.specs.TraceLines.{read_line}

-- a line that is followed by others, or by nothing behind its line feed
pub lines_read_next : (plan : Plan) (history : List Event) (n : ℕ) (line text : List ℕ) → lines_read plan history n (line ∷ slice_split is_newline text) ≡ after (line_event plan history n line) (λ event. lines_read plan (history ++ event ∷ []) (n + 1) (slice_split is_newline text))
lines_read_next plan history n line text =
    let cut = first_part is_newline text in
    subst (λ (parts : List (List ℕ)). lines_read plan history n (line ∷ parts) ≡ after (line_event plan history n line) (λ event. lines_read plan (history ++ event ∷ []) (n + 1) parts)) (sym cut.2) refl

module _ (plan : Plan) (history : List Event) (n : ℕ) (line rest more : List ℕ) (all : Result (List Event) TraceFault) (place : n ≡ length history + 1) (cut : slice_split is_newline rest ≡ line ∷ slice_split is_newline more) (so : lines_read plan history (length history + 1) (slice_split is_newline rest) ≡ all) where
  all_is : after (line_event plan history n line) (λ event. lines_read plan (history ++ event ∷ []) (n + 1) (slice_split is_newline more)) ≡ all
  all_is =
      sym (lines_read_next plan history n line more)
      ∙ ap (λ (k : ℕ). lines_read plan history k (line ∷ slice_split is_newline more)) place
      ∙ ap (λ (parts : List (List ℕ)). lines_read plan history (length history + 1) parts) (sym cut)
      ∙ so

  -- past a line
  pub read_more : (e : Event) (longer : List Event) → line_event plan history n line ≡ Ok e → longer ≡ history ++ e ∷ [] → lines_read plan longer (length longer + 1) (slice_split is_newline more) ≡ all
  read_more e longer read grown =
      let size : length longer + 1 ≡ n + 1 = omega (arith, ap length grown, length-append history (e ∷ [])) in
      ap (λ (k : ℕ). lines_read plan longer k (slice_split is_newline more)) size
      ∙ ap (λ (h : List Event). lines_read plan h (n + 1) (slice_split is_newline more)) grown
      ∙ sym (ap (λ (r : Result Event TraceFault). after r (λ event. lines_read plan (history ++ event ∷ []) (n + 1) (slice_split is_newline more))) read)
      ∙ all_is

  -- a refused line
  pub read_refused : (fault : TraceFault) → IsRefusal fault (line_event plan history n line) → IsRefusal fault all
  read_refused fault refused =
      subst (IsRefusal fault) all_is
      (passed fault (line_event plan history n line) (λ event. lines_read plan (history ++ event ∷ []) (n + 1) (slice_split is_newline more)) refused)
    where
      passed : {A B : Type 0} (e : TraceFault) (r : Result A TraceFault) (f : A → Result B TraceFault) → IsRefusal e r → IsRefusal e (after r f)
      passed (Line k) r f h = ap (λ x. after x f) h
      passed (Illegal k) r f h = ap (λ x. after x f) h
      passed Unfinished r f h = ap (λ x. after x f) h
      passed Memory r f h = tt

-- what starts at most
started_most : (e : Event) → length (started (e ∷ [])) ≤ 1
started_most (Issue worker kind write piece) = omega arith
started_most (Probe worker write piece) = omega arith
started_most (Skip worker write) = omega arith
started_most (End worker io outcome) = omega arith
started_most (Verdict worker io verdict) = omega arith

-- what a line's event may be
pub from_cond : {X : Type 0} (b : Bool) (x : Option X) (y : X) → cond b x None ≡ Some y → (b ≡ true) × (x ≡ Some y)
from_cond true x y h = (refl, h)
from_cond false x y h = cc

pub from_ok_or : {X : Type 0} (o : Option X) (fault : TraceFault) (y : X) → ok_or o fault ≡ Ok y → o ≡ Some y
from_ok_or None fault y h = cc
from_ok_or (Some x) fault y h = cc

pub from_if_legal : (plan : Plan) (history : List Event) (o : Option Event) (e : Event) → if_legal plan history o ≡ Some e → (o ≡ Some e) × (may_happen plan history e ≡ true)
from_if_legal plan history None e h = cc
from_if_legal plan history (Some x) e h =
    let got = from_cond (may_happen plan history x) (Some x) e h in
    let same : x ≡ e = cc in
    (got.1, subst (λ (y : Event). may_happen plan history y ≡ true) same got.0)

-- a line's event: it may happen, and few enough are started with it
pub record IsRead (plan : Plan) (history : List Event) (e : Event) : Type 0 where
  pub may : may_happen plan history e ≡ true
  pub few : length (started history) ≤ 2 ^ 32 → length (started (history ++ e ∷ [])) ≤ 2 ^ 32

-- an I/O's number is small
number_small : (history : List Event) (io : ℕ) → is_small io ≡ true → (io == length (started history)) ≡ true → length (started history) < 2 ^ 32
number_small history io small next =
    let below = ltb-true io (2 ^ 32) small in
    let same = eqb-true io (length (started history)) next in
    omega (arith, below, same)

same_count : (plan : Plan) (history : List Event) (e : Event) → length (started (e ∷ [])) ≡ 0 → length (started history) ≤ 2 ^ 32 → length (started (history ++ e ∷ [])) ≤ 2 ^ 32
same_count plan history e none few = omega (arith, none, few, started_count-more history e)

few_after : (plan : Plan) (history : List Event) (x : Entry) (e : Event) → (entry_fits x && is_numbered history x) ≡ true → event_of plan x ≡ Some e → length (started history) ≤ 2 ^ 32 → length (started (history ++ e ∷ [])) ≤ 2 ^ 32
few_after plan history (entry.Issue start) e fits named few =
    let parts = and_parts (is_small start.worker && is_small start.io && name_fits start.write) (start.io == length (started history)) fits in
    let numbers = and_parts (is_small start.worker && is_small start.io) (name_fits start.write) parts.0 in
    let small = and_parts (is_small start.worker) (is_small start.io) numbers.0 in
    let below = number_small history start.io small.1 parts.1 in
    omega (arith, below, started_count-more history e, started_most e)
few_after plan history (entry.Probe start) e fits named few =
    let parts = and_parts (is_small start.worker && is_small start.io && name_fits start.write) (start.io == length (started history)) fits in
    let numbers = and_parts (is_small start.worker && is_small start.io) (name_fits start.write) parts.0 in
    let small = and_parts (is_small start.worker) (is_small start.io) numbers.0 in
    let below = number_small history start.io small.1 parts.1 in
    omega (arith, below, started_count-more history e, started_most e)
few_after plan history (entry.Skip worker write) e fits named few = same_count plan history e (nothing e named) few
  where
    nothing : (x : Event) → event_of plan (entry.Skip worker write) ≡ Some x → length (started (x ∷ [])) ≡ 0
    nothing (Skip k w) h = refl
    nothing (Issue k d w p) h = cc
    nothing (Probe k w p) h = cc
    nothing (End k io o) h = cc
    nothing (Verdict k io v) h = cc
few_after plan history (entry.End worker io ending) e fits named few = same_count plan history e (nothing e named) few
  where
    nothing : (x : Event) → event_of plan (entry.End worker io ending) ≡ Some x → length (started (x ∷ [])) ≡ 0
    nothing (End k i o) h = refl
    nothing (Issue k d w p) h = cc
    nothing (Probe k w p) h = cc
    nothing (Skip k w) h = cc
    nothing (Verdict k i v) h = cc
few_after plan history (entry.Verdict by io finding) e fits named few = same_count plan history e (nothing e named) few
  where
    nothing : (x : Event) → event_of plan (entry.Verdict by io finding) ≡ Some x → length (started (x ∷ [])) ≡ 0
    nothing (Verdict k i v) h = refl
    nothing (Issue k d w p) h = cc
    nothing (Probe k w p) h = cc
    nothing (Skip k w) h = cc
    nothing (End k i o) h = cc

pub line_is_read : (plan : Plan) (history : List Event) (n : ℕ) (line : List ℕ) (e : Event) → line_event plan history n line ≡ Ok e → IsRead plan history e
line_is_read plan history n line e h = by_entry (read_line line) h
  where
    by_entry : (o : Option Entry) → entry_event plan history n o ≡ Ok e → IsRead plan history e
    by_entry None g = cc
    by_entry (Some x) g =
        let found = from_ok_or (legal_event plan history x) (Illegal n) e g in
        let tests = from_cond (entry_fits x && is_numbered history x) (if_legal plan history (event_of plan x)) e found in
        let legal = from_if_legal plan history (event_of plan x) e tests.1 in
        record {
          may = legal.1;
          few = few_after plan history x e tests.0 legal.0;
        }

-- a legal history goes on with a line's event
pub legal_more : (plan : Plan) (history longer : List Event) (e : Event) → IsRead plan history e → longer ≡ history ++ e ∷ [] → is_legal plan history ≡ true → length (started history) ≤ 2 ^ 32 → (is_legal plan longer ≡ true) × (length (started longer) ≤ 2 ^ 32)
legal_more plan history longer e read grown legal few = (
  subst (λ (h : List Event). is_legal plan h ≡ true) (sym grown) (is_legal-more plan history e legal read.may),
  subst (λ (h : List Event). length (started h) ≤ 2 ^ 32) (sym grown) (read.few few),
)
