-- The marks of events, one event and one I/O after another.
use Rattle.std.proofs.Common.{◌≡◌, ℕ, suc, zero, ◌+◌, ◌≤◌, List, [], ◌∷◌, ◌++◌, length, Bool, true, false, cond, eqb, refl, sym, ap, ◌∙◌, arith, eq-eqb, append-nil, subst}
use Rattle.std.specs.Prelude.{Option, Some, None, is_some, nat_eq, ◌||◌, ◌&&◌, slice_get, filter, filter_map, count_by}
use Rattle.std.specs.HashMap.{get}
use Rattle.std.specs.HashSet.{contains}
use Rattle.std.specs.List.{list_any, cons_option}
use Rattle.std.specs.Option.{option_or}
use Rattle.std.proofs.lemmas.List.Elements.{filter-append, filter_map-append}
use Rattle.std.proofs.lemmas.List.Sums.{sum_by-cons, sum_by-append, count_by-le-length}
use Rattle.std.proofs.Math.Bool.{or-false}
use Rattle.std.proofs.lemmas.Bool.{or_parts}
use Rattle.jr_model.proofs.SerialLaws.{any-append}
use Rattle.jr_model.specs.declared.events.Event.{Event}
use Rattle.jr_model.specs.declared.events.Event.TheVariants.{Issue, Probe, Skip, End, Verdict}
use Rattle.jr_model.specs.declared.events.Outcome.{Outcome}
use Rattle.jr_model.specs.declared.events.Started.{Started}
use Rattle.jr_model.specs.declared.events.WriteId.{WriteId}
use Rattle.jr_model.specs.History.{started, started_by, end_of, outcome_of, is_verdict_on, is_judged, ended_whole}
use Rattle.jr_model.specs.Legal.{is_io_of, is_fault, is_bad, takes_up}
use Rattle.jr_model.specs.Rounds.{Pass, issues_of, issued_count, is_probe_of, settles}
use Rattle.jr_model.specs.Totals.{is_fault_of, is_verdict_of}
use Rattle.jr_model.proofs.HistoryLemmas.{outcome_of-more, started-more}
use Rattle.jr_replay_history.specs.declared.marks.Marks.{Marks}
use Rattle.jr_replay_history.specs.Marks.{IsMarked, IsMarkedBy, counted, is_issue_in, is_named, same_name}
use Rattle.jr_replay_history.specs.Ledgers.{IsLedger}
use Rattle.jr_replay_history.specs.Parts.{is_over_part}
use Rattle.jr_replay_history.specs.WriteEnds.{if_write, write_end}

any_more : {X : Type 0} (f : X → Bool) (xs : List X) (x : X) → list_any f (xs ++ x ∷ []) ≡ (list_any f xs || f x)
any_more f xs x = any-append f xs (x ∷ []) ∙ ap (λ (b : Bool). list_any f xs || b) (or-false (f x))

count_more : {X : Type 0} (p : X → Bool) (xs : List X) (x : X) → count_by p (xs ++ x ∷ []) ≡ count_by p xs + cond (p x) 1 0
count_more p xs x = let all = sum_by-append (λ y. cond (p y) 1 0) xs (x ∷ []) in omega (arith, all)

-- a look-up says of the events what it did, and of the next what it says of that alone
found_more : {X : Type 0} (f : X → Bool) (xs : List X) (x : X) (new old : Bool) → new ≡ (old || f x) → old ≡ list_any f xs → new ≡ list_any f (xs ++ x ∷ [])
found_more f xs x new old by was = by ∙ ap (λ (b : Bool). b || f x) was ∙ sym (any_more f xs x)

-- with one more event
pub marked_more : (ios : List Started) (events : List Event) (e : Event) (old new : Marks) → IsMarked ios events old → IsMarkedBy ios e old new → IsMarked ios (events ++ e ∷ []) new
marked_more ios events e old new was by = record {
  outcomes = λ io. by.outcomes io ∙ ap (λ (o : Option Outcome). option_or o (end_of io e)) (was.outcomes io) ∙ sym (outcome_of-more events e io);
  judged = λ io. found_more (is_verdict_on io) events e (contains nat_eq new.judged io) (contains nat_eq old.judged io) (by.judged io) (was.judged io);
  issued = λ key. by.issued key ∙ ap (λ (n : ℕ). n + cond (is_issue_in key e) 1 0) (was.issued key) ∙ sym (count_more (is_issue_in key) events e);
  taken_up = λ write. found_more (takes_up write) events e (contains same_name new.taken_up write) (contains same_name old.taken_up write) (by.taken_up write) (was.taken_up write);
  settled = λ write. found_more (settles ios write) events e (contains same_name new.settled write) (contains same_name old.settled write) (by.settled write) (was.settled write);
  faulty = λ clone. found_more (is_fault_of ios clone) events e (contains nat_eq new.faulty clone) (contains nat_eq old.faulty clone) (by.faulty clone) (was.faulty clone);
  condemned = λ clone. found_more (is_verdict_of ios is_bad clone) events e (contains nat_eq new.condemned clone) (contains nat_eq old.condemned clone) (by.condemned clone) (was.condemned clone);
  written = by.written ∙ ap (λ xs. xs ++ cons_option (write_end ios e) []) was.written ∙ sym (filter_map-append (write_end ios) events (e ∷ []));
  parts = λ file part.
      by.parts file part
      ∙ ap (λ xs. xs ++ filter (is_over_part file part) (cons_option (write_end ios e) [])) (was.parts file part)
      ∙ sym (filter-append (is_over_part file part) (filter_map (write_end ios) events) (cons_option (write_end ios e) []))
      ∙ ap (filter (is_over_part file part)) (sym (filter_map-append (write_end ios) events (e ∷ [])));
}

-- no more draws of a pass are issued than there are events
pub few_issued : (ios : List Started) (events : List Event) (marks : Marks) (key : ℕ × ℕ) → IsMarked ios events marks → counted marks.issued key ≤ length events
few_issued ios events marks key marked = let most = count_by-le-length (is_issue_in key) events in let is = marked.issued key in omega (arith, most, is)

same_issue : (pass : Pass) (e : Event) → is_issue_in (pass.job.clone, pass.number) e ≡ issues_of pass e
same_issue pass (Issue worker kind write piece) = refl
same_issue pass (Probe worker write piece) = refl
same_issue pass (Skip worker write) = refl
same_issue pass (End worker io outcome) = refl
same_issue pass (Verdict worker io verdict) = refl

-- the draws issued of a pass
pub issued_is : (pass : Pass) (events : List Event) → count_by (is_issue_in (pass.job.clone, pass.number)) events ≡ issued_count events pass
issued_is pass [] = refl
issued_is pass (e ∷ events) =
    let key : ℕ × ℕ = (pass.job.clone, pass.number) in
    sum_by-cons (λ x. cond (is_issue_in key x) 1 0) e events
    ∙ ap (λ (b : Bool). cond b 1 0 + count_by (is_issue_in key) events) (same_issue pass e)
    ∙ ap (λ (n : ℕ). cond (issues_of pass e) 1 0 + n) (issued_is pass events)
    ∙ sym (sum_by-cons (λ x. cond (issues_of pass x) 1 0) e events)

-- ---- one more I/O is started, which no event names

neither_some : (a b : Option Outcome) → is_some (option_or a b) ≡ false → (is_some a ≡ false) × (is_some b ≡ false)
neither_some None b h = (refl, h)
neither_some (Some x) b h = (h, cc)

some_cond : (b : Bool) (x : Outcome) → is_some (cond b (Some x) None) ≡ false → b ≡ false
some_cond true x h = h
some_cond false x h = refl

-- events that don't name an I/O, which tests say the same of
unnamed_any : (f g : Event → Bool) (n : ℕ) → ((e : Event) → is_some (end_of n e) ≡ false → is_verdict_on n e ≡ false → g e ≡ f e) → (events : List Event) → is_some (outcome_of events n) ≡ false → is_judged events n ≡ false → list_any g events ≡ list_any f events
unnamed_any f g n same [] ended judged = refl
unnamed_any f g n same (e ∷ events) ended judged =
    let ends = neither_some (end_of n e) (outcome_of events n) ended in
    let verdicts = or_parts (is_verdict_on n e) (is_judged events n) judged in
    ap (λ (b : Bool). b || list_any g events) (same e ends.0 verdicts.0)
    ∙ ap (λ (b : Bool). f e || b) (unnamed_any f g n same events ends.1 verdicts.1)

unnamed_given : {X : Type 0} (f g : Event → Option X) (n : ℕ) → ((e : Event) → is_some (end_of n e) ≡ false → is_verdict_on n e ≡ false → g e ≡ f e) → (events : List Event) → is_some (outcome_of events n) ≡ false → is_judged events n ≡ false → filter_map g events ≡ filter_map f events
unnamed_given f g n same [] ended judged = refl
unnamed_given f g n same (e ∷ events) ended judged =
    let ends = neither_some (end_of n e) (outcome_of events n) ended in
    let verdicts = or_parts (is_verdict_on n e) (is_judged events n) judged in
    ap (λ o. cons_option o (filter_map g events)) (same e ends.0 verdicts.0)
    ∙ ap (λ xs. cons_option (f e) xs) (unnamed_given f g n same events ends.1 verdicts.1)

-- the others stay where they are
others_stay : (ios : List Started) (s : Started) (id : ℕ) → (id ≡ length ios → ⊥) → slice_get (ios ++ s ∷ []) id ≡ slice_get ios id
others_stay [] s zero apart = absurd (apart refl)
others_stay [] s (suc id) apart = refl
others_stay (io ∷ ios) s zero apart = refl
others_stay (io ∷ ios) s (suc id) apart = others_stay ios s id (λ e. apart (ap (λ (n : ℕ). suc n) e))

others_by_test : (ios : List Started) (s : Started) (id : ℕ) → eqb id (length ios) ≡ false → slice_get (ios ++ s ∷ []) id ≡ slice_get ios id
others_by_test ios s id test = others_stay ios s id (λ e. let yes = eq-eqb id (length ios) e in cc)

ended_apart : (ios : List Started) (s : Started) (id worker : ℕ) (outcome : Outcome) → is_some (end_of (length ios) (End worker id outcome)) ≡ false → slice_get (ios ++ s ∷ []) id ≡ slice_get ios id
ended_apart ios s id worker outcome h = others_by_test ios s id (some_cond (eqb id (length ios)) outcome h)

same_settles : (ios : List Started) (s : Started) (write : WriteId) (e : Event) → is_some (end_of (length ios) e) ≡ false → is_verdict_on (length ios) e ≡ false → settles (ios ++ s ∷ []) write e ≡ settles ios write e
same_settles ios s write (Issue worker kind issued piece) ended judged = refl
same_settles ios s write (Probe worker probed piece) ended judged = refl
same_settles ios s write (Skip worker skipped) ended judged = refl
same_settles ios s write (Verdict worker io verdict) ended judged = refl
same_settles ios s write (End worker io outcome) ended judged = ap (is_probe_of write) (ended_apart ios s io worker outcome ended)

same_fault : (ios : List Started) (s : Started) (clone : ℕ) (e : Event) → is_some (end_of (length ios) e) ≡ false → is_verdict_on (length ios) e ≡ false → is_fault_of (ios ++ s ∷ []) clone e ≡ is_fault_of ios clone e
same_fault ios s clone (Issue worker kind issued piece) ended judged = refl
same_fault ios s clone (Probe worker probed piece) ended judged = refl
same_fault ios s clone (Skip worker skipped) ended judged = refl
same_fault ios s clone (Verdict worker io verdict) ended judged = refl
same_fault ios s clone (End worker io outcome) ended judged =
    ap (λ (o : Option Started). is_io_of clone o && is_fault outcome) (ended_apart ios s io worker outcome ended)

same_verdict : (ios : List Started) (s : Started) (clone : ℕ) (e : Event) → is_some (end_of (length ios) e) ≡ false → is_verdict_on (length ios) e ≡ false → is_verdict_of (ios ++ s ∷ []) is_bad clone e ≡ is_verdict_of ios is_bad clone e
same_verdict ios s clone (Issue worker kind issued piece) ended judged = refl
same_verdict ios s clone (Probe worker probed piece) ended judged = refl
same_verdict ios s clone (Skip worker skipped) ended judged = refl
same_verdict ios s clone (End worker io outcome) ended judged = refl
same_verdict ios s clone (Verdict worker io verdict) ended judged =
    ap (λ (o : Option Started). is_io_of clone o && is_bad verdict) (others_by_test ios s io judged)

same_write_end : (ios : List Started) (s : Started) (e : Event) → is_some (end_of (length ios) e) ≡ false → is_verdict_on (length ios) e ≡ false → write_end (ios ++ s ∷ []) e ≡ write_end ios e
same_write_end ios s (Issue worker kind issued piece) ended judged = refl
same_write_end ios s (Probe worker probed piece) ended judged = refl
same_write_end ios s (Skip worker skipped) ended judged = refl
same_write_end ios s (Verdict worker io verdict) ended judged = refl
same_write_end ios s (End worker io outcome) ended judged =
    ap (λ (o : Option Started). if_write io o (ended_whole (Some outcome))) (ended_apart ios s io worker outcome ended)

-- with one more I/O
pub marked_started : (ios : List Started) (s : Started) (events : List Event) (marks : Marks) → IsMarked ios events marks → is_named marks (length ios) ≡ false → IsMarked (ios ++ s ∷ []) events marks
marked_started ios s events marks was unnamed =
    let n : ℕ = length ios in
    let parts = or_parts (is_some (get nat_eq marks.outcomes n)) (contains nat_eq marks.judged n) unnamed in
    let ended : is_some (outcome_of events n) ≡ false = ap (λ (o : Option Outcome). is_some o) (sym (was.outcomes n)) ∙ parts.0 in
    let judged : is_judged events n ≡ false = sym (was.judged n) ∙ parts.1 in
    let more : List Started = ios ++ s ∷ [] in
    let same_ends : filter_map (write_end more) events ≡ filter_map (write_end ios) events =
    unnamed_given (write_end ios) (write_end more) n (same_write_end ios s) events ended judged in
    record {
      outcomes = was.outcomes;
      judged = was.judged;
      issued = was.issued;
      taken_up = was.taken_up;
      settled = λ write. was.settled write ∙ sym (unnamed_any (settles ios write) (settles more write) n (same_settles ios s write) events ended judged);
      faulty = λ clone. was.faulty clone ∙ sym (unnamed_any (is_fault_of ios clone) (is_fault_of more clone) n (same_fault ios s clone) events ended judged);
      condemned = λ clone. was.condemned clone ∙ sym (unnamed_any (is_verdict_of ios is_bad clone) (is_verdict_of more is_bad clone) n (same_verdict ios s clone) events ended judged);
      written = was.written ∙ sym same_ends;
      parts = λ file part. was.parts file part ∙ ap (filter (is_over_part file part)) (sym same_ends);
    }

-- ---- the ledger of one more event

-- where the event starts nothing
pub ready_same : (history : List Event) (e : Event) (ios : List Started) (marks : Marks) → IsLedger history ios marks → started_by e ≡ None → (ios ≡ started (history ++ e ∷ [])) × IsMarked ios history marks
ready_same history e ios marks ledger none = (
  ledger.all_started ∙ sym (started-more history e ∙ ap (λ (o : Option Started). started history ++ cons_option o []) none ∙ append-nil (started history)),
  subst (λ (xs : List Started). IsMarked xs history marks) (sym ledger.all_started) ledger.all_marked,
)

-- where it starts an I/O that no event names
pub ready_more : (history : List Event) (e : Event) (io : Started) (ios more : List Started) (marks : Marks) → IsLedger history ios marks → started_by e ≡ Some io → is_named marks (length ios) ≡ false → more ≡ ios ++ io ∷ [] → (more ≡ started (history ++ e ∷ [])) × IsMarked more history marks
ready_more history e io ios more marks ledger some unnamed grown = (
  grown ∙ ap (λ (xs : List Started). xs ++ io ∷ []) ledger.all_started
      ∙ sym (started-more history e ∙ ap (λ (o : Option Started). started history ++ cons_option o []) some),
  subst (λ (xs : List Started). IsMarked xs history marks) (sym grown)
      (marked_started ios io history marks (subst (λ (xs : List Started). IsMarked xs history marks) (sym ledger.all_started) ledger.all_marked) unnamed),
)

pub ledger_more : (history events : List Event) (e : Event) (ios : List Started) (old new : Marks) → events ≡ history ++ e ∷ [] → (ios ≡ started (history ++ e ∷ [])) × IsMarked ios history old → IsMarkedBy ios e old new → IsLedger events ios new
ledger_more history events e ios old new grown ready by =
    subst (λ (hs : List Event). IsLedger hs ios new) (sym grown)
    (record {
      all_started = ready.0;
      all_marked = subst (λ (xs : List Started). IsMarked xs (history ++ e ∷ []) new) ready.0 (marked_more ios history e old new ready.1 by);
    })
