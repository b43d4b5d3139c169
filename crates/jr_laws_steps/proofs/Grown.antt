-- What one event more makes of what was started, ended and judged; and that an End and a Verdict name a started I/O.
use Rattle.std.proofs.Common.{◌≡◌, ℕ, ◌+◌, ◌<◌, ◌≤◌, List, [], ◌∷◌, ◌++◌, length, Bool, true, false, cond, ◌&&◌, ◌||◌, not, refl, ◌∙◌, ap, arith, length-append}
use Rattle.std.specs.Prelude.{Option, Some, None, slice_get, nat_lt, ◌==◌, is_none, filter_map, count_by}
use Rattle.std.specs.List.{list_all, list_any, cons_option}
use Rattle.std.proofs.lemmas.Bool.{and_parts, and_from, eqb-true, eq-eqb, ne_eqb, lt-ltb, ltb-true, not-true, false_from_ne_true}
use Rattle.std.proofs.lemmas.List.Elements.{filter_map-append}
use Rattle.std.proofs.lemmas.List.Folds.{list_any-append, list_all-append}
use Rattle.std.proofs.lemmas.List.Sums.{sum_by-cons, sum_by_push}
use Rattle.std.proofs.Math.Bool.{or-false}
use Rattle.std.proofs.lemmas.Option.{slice_get_within}
use Rattle.jr_model.specs.declared.events.Event.{Event}
use Rattle.jr_model.specs.declared.events.Event.TheVariants.{Issue, Probe, Skip, End, Verdict}
use Rattle.jr_model.specs.declared.events.Outcome.{Outcome}
use Rattle.jr_model.specs.declared.events.Outcome.TheVariants.{Whole}
use Rattle.jr_model.specs.declared.events.Started.{Started}
use Rattle.jr_model.specs.declared.events.Verdict.{Verdict as GivenVerdict}
use Rattle.jr_model.specs.History.{started, started_by, outcome_of, flies, is_verdict_on, is_judged, is_judged_kind, ended_whole}
use Rattle.jr_model.specs.Legal.{is_legal, may_happen, end_fits, verdict_fits, outcome_fits, job_says, is_void}
use Rattle.jr_model.specs.Plan.{Plan, clone_of}
use Rattle.jr_model.specs.Races.{has_raced}
use Rattle.jr_model.proofs.SerialLaws.{whole_some}
use Rattle.jr_model.proofs.OptionLemmas.{none_from}
use Rattle.jr_model.proofs.HistoryLemmas.{started-more, outcome_of-stays, is_judged-more, legal_is_well, by_events}
use Rattle.jr_model.proofs.ListLemmas.{all_weaker}

-- the End of another I/O
pub outcome_of-other : (history : List Event) (worker id : ℕ) (outcome : Outcome) (io : ℕ) → (id ≡ io → ⊥) → outcome_of (history ++ End worker id outcome ∷ []) io ≡ outcome_of history io
outcome_of-other history worker id outcome io apart =
    outcome_of-stays history (End worker id outcome) io (ap {B = Option Outcome} (λ (b : Bool). cond b (Some outcome) None) (ne_eqb id io apart))

pub is_judged-stays : (history : List Event) (e : Event) (io : ℕ) → is_verdict_on io e ≡ false → is_judged (history ++ e ∷ []) io ≡ is_judged history io
is_judged-stays history e io none =
    is_judged-more history e io ∙ ap (λ (b : Bool). is_judged history io || b) none ∙ or-false (is_judged history io)

pub is_judged-other : (history : List Event) (worker id : ℕ) (verdict : GivenVerdict) (io : ℕ) → (id ≡ io → ⊥) → is_judged (history ++ Verdict worker id verdict ∷ []) io ≡ is_judged history io
is_judged-other history worker id verdict io apart =
    is_judged-stays history (Verdict worker id verdict) io (ne_eqb id io apart)

pub is_judged-verdict : (history : List Event) (worker io : ℕ) (verdict : GivenVerdict) → is_judged (history ++ Verdict worker io verdict ∷ []) io ≡ true
is_judged-verdict history worker io verdict =
    is_judged-more history (Verdict worker io verdict) io ∙ ap (λ (b : Bool). is_judged history io || b) (eq-eqb io io refl) ∙ or_is_true (is_judged history io)
  where
    or_is_true : (b : Bool) → (b || true) ≡ true
    or_is_true true = refl
    or_is_true false = refl

pub not_ended_yet : (plan : Plan) (history : List Event) (io : ℕ) → is_legal plan history ≡ true → length (started history) ≤ io → outcome_of history io ≡ None
not_ended_yet plan history io legal past =
    none_from (outcome_of history io)
    (λ (o : Outcome) (at : outcome_of history io ≡ Some o). let below : io < length (started history) = (legal_is_well plan history legal).ends io o at in omega (arith, below, past))

pub not_judged_yet : (plan : Plan) (history : List Event) (io : ℕ) → is_legal plan history ≡ true → length (started history) ≤ io → is_judged history io ≡ false
not_judged_yet plan history io legal past =
    false_from_ne_true (is_judged history io)
    (λ (at : is_judged history io ≡ true). let below : io < length (started history) = (legal_is_well plan history legal).judged io at in omega (arith, below, past))

-- an End that may happen names an I/O that was started by its worker and flies
pub record EndsIo (history : List Event) (worker io : ℕ) (outcome : Outcome) : Type 0 where
  pub ended : Started
  pub there : slice_get (started history) io ≡ Some ended
  pub worker_is : ended.worker ≡ worker
  pub fits : outcome_fits outcome ended.piece.len ≡ true
  pub flies : outcome_of history io ≡ None

pub end_names : (plan : Plan) (history : List Event) (worker io : ℕ) (outcome : Outcome) → may_happen plan history (End worker io outcome) ≡ true → EndsIo history worker io outcome
end_names plan history worker io outcome may =
    let parts = and_parts (flies history io) (end_fits worker outcome (slice_get (started history) io)) may in
    let flying = and_parts (nat_lt io (length (started history))) (is_none (outcome_of history io)) parts.0 in
    by_io (slice_get (started history) io) refl parts.1 (by_outcome (outcome_of history io) flying.1)
  where
    by_outcome : (o : Option Outcome) → is_none o ≡ true → o ≡ None
    by_outcome None h = refl
    by_outcome (Some o) h = cc

    by_io : (o : Option Started) → slice_get (started history) io ≡ o → end_fits worker outcome o ≡ true → outcome_of history io ≡ None → EndsIo history worker io outcome
    by_io None at fits flying = cc
    by_io (Some s) at fits flying =
        let parts = and_parts (s.worker == worker) (outcome_fits outcome s.piece.len) fits in
        record { ended = s; there = at; worker_is = eqb-true s.worker worker parts.0; fits = parts.1; flies = flying }

-- a Verdict that may happen names a check or checked read that ended whole and has none
pub record JudgesIo (plan : Plan) (history : List Event) (io : ℕ) (verdict : GivenVerdict) : Type 0 where
  pub judged : Started
  pub there : slice_get (started history) io ≡ Some judged
  pub check : is_judged_kind judged.kind ≡ true
  pub said : cond (has_raced history io) (is_void verdict) (job_says (clone_of plan judged.write.clone) judged.kind judged.piece.len verdict) ≡ true
  pub ended : outcome_of history io ≡ Some Whole
  pub unjudged : is_judged history io ≡ false

pub verdict_names : (plan : Plan) (history : List Event) (worker io : ℕ) (verdict : GivenVerdict) → may_happen plan history (Verdict worker io verdict) ≡ true → JudgesIo plan history io verdict
verdict_names plan history worker io verdict may =
    let parts = and_parts (ended_whole (outcome_of history io) && not (is_judged history io)) (verdict_fits plan (has_raced history io) verdict (slice_get (started history) io)) may in
    let front = and_parts (ended_whole (outcome_of history io)) (not (is_judged history io)) parts.0 in
    by_io (slice_get (started history) io) refl parts.1 (whole_some (outcome_of history io) front.0) (not-true (is_judged history io) front.1)
  where
    by_io : (o : Option Started) → slice_get (started history) io ≡ o → verdict_fits plan (has_raced history io) verdict o ≡ true → outcome_of history io ≡ Some Whole → is_judged history io ≡ false → JudgesIo plan history io verdict
    by_io None at fits whole unjudged = cc
    by_io (Some s) at fits whole unjudged =
        let parts = and_parts (is_judged_kind s.kind) (cond (has_raced history io) (is_void verdict) (job_says (clone_of plan s.write.clone) s.kind s.piece.len verdict)) fits in
        record { judged = s; there = at; check = parts.0; said = parts.1; ended = whole; unjudged = unjudged }

-- the event names no I/O that isn't among the first n
abbrev pub is_known : ℕ → Event → Bool
is_known n (End worker io outcome) = nat_lt io n
is_known n (Verdict worker io verdict) = nat_lt io n
is_known n (Issue worker dir write piece) = true
is_known n (Probe worker write piece) = true
is_known n (Skip worker write) = true

known_more : (n m : ℕ) (e : Event) → n ≤ m → is_known n e ≡ true → is_known m e ≡ true
known_more n m (End worker io outcome) le h = lt-ltb io m (omega (arith, ltb-true io n h, le))
known_more n m (Verdict worker io verdict) le h = lt-ltb io m (omega (arith, ltb-true io n h, le))
known_more n m (Issue worker dir write piece) le h = refl
known_more n m (Probe worker write piece) le h = refl
known_more n m (Skip worker write) le h = refl

pub known_now : (plan : Plan) (history : List Event) (e : Event) → may_happen plan history e ≡ true → is_known (length (started history)) e ≡ true
known_now plan history (End worker io outcome) may =
    let names = end_names plan history worker io outcome may in
    lt-ltb io (length (started history)) (slice_get_within (started history) io names.ended names.there)
known_now plan history (Verdict worker io verdict) may =
    let names = verdict_names plan history worker io verdict may in
    lt-ltb io (length (started history)) (slice_get_within (started history) io names.judged names.there)
known_now plan history (Issue worker dir write piece) may = refl
known_now plan history (Probe worker write piece) may = refl
known_now plan history (Skip worker write) may = refl

-- with one event more, each names one of the I/Os that were started before it
known_and : (plan : Plan) (history : List Event) (e : Event) → list_all (is_known (length (started history))) history ≡ true → may_happen plan history e ≡ true → list_all (is_known (length (started history))) (history ++ e ∷ []) ≡ true
known_and plan history e known may =
    let n = length (started history) in
    list_all-append (is_known n) history (e ∷ [])
    ∙ and_from (list_all (is_known n) history) (is_known n e && true) known
    (and_from (is_known n e) true (known_now plan history e may) refl)

-- each End and Verdict of a legal history names an I/O that was started
pub all_known : (plan : Plan) (history : List Event) → is_legal plan history ≡ true → list_all (is_known (length (started history))) history ≡ true
all_known plan history legal =
    by_events plan (λ (h : List Event). list_all (is_known (length (started h))) h ≡ true) refl
    (λ h e so_far known may. grows h e known may) history legal
  where
    grows : (h : List Event) (e : Event) → list_all (is_known (length (started h))) h ≡ true → may_happen plan h e ≡ true → list_all (is_known (length (started (h ++ e ∷ [])))) (h ++ e ∷ []) ≡ true
    grows h e known may =
        let n = length (started h) in
        let m = length (started (h ++ e ∷ [])) in
        let le : n ≤ m = omega (arith, ap length (started-more h e), length-append (started h) (cons_option (started_by e) [])) in
        all_weaker (is_known n) (is_known m) (h ++ e ∷ []) (λ x. known_more n m x le) (known_and plan h e known may)

pub all_known-more : (plan : Plan) (history : List Event) (e : Event) → is_legal plan history ≡ true → may_happen plan history e ≡ true → list_all (is_known (length (started history))) (history ++ e ∷ []) ≡ true
all_known-more plan history e legal may = known_and plan history e (all_known plan history legal) may

-- what is said of an event by the I/Os that were started is the same where more were started
abbrev pub Agrees : {X : Type 0} → (List Started → Event → X) → Type 0
Agrees F = (ios more : List Started) (e : Event) → is_known (length ios) e ≡ true → F (ios ++ more) e ≡ F ios e

kept_same : {X Y : Type 0} (known : X → Bool) (f g : X → Option Y) (xs : List X) → ((x : X) → known x ≡ true → f x ≡ g x) → list_all known xs ≡ true → filter_map f xs ≡ filter_map g xs
kept_same known f g [] same h = refl
kept_same {Y = Y} known f g (x ∷ xs) same h =
    let parts = and_parts (known x) (list_all known xs) h in
    ap (λ (o : Option Y). cons_option o (filter_map f xs)) (same x parts.0)
    ∙ ap (cons_option (g x)) (kept_same known f g xs same parts.1)

any_same : {X : Type 0} (known f g : X → Bool) (xs : List X) → ((x : X) → known x ≡ true → f x ≡ g x) → list_all known xs ≡ true → list_any f xs ≡ list_any g xs
any_same known f g [] same h = refl
any_same known f g (x ∷ xs) same h =
    let parts = and_parts (known x) (list_all known xs) h in
    ap (λ (b : Bool). b || list_any f xs) (same x parts.0)
    ∙ ap (λ (b : Bool). g x || b) (any_same known f g xs same parts.1)

count_same : {X : Type 0} (known f g : X → Bool) (xs : List X) → ((x : X) → known x ≡ true → f x ≡ g x) → list_all known xs ≡ true → count_by f xs ≡ count_by g xs
count_same known f g [] same h = refl
count_same {X = X} known f g (x ∷ xs) same h =
    let parts = and_parts (known x) (list_all known xs) h in
    let first : cond (f x) 1 0 ≡ cond (g x) 1 0 = ap {B = ℕ} (λ (b : Bool). cond b 1 0) (same x parts.0) in
    let split_f : count_by f (x ∷ xs) ≡ cond (f x) 1 0 + count_by f xs = sum_by-cons (λ (y : X). cond (f y) 1 0) x xs in
    let split_g : count_by g (x ∷ xs) ≡ cond (g x) 1 0 + count_by g xs = sum_by-cons (λ (y : X). cond (g y) 1 0) x xs in
    omega (arith, first, split_f, split_g, count_same known f g xs same parts.1)

-- what is kept, counted or found over a legal history and one event more
module _ (plan : Plan) (history : List Event) (e : Event) (legal : is_legal plan history ≡ true) (may : may_happen plan history e ≡ true) where
  pub kept-more : {Y : Type 0} (F : List Started → Event → Option Y) → Agrees F → filter_map (F (started (history ++ e ∷ []))) (history ++ e ∷ []) ≡ filter_map (F (started history)) history ++ cons_option (F (started history) e) []
  kept-more F agrees =
      let ios = started history in
      let more = cons_option (started_by e) [] in
      ap (λ (all : List Started). filter_map (F all) (history ++ e ∷ [])) (started-more history e)
      ∙ kept_same (is_known (length ios)) (F (ios ++ more)) (F ios) (history ++ e ∷ []) (λ x. agrees ios more x) (all_known-more plan history e legal may)
      ∙ filter_map-append (F ios) history (e ∷ [])

  pub found-more : (F : List Started → Event → Bool) → Agrees F → list_any (F (started (history ++ e ∷ []))) (history ++ e ∷ []) ≡ (list_any (F (started history)) history || F (started history) e)
  found-more F agrees =
      let ios = started history in
      let more = cons_option (started_by e) [] in
      ap (λ (all : List Started). list_any (F all) (history ++ e ∷ [])) (started-more history e)
      ∙ any_same (is_known (length ios)) (F (ios ++ more)) (F ios) (history ++ e ∷ []) (λ x. agrees ios more x) (all_known-more plan history e legal may)
      ∙ list_any-append (F ios) history (e ∷ [])
      ∙ ap (λ (b : Bool). list_any (F ios) history || b) (or-false (F ios e))

  pub counted-more : (F : List Started → Event → Bool) → Agrees F → count_by (F (started (history ++ e ∷ []))) (history ++ e ∷ []) ≡ count_by (F (started history)) history + cond (F (started history) e) 1 0
  counted-more F agrees =
      let ios = started history in
      let more = cons_option (started_by e) [] in
      ap (λ (all : List Started). count_by (F all) (history ++ e ∷ [])) (started-more history e)
      ∙ count_same (is_known (length ios)) (F (ios ++ more)) (F ios) (history ++ e ∷ []) (λ x. agrees ios more x) (all_known-more plan history e legal may)
      ∙ sum_by_push (λ (x : Event). cond (F ios x) 1 0) history e
