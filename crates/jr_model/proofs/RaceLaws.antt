-- What an event adds to what raced: nothing to what has ended, and nothing where nothing is in flight.
use Rattle.std.proofs.Common.{◌≡◌, ℕ, ◌+◌, ◌<◌, ◌≤◌, List, [], ◌∷◌, ◌++◌, length, Bool, true, false, cond, ◌&&◌, ◌||◌, refl, sym, ◌∙◌, ap, subst, arith, inl, inr, append_assoc, append-nil, length-append}
use Rattle.std.specs.Prelude.{Option, Some, None, slice_get, nat_lt, is_none, filter_map}
use Rattle.std.specs.List.{list_any, cons_option, enumerate_from}
use Rattle.std.proofs.lemmas.Bool.{cases_eq, cases_lt, ne_eqb, eq-eqb, le-ltb}
use Rattle.std.proofs.lemmas.List.Elements.{filter_map-append}
use Rattle.std.proofs.lemmas.Option.{slice_get_past}
use Rattle.std.proofs.Math.Bool.{or-false, and-false}
use Rattle.jr_model.specs.declared.events.Event.{Event}
use Rattle.jr_model.specs.declared.events.Started.{Started}
use Rattle.jr_model.specs.History.{started, started_by, outcome_of, flies, if_flying, in_flight}
use Rattle.jr_model.specs.Races.{writes_over, writes_over_io, races_by, races_after, has_raced}

or_assoc_bool : (a b c : Bool) → (a || (b || c)) ≡ ((a || b) || c)
or_assoc_bool true b c = refl
or_assoc_bool false b c = refl

-- what races along a list raced along its front, or races along the rest
races_append : (before xs ys : List Event) (io : ℕ) → races_after before (xs ++ ys) io ≡ (races_after before xs io || races_after (before ++ xs) ys io)
races_append before [] ys io = ap (λ (all : List Event). races_after all ys io) (sym (append-nil before))
races_append before (x ∷ xs) ys io =
    ap (λ (b : Bool). races_by before io (started_by x) || b)
    (races_append (before ++ x ∷ []) xs ys io
    ∙ ap (λ (all : List Event). races_after (before ++ x ∷ []) xs io || races_after all ys io) (append_assoc before (x ∷ []) xs))
    ∙ or_assoc_bool (races_by before io (started_by x)) (races_after (before ++ x ∷ []) xs io) (races_after (before ++ x ∷ xs) ys io)

-- one more event adds the races that it makes
pub raced_push : (history : List Event) (e : Event) (io : ℕ) → has_raced (history ++ e ∷ []) io ≡ (has_raced history io || races_by history io (started_by e))
raced_push history e io =
    races_append [] history (e ∷ []) io
    ∙ ap (λ (b : Bool). has_raced history io || b) (or-false (races_by history io (started_by e)))

-- an event that starts nothing makes none
pub raced_other : (history : List Event) (e : Event) (io : ℕ) → started_by e ≡ None → has_raced (history ++ e ∷ []) io ≡ has_raced history io
raced_other history e io nothing =
    raced_push history e io
    ∙ ap (λ (o : Option Started). has_raced history io || races_by history io o) nothing
    ∙ or-false (has_raced history io)

-- nor does any event one with what isn't in flight and isn't started by it
pub races_with_none : (history : List Event) (io : ℕ) (new : Option Started) → (length (started history) ≡ io → ⊥) → flies history io ≡ false → races_by history io new ≡ false
races_with_none history io None apart rests = refl
races_with_none history io (Some s) apart rests =
    let ios = started history in
    ap (λ (b : Bool). cond b (list_any (writes_over s.piece) (in_flight history)) (writes_over_io (slice_get ios io) s && flies history io)) (ne_eqb (length ios) io apart)
    ∙ ap (λ (b : Bool). writes_over_io (slice_get ios io) s && b) rests
    ∙ and-false (writes_over_io (slice_get ios io) s)

-- so what has ended raced or not for good
pub raced_for_good : (history : List Event) (e : Event) (io : ℕ) → io < length (started history) → flies history io ≡ false → has_raced (history ++ e ∷ []) io ≡ has_raced history io
raced_for_good history e io below rests =
    raced_push history e io
    ∙ ap (λ (b : Bool). has_raced history io || b)
    (races_with_none history io (started_by e) (λ same. omega (arith, same, below)) rests)
    ∙ or-false (has_raced history io)

-- what isn't started yet has not raced
not_yet : (before events : List Event) (io : ℕ) → length (started (before ++ events)) ≤ io → races_after before events io ≡ false
not_yet before [] io few = refl
not_yet before (x ∷ xs) io few =
    let later : List Event = before ++ x ∷ [] in
    let whole : (later ++ xs) ≡ (before ++ x ∷ xs) = append_assoc before (x ∷ []) xs in
    let rest : races_after later xs io ≡ false =
    not_yet later xs io (subst (λ (all : List Event). length (started all) ≤ io) (sym whole) few) in
    let grown : started (before ++ x ∷ xs) ≡ started before ++ (cons_option (started_by x) (started xs)) =
    filter_map-append started_by before (x ∷ xs) in
    ap (λ (b : Bool). b || races_after later xs io) (now (started_by x) (omega (arith, few, ap length grown, length-append (started before) (cons_option (started_by x) (started xs)))))
    ∙ rest
  where
    few_more : (xs : List Started) (n : ℕ) (s : Started) → n + length (cons_option (Some s) xs) ≤ io → n < io
    few_more xs n s h = omega (arith, h)

    now : (new : Option Started) → length (started before) + length (cons_option new (started xs)) ≤ io → races_by before io new ≡ false
    now None h = refl
    now (Some s) h =
        let below : length (started before) < io = few_more (started xs) (length (started before)) s h in
        let none : slice_get (started before) io ≡ None = slice_get_past (started before) io (omega (arith, below)) in
        ap (λ (b : Bool). cond b (list_any (writes_over s.piece) (in_flight before)) (writes_over_io (slice_get (started before) io) s && flies before io))
        (ne_eqb (length (started before)) io (λ same. omega (arith, same, below)))
        ∙ ap (λ (o : Option Started). writes_over_io o s && flies before io) none

pub unstarted_is_unraced : (history : List Event) (io : ℕ) → length (started history) ≤ io → has_raced history io ≡ false
unstarted_is_unraced history io few = not_yet [] history io few

-- where nothing is in flight, what starts doesn't race
pub starts_unraced : (history : List Event) (e : Event) (s : Started) → started_by e ≡ Some s → in_flight history ≡ [] → has_raced (history ++ e ∷ []) (length (started history)) ≡ false
starts_unraced history e s starts rests =
    let n = length (started history) in
    raced_push history e n
    ∙ ap (λ (b : Bool). b || races_by history n (started_by e)) (unstarted_is_unraced history n (omega arith))
    ∙ ap (races_by history n) starts
    ∙ ap (λ (b : Bool). cond b (list_any (writes_over s.piece) (in_flight history)) (writes_over_io (slice_get (started history) n) s && flies history n)) (eq-eqb n n refl)
    ∙ ap (list_any (writes_over s.piece)) rests

-- where all that was started has ended, nothing flies under any number
pub none_flies : (history : List Event) (io : ℕ) → ((id : ℕ) → id < length (started history) → is_none (outcome_of history id) ≡ false) → flies history io ≡ false
none_flies history io ended =
    elim (cases_lt io (length (started history))) [
      | inl below ↦ ap (λ (b : Bool). nat_lt io (length (started history)) && b) (ended io below) ∙ and-false (nat_lt io (length (started history)))
      | inr past ↦ ap (λ (b : Bool). b && is_none (outcome_of history io)) (le-ltb io (length (started history)) past)
    ]

-- nothing is in flight where all that was started has ended
pub all_rest : (history : List Event) → ((io : ℕ) → io < length (started history) → is_none (outcome_of history io) ≡ false) → in_flight history ≡ []
all_rest history ended = from 0 (started history) (λ io low below. ended io (omega (arith, below)))
  where
    from : (n : ℕ) (ios : List Started) → ((io : ℕ) → n ≤ io → io < n + length ios → is_none (outcome_of history io) ≡ false) → filter_map (if_flying history) (enumerate_from n ios) ≡ []
    from n [] each = refl
    from n (s ∷ ios) each =
        ap (λ (b : Bool). cons_option (cond b (Some s) None) (filter_map (if_flying history) (enumerate_from (n + 1) ios))) (each n (omega arith) (omega arith))
        ∙ from (n + 1) ios (λ io low below. each io (omega (arith, low)) (omega (arith, below)))

-- so an event that starts an I/O then adds no race
pub still_unraced : (history : List Event) (e : Event) (s : Started) (io : ℕ) → started_by e ≡ Some s → ((id : ℕ) → id < length (started history) → is_none (outcome_of history id) ≡ false) → has_raced history io ≡ false → has_raced (history ++ e ∷ []) io ≡ false
still_unraced history e s io starts ended before =
    elim (cases_eq (length (started history)) io) [
      | inl same ↦ subst (λ (n : ℕ). has_raced (history ++ e ∷ []) n ≡ false) same (starts_unraced history e s starts (all_rest history ended))
      | inr apart ↦
          raced_push history e io
          ∙ ap (λ (b : Bool). b || races_by history io (started_by e)) before
          ∙ races_with_none history io (started_by e) apart (none_flies history io ended)
    ]
