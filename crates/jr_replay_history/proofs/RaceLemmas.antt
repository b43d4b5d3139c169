-- What races by the start of an I/O, by what is unfinished; and what raced after one more event.
use Rattle.std.proofs.Common.{◌≡◌, ℕ, zero, suc, ◌+◌, ◌<◌, List, [], ◌∷◌, ◌++◌, length, Bool, true, false, cond, refl, sym, ap, ◌∙◌, arith, eq-eqb}
use Rattle.std.specs.Prelude.{Option, Some, None, is_none, nat_eq, ◌||◌, ◌&&◌, slice_get, filter}
use Rattle.std.specs.HashSet.{HashSet, contains}
use Rattle.std.specs.List.{list_any, enumerate_from}
use Rattle.std.proofs.lemmas.Bool.{eqb-true, lt-ltb, ne_eqb}
use Rattle.std.proofs.lemmas.Option.{slice_get_past, slice_get_within}
use Rattle.std.proofs.Math.Bool.{or-false, and-false}
use Rattle.jr_model.specs.declared.events.Event.{Event}
use Rattle.jr_model.specs.declared.events.Started.{Started}
use Rattle.jr_model.specs.History.{started, started_by, outcome_of, flies, in_flight, if_flying, if_awaiting}
use Rattle.jr_model.specs.Races.{has_raced, races_by, writes_over, writes_over_io}
use Rattle.jr_model.proofs.RaceLaws.{raced_push}
use Rattle.jr_replay_history.specs.Raced.{AreRaced, is_overlaid, is_overlaid_at}
use Rattle.jr_replay_history.specs.Unfinished.{is_unfinished, unfinished}
use Rattle.jr_replay_history.proofs.UnfinishedLemmas.{none_left}

-- ---- tests

any_step : {X : Type 0} (f : X → Bool) (x : X) (kept : List X) (all b : Bool) → (b ≡ false → f x ≡ false) → list_any f kept ≡ all → list_any f (cond b (x ∷ kept) kept) ≡ (f x || all)
any_step f x kept all true none so = ap (λ (a : Bool). f x || a) so
any_step f x kept all false none so = so ∙ ap (λ (a : Bool). a || all) (sym (none refl))

-- a test that keeps all that another one passes
any_of_kept : {X : Type 0} (f p : X → Bool) → ((x : X) → p x ≡ false → f x ≡ false) → (xs : List X) → list_any f (filter p xs) ≡ list_any f xs
any_of_kept f p none [] = refl
any_of_kept f p none (x ∷ xs) = any_step f x (filter p xs) (list_any f xs) (p x) (none x) (any_of_kept f p none xs)

-- ---- one number among I/Os
none_at : (history : List Event) (new : Started) (m k : ℕ) (ios : List Started) → k < m → list_any (is_overlaid_at history new k) (enumerate_from m ios) ≡ false
none_at history new m k [] below = refl
none_at history new m k (io ∷ ios) below =
    ap (λ (b : Bool). (b && is_overlaid history new (m, io)) || list_any (is_overlaid_at history new k) (enumerate_from (m + 1) ios)) (ne_eqb m k (λ same. omega (arith, same, below)))
    ∙ none_at history new (m + 1) k ios (omega (arith, below))

if_overlaid : List Event → Started → ℕ → Option Started → Bool
if_overlaid history new k None = false
if_overlaid history new k (Some io) = is_overlaid history new (k, io)

any_at : (history : List Event) (new : Started) (m j k : ℕ) (ios : List Started) → k ≡ m + j → list_any (is_overlaid_at history new k) (enumerate_from m ios) ≡ if_overlaid history new k (slice_get ios j)
unfolding if_overlaid
any_at history new m j k [] is = refl
any_at history new m zero k (io ∷ ios) is =
    let same : m ≡ k = omega (arith, is) in
    let rest : Bool = list_any (is_overlaid_at history new k) (enumerate_from (m + 1) ios) in
    ap (λ (b : Bool). (b && is_overlaid history new (m, io)) || rest) (eq-eqb m k same)
    ∙ ap (λ (b : Bool). is_overlaid history new (m, io) || b) (none_at history new (m + 1) k ios (omega (arith, same)))
    ∙ or-false (is_overlaid history new (m, io))
    ∙ ap (λ (n : ℕ). is_overlaid history new (n, io)) same
any_at history new m (suc j) k (io ∷ ios) is =
    ap (λ (b : Bool). (b && is_overlaid history new (m, io)) || list_any (is_overlaid_at history new k) (enumerate_from (m + 1) ios)) (ne_eqb m k (λ same. omega (arith, same, is)))
    ∙ any_at history new (m + 1) j k ios (omega (arith, is))

flying_overlaid : (history : List Event) (new : Started) (k : ℕ) (o : Option Started) → slice_get (started history) k ≡ o → if_overlaid history new k o ≡ (writes_over_io o new && flies history k)
unfolding if_overlaid
flying_overlaid history new k None at = refl
flying_overlaid history new k (Some io) at =
    ap (λ (b : Bool). writes_over io.piece new && (b && is_none (outcome_of history k))) (sym (lt-ltb k (length (started history)) (slice_get_within (started history) k io at)))

some_unless : (b : Bool) (io : Started) → cond b (Some io) None ≡ None → b ≡ false
some_unless true io h = cc
some_unless false io h = refl

not_overlaid : (history : List Event) (new : Started) (k : ℕ) (x : ℕ × Started) → is_unfinished history x ≡ false → is_overlaid_at history new k x ≡ false
unfolding is_unfinished
not_overlaid history new k x h =
    ap (λ (b : Bool). nat_eq x.0 k && (writes_over x.1.piece new && b)) (some_unless (is_none (outcome_of history x.0)) x.1 (none_left (if_flying history x) (if_awaiting history x) h))
    ∙ ap (λ (b : Bool). nat_eq x.0 k && b) (and-false (writes_over x.1.piece new))
    ∙ and-false (nat_eq x.0 k)

-- the unfinished I/O of a number is overlaid where it is in flight and what starts writes where it lies
overlaid_is : (history : List Event) (new : Started) (k : ℕ) → list_any (is_overlaid_at history new k) (unfinished history) ≡ (writes_over_io (slice_get (started history) k) new && flies history k)
overlaid_is history new k =
    any_of_kept (is_overlaid_at history new k) (is_unfinished history) (not_overlaid history new k) (enumerate_from 0 (started history))
    ∙ any_at history new 0 k k (started history) (omega arith)
    ∙ flying_overlaid history new k (slice_get (started history) k) refl

-- ---- all that races by a start
either : (old same own others : Bool) → (same ≡ true → others ≡ false) → ((old || others) || (same && own)) ≡ (old || cond same own others)
either old true own others none = ap (λ (b : Bool). (old || b) || own) (none refl) ∙ ap (λ (b : Bool). b || own) (or-false old)
either old false own others none = or-false (old || others)

none_new : (history : List Event) (new : Started) (k : ℕ) → nat_eq (length (started history)) k ≡ true → (writes_over_io (slice_get (started history) k) new && flies history k) ≡ false
none_new history new k same =
    ap (λ (o : Option Started). writes_over_io o new && flies history k)
    (slice_get_past (started history) k (omega (arith, eqb-true (length (started history)) k same)))

pub races_marked : (history : List Event) (new : Started) (pending : List (ℕ × Started)) (flying : List Started) (n k : ℕ) (old : Bool) → pending ≡ unfinished history → flying ≡ in_flight history → n ≡ length (started history) → ((old || list_any (is_overlaid_at history new k) pending) || (nat_eq n k && list_any (writes_over new.piece) flying)) ≡ (old || races_by history k (Some new))
races_marked history new pending flying n k old are fly number =
    let others : Bool = writes_over_io (slice_get (started history) k) new && flies history k in
    ap (λ (xs : List (ℕ × Started)). (old || list_any (is_overlaid_at history new k) xs) || (nat_eq n k && list_any (writes_over new.piece) flying)) are
    ∙ ap (λ (b : Bool). (old || b) || (nat_eq n k && list_any (writes_over new.piece) flying)) (overlaid_is history new k)
    ∙ ap (λ (xs : List Started). (old || others) || (nat_eq n k && list_any (writes_over new.piece) xs)) fly
    ∙ ap (λ (m : ℕ). (old || others) || (nat_eq m k && list_any (writes_over new.piece) (in_flight history))) number
    ∙ either old (nat_eq (length (started history)) k) (list_any (writes_over new.piece) (in_flight history)) others (none_new history new k)

-- ---- with one more event
pub raced_more : {S : Type 0} (history after : List Event) (e : Event) (old new : HashSet ℕ S) → AreRaced history old → after ≡ history ++ e ∷ [] → ((io : ℕ) → contains nat_eq new io ≡ (contains nat_eq old io || races_by history io (started_by e))) → AreRaced after new
raced_more history after e old new were grown by = λ io.
    by io
    ∙ ap (λ (b : Bool). b || races_by history io (started_by e)) (were io)
    ∙ sym (raced_push history e io)
    ∙ ap (λ (h : List Event). has_raced h io) (sym grown)
