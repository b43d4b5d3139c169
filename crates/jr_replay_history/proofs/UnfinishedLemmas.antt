-- What is unfinished after one more event: only what was, and what the event starts.
use Rattle.std.proofs.Common.{◌≡◌, ℕ, ◌+◌, List, [], ◌∷◌, ◌++◌, length, Bool, true, false, cond, not, refl, sym, ap, ◌∙◌, arith, append-nil}
use Rattle.std.specs.Prelude.{Option, Some, None, is_some, is_none, ◌||◌, ◌&&◌, filter, filter_map}
use Rattle.std.specs.List.{cons_option, enumerate_from}
use Rattle.std.specs.Option.{option_or}
use Rattle.std.proofs.lemmas.List.Elements.{filter-append}
use Rattle.jr_model.specs.declared.events.Event.{Event}
use Rattle.jr_model.specs.declared.events.Outcome.{Outcome}
use Rattle.jr_model.specs.declared.events.Started.{Started}
use Rattle.jr_model.specs.History.{started, started_by, outcome_of, end_of, is_judged, is_verdict_on, is_judged_kind, ended_whole, if_flying, in_flight, if_awaiting, awaiting}
use Rattle.jr_model.proofs.HistoryLemmas.{outcome_of-more, is_judged-more, started-more}
use Rattle.jr_model.proofs.ListLemmas.{enumerate_more}
use Rattle.jr_replay_history.specs.Unfinished.{is_unfinished, unfinished}

-- ---- lists
filter_step : {X : Type 0} (p : X → Bool) (x : X) (xs kept all : List X) (a b : Bool) → p x ≡ a → (a ≡ true → b ≡ true) → filter p kept ≡ all → filter p (cond b (x ∷ kept) kept) ≡ cond a (x ∷ all) all
filter_step p x xs kept all true true is implied so = ap (λ (c : Bool). cond c (x ∷ filter p kept) (filter p kept)) is ∙ ap (λ ys. x ∷ ys) so
filter_step p x xs kept all true false is implied so = let no = implied refl in cc
filter_step p x xs kept all false true is implied so = ap (λ (c : Bool). cond c (x ∷ filter p kept) (filter p kept)) is ∙ so
filter_step p x xs kept all false false is implied so = so

-- a test that implies another, after that
filter_twice : {X : Type 0} (p q : X → Bool) → ((x : X) → p x ≡ true → q x ≡ true) → (xs : List X) → filter p (filter q xs) ≡ filter p xs
filter_twice p q implied [] = refl
filter_twice p q implied (x ∷ xs) = filter_step p x xs (filter q xs) (filter p xs) (p x) (q x) refl (implied x) (filter_twice p q implied xs)

given_step : {X Y : Type 0} (f : X → Option Y) (x : X) (kept : List X) (all : List Y) (b : Bool) → (b ≡ false → f x ≡ None) → filter_map f kept ≡ all → filter_map f (cond b (x ∷ kept) kept) ≡ cons_option (f x) all
given_step f x kept all true none so = ap (λ ys. cons_option (f x) ys) so
given_step f x kept all false none so = so ∙ ap (λ o. cons_option o all) (sym (none refl))

-- a test that keeps all that a function gives something of
given_of_kept : {X Y : Type 0} (f : X → Option Y) (p : X → Bool) → ((x : X) → p x ≡ false → f x ≡ None) → (xs : List X) → filter_map f (filter p xs) ≡ filter_map f xs
given_of_kept f p none [] = refl
given_of_kept f p none (x ∷ xs) = given_step f x (filter p xs) (filter_map f xs) (p x) (none x) (given_of_kept f p none xs)

-- ---- one I/O
pub none_left : {X : Type 0} (a b : Option X) → (is_some a || is_some b) ≡ false → a ≡ None
none_left None b h = refl
none_left (Some x) b h = cc

none_right : {X : Type 0} (a b : Option X) → (is_some a || is_some b) ≡ false → b ≡ None
none_right a None h = refl
none_right None (Some y) h = cc
none_right (Some x) (Some y) h = cc

still_awaits : (io : Started) (checked whole judged more : Bool) → is_some (cond (checked && whole && not (judged || more)) (Some io) None) ≡ true → is_some (cond (checked && whole && not judged) (Some io) None) ≡ true
still_awaits io true true false more h = refl
still_awaits io true true true more h = h
still_awaits io true false judged more h = h
still_awaits io false whole judged more h = h

was_open : (io : Started) (o next : Option Outcome) (judged more : Bool) → (is_some (cond (is_none (option_or o next)) (Some io) None) || is_some (cond (is_judged_kind io.kind && ended_whole (option_or o next) && not (judged || more)) (Some io) None)) ≡ true → (is_some (cond (is_none o) (Some io) None) || is_some (cond (is_judged_kind io.kind && ended_whole o && not judged) (Some io) None)) ≡ true
was_open io None next judged more h = refl
was_open io (Some outcome) next judged more h = still_awaits io (is_judged_kind io.kind) (ended_whole (Some outcome)) judged more h

-- what is unfinished after an event was so before
was_unfinished : (history : List Event) (e : Event) (numbered : ℕ × Started) → is_unfinished (history ++ e ∷ []) numbered ≡ true → is_unfinished history numbered ≡ true
unfolding is_unfinished
was_unfinished history e numbered h =
    let test : Option Outcome → Bool → Bool =
    λ o judged. is_some (cond (is_none o) (Some numbered.1) None) || is_some (cond (is_judged_kind numbered.1.kind && ended_whole o && not judged) (Some numbered.1) None) in
    was_open numbered.1 (outcome_of history numbered.0) (end_of numbered.0 e) (is_judged history numbered.0) (is_verdict_on numbered.0 e)
    (ap (λ (o : Option Outcome). test o (is_judged history numbered.0 || is_verdict_on numbered.0 e)) (sym (outcome_of-more history e numbered.0))
    ∙ ap (λ (b : Bool). test (outcome_of (history ++ e ∷ []) numbered.0) b) (sym (is_judged-more history e numbered.0))
    ∙ h)

-- ---- histories
pub flying_is : (history : List Event) → filter_map (if_flying history) (unfinished history) ≡ in_flight history
unfolding is_unfinished
flying_is history =
    given_of_kept (if_flying history) (is_unfinished history) (λ x h. none_left (if_flying history x) (if_awaiting history x) h) (enumerate_from 0 (started history))

pub waiting_is : (history : List Event) → filter_map (if_awaiting history) (unfinished history) ≡ awaiting history
unfolding is_unfinished
waiting_is history =
    given_of_kept (if_awaiting history) (is_unfinished history) (λ x h. none_right (if_flying history x) (if_awaiting history x) h) (enumerate_from 0 (started history))

-- after an event that starts nothing
pub unfinished_same : (history : List Event) (e : Event) → started_by e ≡ None → filter (is_unfinished (history ++ e ∷ [])) (unfinished history) ≡ unfinished (history ++ e ∷ [])
unfinished_same history e none =
    let after : List Event = history ++ e ∷ [] in
    let same : started after ≡ started history =
    started-more history e ∙ ap (λ (o : Option Started). started history ++ cons_option o []) none ∙ append-nil (started history) in
    filter_twice (is_unfinished after) (is_unfinished history) (was_unfinished history e) (enumerate_from 0 (started history))
    ∙ ap (λ (ios : List Started). filter (is_unfinished after) (enumerate_from 0 ios)) (sym same)

-- after an event that starts an I/O
pub unfinished_more : (history : List Event) (e : Event) (io : Started) (n : ℕ) → started_by e ≡ Some io → n ≡ length (started history) → filter (is_unfinished (history ++ e ∷ [])) (unfinished history ++ (n, io) ∷ []) ≡ unfinished (history ++ e ∷ [])
unfinished_more history e io n some is =
    let after : List Event = history ++ e ∷ [] in
    let more : started after ≡ started history ++ io ∷ [] =
    started-more history e ∙ ap (λ (o : Option Started). started history ++ cons_option o []) some in
    let place : n ≡ 0 + length (started history) = omega (arith, is) in
    let p : ℕ × Started → Bool = is_unfinished after in
    filter-append p (unfinished history) ((n, io) ∷ [])
    ∙ ap (λ (xs : List (ℕ × Started)). xs ++ filter p ((n, io) ∷ [])) (filter_twice p (is_unfinished history) (was_unfinished history e) (enumerate_from 0 (started history)))
    ∙ sym (filter-append p (enumerate_from 0 (started history)) ((n, io) ∷ []))
    ∙ ap (λ (k : ℕ). filter p (enumerate_from 0 (started history) ++ (k, io) ∷ [])) place
    ∙ ap (filter p) (sym (enumerate_more 0 (started history) io))
    ∙ ap (λ (ios : List Started). filter p (enumerate_from 0 ios)) (sym more)

-- the same of lists that are those
pub followed_same : (history after : List Event) (e : Event) (pending now : List (ℕ × Started)) → pending ≡ unfinished history → now ≡ pending → after ≡ history ++ e ∷ [] → started_by e ≡ None → filter (is_unfinished after) now ≡ unfinished after
followed_same history after e pending now all same grown none =
    ap (filter (is_unfinished after)) (same ∙ all)
    ∙ ap (λ (h : List Event). filter (is_unfinished h) (unfinished history)) grown
    ∙ unfinished_same history e none
    ∙ ap unfinished (sym grown)

pub followed_more : (history after : List Event) (e : Event) (io : Started) (n : ℕ) (pending now : List (ℕ × Started)) → pending ≡ unfinished history → now ≡ pending ++ (n, io) ∷ [] → after ≡ history ++ e ∷ [] → started_by e ≡ Some io → n ≡ length (started history) → filter (is_unfinished after) now ≡ unfinished after
followed_more history after e io n pending now all more grown some place =
    ap (filter (is_unfinished after)) (more ∙ ap (λ (xs : List (ℕ × Started)). xs ++ (n, io) ∷ []) all)
    ∙ ap (λ (h : List Event). filter (is_unfinished h) (unfinished history ++ (n, io) ∷ [])) grown
    ∙ unfinished_more history e io n some place
    ∙ ap unfinished (sym grown)
