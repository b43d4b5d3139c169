-- What is in flight: where an I/O is found there, and what it has to be clear of.
use Rattle.std.proofs.Common.{◌≡◌, ℕ, zero, suc, ◌+◌, List, [], ◌∷◌, Bool, true, false, cond, ◌&&◌, ◌||◌, not, refl, sym, ◌∙◌, ap, subst, arith, zero-add}
use Rattle.std.specs.Prelude.{Option, Some, None, slice_get, is_none, is_some, filter_map}
use Rattle.std.specs.List.{list_any, cons_option, enumerate_from}
use Rattle.std.proofs.lemmas.Bool.{or_left, or_right, both_ways, not-true, false_from_ne_true}
use Rattle.jr_model.specs.declared.blocks.Piece.{Piece}
use Rattle.jr_model.specs.declared.events.Event.{Event}
use Rattle.jr_model.specs.declared.events.Outcome.{Outcome}
use Rattle.jr_model.specs.declared.events.Started.{Started}
use Rattle.jr_model.specs.History.{started, outcome_of, in_flight, if_flying}
use Rattle.jr_model.specs.Legal.{conflicts, is_clear, waits_for}
use Rattle.jr_model.specs.Plan.{Plan, SubJob, clone_of, declines_of}
use Rattle.jr_laws_quiet.specs.Declining.{none_declines}
use Rattle.jr_laws_quiet.proofs.Ends.{has_ended}

pub any_given : {X Y : Type 0} (g : ℕ × X → Option Y) (p : Y → Bool) (n k : ℕ) (xs : List X) (x : X) (y : Y) → slice_get xs k ≡ Some x → g (n + k, x) ≡ Some y → p y ≡ true → list_any p (filter_map g (enumerate_from n xs)) ≡ true
any_given g p n k [] x y at gives passes = cc
any_given {X = X} {Y = Y} g p n zero (z ∷ xs) x y at gives passes =
    let same : z ≡ x = cc in
    let here : g (n, z) ≡ Some y = subst (λ (i : ℕ). g (i, z) ≡ Some y) (omega arith) (subst (λ (w : X). g (n + 0, w) ≡ Some y) (sym same) gives) in
    first (g (n, z)) here
  where
    first : (o : Option Y) → o ≡ Some y → list_any p (cons_option o (filter_map g (enumerate_from (n + 1) xs))) ≡ true
    first None h = cc
    first (Some w) h =
        let one : w ≡ y = cc in
        or_left (p w) (list_any p (filter_map g (enumerate_from (n + 1) xs))) (subst (λ (v : Y). p v ≡ true) (sym one) passes)
any_given {X = X} {Y = Y} g p n (suc k) (z ∷ xs) x y at gives passes =
    rest (g (n, z)) (any_given g p (n + 1) k xs x y at (subst (λ (i : ℕ). g (i, x) ≡ Some y) (omega arith) gives) passes)
  where
    rest : (o : Option Y) → list_any p (filter_map g (enumerate_from (n + 1) xs)) ≡ true → list_any p (cons_option o (filter_map g (enumerate_from (n + 1) xs))) ≡ true
    rest None h = h
    rest (Some w) h = or_right (p w) (list_any p (filter_map g (enumerate_from (n + 1) xs))) h

-- what has not ended is in flight
pub given_flying : (h : List Event) (id : ℕ) (s : Started) → has_ended h id ≡ false → if_flying h (id, s) ≡ Some s
given_flying h id s flying = by_outcome (outcome_of h id) flying
  where
    by_outcome : (o : Option Outcome) → is_some o ≡ false → cond (is_none o) (Some s) None ≡ Some s
    by_outcome None g = refl
    by_outcome (Some o) g = cc

-- an I/O in flight is found among those in flight
pub found_flying : (h : List Event) (p : Started → Bool) (id : ℕ) (s : Started) → slice_get (started h) id ≡ Some s → has_ended h id ≡ false → p s ≡ true → list_any p (in_flight h) ≡ true
found_flying h p id s at flying passes =
    any_given (if_flying h) p 0 id (started h) s s at
    (subst (λ (i : ℕ). if_flying h (i, s) ≡ Some s) (sym (zero-add id)) (given_flying h id s flying)) passes

-- nothing in flight overlaps the piece where one of the two writes, whoever declines
abbrev pub is_free : List Event → Bool → Piece → Bool
is_free h writes piece = not (list_any (conflicts writes piece) (in_flight h))

-- a clone that is asked for by its number doesn't decline where none does
pub none_at : (jobs : List SubJob) (c : ℕ) → not (list_any (λ (job : SubJob). job.declines) jobs) ≡ true → declines_of (slice_get jobs c) ≡ false
none_at jobs c none =
    false_from_ne_true (declines_of (slice_get jobs c))
    (λ declines. both_ways (list_any (λ (job : SubJob). job.declines) jobs) (not-true (list_any (λ (job : SubJob). job.declines) jobs) none) (some_declines jobs c declines))
  where
    some_declines : (xs : List SubJob) (k : ℕ) → declines_of (slice_get xs k) ≡ true → list_any (λ (job : SubJob). job.declines) xs ≡ true
    some_declines [] k h = cc
    some_declines (x ∷ xs) zero h = or_left x.declines (list_any (λ (job : SubJob). job.declines) xs) h
    some_declines (x ∷ xs) (suc k) h = or_right x.declines (list_any (λ (job : SubJob). job.declines) xs) (some_declines xs k h)

-- so what is clear is free
pub clear_is_free : (plan : Plan) (h : List Event) (c : ℕ) (job : SubJob) (writes : Bool) (piece : Piece) → none_declines plan ≡ true → clone_of plan c ≡ Some job → is_clear plan h job writes piece ≡ true → is_free h writes piece ≡ true
clear_is_free plan h c job writes piece none planned clear = ap not (sym (same (in_flight h))) ∙ clear
  where
    own : job.declines ≡ false
    own = ap declines_of (sym planned) ∙ none_at plan.clones c none

    same : (ios : List Started) → list_any (waits_for plan job writes piece) ios ≡ list_any (conflicts writes piece) ios
    same [] = refl
    same (io ∷ ios) =
        ap (λ (b : Bool). (not (b || declines_of (clone_of plan io.write.clone)) && conflicts writes piece io) || list_any (waits_for plan job writes piece) ios) own
        ∙ ap (λ (b : Bool). (not b && conflicts writes piece io) || list_any (waits_for plan job writes piece) ios) (none_at plan.clones io.write.clone none)
        ∙ ap (λ (b : Bool). conflicts writes piece io || b) (same ios)
