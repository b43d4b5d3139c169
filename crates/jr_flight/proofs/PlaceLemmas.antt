-- What overlaps a piece is found among the places from the longest piece before it up to its end.
use Rattle.std.proofs.Common.{ℕ, ◌≡◌, ◌-◌, ◌<◌, ◌≤◌, Bool, true, false, cond, List, [], ◌∷◌, Some, None, refl, sym, ◌∙◌, ap, subst, arith}
use Rattle.std.specs.Prelude.{Option, IfSome, IsTrue, ◌↔◌, not, ◌&&◌, ◌||◌, ◌==◌, nat_lt, max, min, filter, Any}
use Rattle.std.specs.List.{list_any}
use Rattle.std.specs.Cmp.{IsTotalOrder}
use Rattle.std.specs.Ordering.{nat_cmp, ordering_then, is_le}
use Rattle.std.specs.declared.cmp.Ordering.TheVariants.{Less, Equal, Greater}
use Rattle.std.specs.declared.cmp.Ordering.{Ordering}
use Rattle.std.specs.declared.ops.Bound.TheVariants.{Included, Excluded}
use Rattle.std.specs.BTreeMap.{BTreeMap, get, IsOrdered}
use Rattle.std.specs.BTreeMap.Range.{range_contains}
use Rattle.std.proofs.lemmas.Bool.{and_parts, and_from, eqb-true, eq-eqb, ltb-true, not-true, both_ways, false_from_ne_true}
use Rattle.std.proofs.lemmas.Cmp.{nat_cmp_total, then_total, on_total}
use Rattle.std.proofs.lemmas.Bool.Decides.{nat_tests}
use Rattle.std.proofs.lemmas.List.Folds.{Any-from_list_any, list_any-from_Any}
use Rattle.std.proofs.lemmas.Map.Lookups.{CmpEqualImpliesEq, exact_unsigned}
use Rattle.std.proofs.lemmas.Map.Views.{All-found, Contains-from_lookup, tells_apart}
use Rattle.std.proofs.lemmas.Option.{cond_some, same_Some}
use Rattle.jr_model.specs.declared.blocks.Dir.{Dir}
use Rattle.jr_model.specs.declared.blocks.Piece.{Piece}
use Rattle.jr_model.specs.Pieces.{piece_end, pieces_overlap}
use Rattle.jr_model.proofs.BoolLemmas.{same_truth}
use Rattle.jr_flight.specs.declared.ios.Ended.{Ended}
use Rattle.jr_flight.specs.declared.ios.Io.{Io}
use Rattle.jr_flight.specs.Flights.{is_clear, is_raced, waits_for, writes, writes_over}
use Rattle.jr_flight.specs.Places.{Place, place_of, place_cmp, near_from, near_end, near_piece, if_standing, IsMeasured, IsIndexed, IsWrote}

pub place_cmp_total : IsTotalOrder place_cmp
place_cmp_total =
    then_total (then_total (on_total (λ (t : Place). t.0) nat_cmp_total) (on_total (λ (t : Place). t.1) nat_cmp_total))
    (on_total (λ (t : Place). t.2) nat_cmp_total)

-- two comparisons in turn are equal where both are
equal_parts : (a b : Ordering) → ordering_then a b ≡ Equal → (a ≡ Equal) × (b ≡ Equal)
equal_parts Less b e = (e, cc)
equal_parts Equal b e = (refl, e)
equal_parts Greater b e = (e, cc)

one_place : (f g o p i j : ℕ) → f ≡ g → o ≡ p → i ≡ j → ◌≡◌ {A = Place} (f, o, i) (g, p, j)
one_place f g o p i j e d h = cc

-- places that compare as equal are one
pub place_cmp_exact : CmpEqualImpliesEq place_cmp
place_cmp_exact x y same =
    let number = equal_parts (ordering_then (nat_cmp x.0 y.0) (nat_cmp x.1 y.1)) (nat_cmp x.2 y.2) same in
    let front = equal_parts (nat_cmp x.0 y.0) (nat_cmp x.1 y.1) number.0 in
    one_place x.0 y.0 x.1 y.1 x.2 y.2
    (exact_unsigned x.0 y.0 front.0) (exact_unsigned x.1 y.1 front.1) (exact_unsigned x.2 y.2 number.1)

-- a place with this file, and an offset from s on, is not before (file, s, 0)
pub from_start : (f s o i : ℕ) → s ≤ o → is_le (place_cmp (f, s, 0) (f, o, i)) ≡ true
from_start f s o i low = grind (arith, nat_tests)

-- and one before offset e is before (file, e, 0)
pub before_end : (f e o i : ℕ) → o < e → is_le (place_cmp (f, e, 0) (f, o, i)) ≡ false
before_end f e o i high = grind (arith, nat_tests)

-- some key has a value that passes
pub record Finds {K X : Type 0} (at : K → Option X) (passes : K × X → Bool) : Type 0 where
  pub key : K
  pub value : X
  pub there : at key ≡ Some value
  pub pass : passes (key, value) ≡ true

-- a test that passes an entry of a map finds it by its key
pub finds_entry : {K X : Type 0} {R : K → K → Ordering} → IsTotalOrder R → (m : BTreeMap K X) → IsOrdered R m
    → (p : K × X → Bool) → list_any p m.entries ≡ true → Finds (get R m) p
finds_entry {K} {X} {R} total m ordered p found =
    let any : Any (λ (e : K × X). p e ≡ true) m.entries = Any-from_list_any p m.entries found in
    record {
      key = any.1.0;
      value = any.1.1;
      there = subst (λ (e : K × X). get R m e.0 ≡ Some e.1) any.3 (All-found total m ordered any.0 any.1 any.2);
      pass = any.4;
    }

-- and what it passes at a key is an entry
pub entry_found : {K X : Type 0} {R : K → K → Ordering} → CmpEqualImpliesEq R → (m : BTreeMap K X)
    → (p : K × X → Bool) → Finds (get R m) p → list_any p m.entries ≡ true
entry_found {K} {X} {R} exact m p f =
    let here = Contains-from_lookup (tells_apart exact) f.key f.value m.entries f.there in
    list_any-from_Any p m.entries (here.0, (f.key, f.value), here.1, here.2, f.pass)

-- a test of what a filter keeps is a test of both
pub list_any-filter : {X : Type 0} (p keep : X → Bool) (xs : List X) → list_any p (filter keep xs) ≡ list_any (λ x. keep x && p x) xs
list_any-filter p keep [] = refl
list_any-filter {X} p keep (x ∷ xs) =
    let rest = list_any (λ y. keep y && p y) xs in
    elim (keep x) as (λ (k : Bool). list_any p (cond k (x ∷ filter keep xs) (filter keep xs)) ≡ ((k && p x) || rest)) [
      | true ↦ ap (λ (b : Bool). p x || b) (list_any-filter p keep xs)
      | false ↦ list_any-filter p keep xs
    ]

-- what stands at a place flies under its number
stood : (at : Place) (o : Option Ended) (io : Io) → if_standing at o ≡ Some io → (ended : Ended) × (o ≡ Some ended) × (ended.io ≡ io)
stood at None io e = cc
stood at (Some x) io e =
    (x, refl, (cond_some ((x.io.piece.file == at.0) && (x.io.piece.offset == at.1)) x.io io e).1)

-- an I/O stands at its own place
standing : (ended : Ended) → if_standing (place_of ended.io) (Some ended) ≡ Some ended.io
standing ended = grind (arith, nat_tests)

-- the places from `longest` bytes before a piece up to its end
abbrev is_near : Piece → ℕ → Place → Bool
is_near piece longest at =
    range_contains place_cmp (Included (near_from piece longest)) (Excluded (near_end piece)) at

-- what overlaps the piece and is no longer than that stands there
overlap_is_near : (piece other : Piece) (longest id : ℕ) → other.len ≤ longest → pieces_overlap other piece ≡ true
    → is_near piece longest (other.file, other.offset, id) ≡ true
overlap_is_near piece other longest id short shared =
    let start = max other.offset piece.offset in
    let end = min (piece_end other) (piece_end piece) in
    let parts = and_parts (other.file == piece.file) (nat_lt start end) shared in
    let same : other.file ≡ piece.file = eqb-true other.file piece.file parts.0 in
    let common : start < end = ltb-true start end parts.1 in
    let low = from_start piece.file (piece.offset - longest) other.offset id (omega arith) in
    let high = before_end piece.file (piece_end piece) other.offset id (omega arith) in
    subst (λ (f : ℕ). is_near piece longest (f, other.offset, id) ≡ true) (sym same) (and_from _ _ low (ap not high))

-- what passes a test overlaps the piece; so it is found near the piece, whether it passes by its number or by its place
module _ (passes : ℕ → Io → Bool) (piece : Piece)
    (within : (id : ℕ) (io : Io) → passes id io ≡ true → pieces_overlap io.piece piece ≡ true)
    (longest : ℕ) (ids : BTreeMap ℕ Ended) (places : BTreeMap Place Io) (kept : IsIndexed ids places longest) where
  abbrev flying : ℕ × Ended → Bool
  flying e = passes e.0 e.1.io

  abbrev standing_there : Place × Io → Bool
  standing_there e = passes e.0.2 e.1

  abbrev standing_near : Place × Io → Bool
  standing_near e = is_near piece longest e.0 && standing_there e

  flies_there : Finds (get place_cmp places) standing_near → Finds (get nat_cmp ids) flying
  flies_there f =
      let here = stood f.key (get nat_cmp ids f.key.2) f.value (sym (kept.placed f.key) ∙ f.there) in
      record {
        key = f.key.2;
        value = here.0;
        there = here.1;
        pass = ap (passes f.key.2) here.2 ∙ (and_parts (is_near piece longest f.key) (passes f.key.2 f.value) f.pass).1;
      }

  stands_near : Finds (get nat_cmp ids) flying → Finds (get place_cmp places) standing_near
  stands_near f =
      let io = f.value.io in
      let measured = subst (λ (o : Option Ended). IfSome o (IsMeasured longest f.key)) f.there (kept.measured f.key) in
      let flies = subst (λ (id : ℕ). get nat_cmp ids id ≡ Some f.value) (sym measured.own) f.there in
      let pass = subst (λ (id : ℕ). passes id io ≡ true) (sym measured.own) f.pass in
      let near = overlap_is_near piece io.piece longest io.id measured.short (within io.id io pass) in
      record {
        key = place_of io;
        value = io;
        there = kept.placed (place_of io) ∙ ap (if_standing (place_of io)) flies ∙ standing f.value;
        pass = and_from _ _ near pass;
      }

  -- what is found near the piece is what is found among all
  pub any_near : list_any standing_there (near_piece piece longest places.entries) ≡ list_any flying ids.entries
  any_near =
      let near = list_any standing_near places.entries in
      let all = list_any flying ids.entries in
      let there = λ (found : near ≡ true). flies_there (finds_entry place_cmp_total places kept.sorted standing_near found) in
      let back = λ (found : all ≡ true). stands_near (finds_entry nat_cmp_total ids kept.ordered flying found) in
      list_any-filter standing_there (λ (e : Place × Io). is_near piece longest e.0) places.entries
      ∙ same_truth near all
      (λ found. entry_found exact_unsigned ids flying (there found))
      (λ found. entry_found place_cmp_exact places standing_near (back found))

-- a test that is false of what is there
if_there : {X : Type 0} (p : X → Bool) (o : Option X) → ((x : X) → o ≡ Some x → p x ≡ false) → IfSome o (λ x. p x ≡ false)
if_there p None below = tt
if_there p (Some x) below = below x refl

-- no entry passes exactly if nothing passes under any number
pub none_passes : {X : Type 0} (p : X → Bool) (ids : BTreeMap ℕ X) → IsOrdered nat_cmp ids
    → IsTrue (not (list_any (λ (e : ℕ × X). p e.1) ids.entries)) ↔ ((id : ℕ) → IfSome (get nat_cmp ids id) (λ x. p x ≡ false))
none_passes {X} p ids ordered =
    let test : ℕ × X → Bool = λ (e : ℕ × X). p e.1 in (
      (λ none id. if_there p (get nat_cmp ids id) (λ x there.
          false_from_ne_true (p x) (λ pass.
          both_ways (list_any test ids.entries) (not-true (list_any test ids.entries) none)
          (entry_found exact_unsigned ids test (record { key = id; value = x; there = there; pass = pass }))))),
      (λ below. ap not (false_from_ne_true (list_any test ids.entries) (λ found.
          let f = finds_entry nat_cmp_total ids ordered test found in
          both_ways (p f.value) (subst (λ (o : Option X). IfSome o (λ x. p x ≡ false)) f.there (below f.key)) f.pass))),
    )

-- a read waits for nothing where no write flies
if_waits : (declines : Bool) (dir : Dir) (piece : Piece) (o : Option Ended) → writes dir ≡ false
    → IfSome o (λ ended. false ≡ false → writes ended.io.dir ≡ false)
    → IfSome o (λ ended. waits_for declines dir piece ended.io ≡ false)
if_waits declines dir piece None reads none = tt
if_waits declines dir piece (Some ended) reads none = rw (reads, none refl) (by (not (declines || ended.io.declines)))
  where
    by : (b : Bool) → (b && false) ≡ false
    by true = refl
    by false = refl

pub none_waits : (declines wrote : Bool) (dir : Dir) (piece : Piece) (ids : BTreeMap ℕ Ended) → IsOrdered nat_cmp ids → IsWrote ids wrote
    → writes dir ≡ false → wrote ≡ false → is_clear declines dir piece ids.entries ≡ true
none_waits declines wrote dir piece ids ordered told reads none =
    (none_passes (λ (ended : Ended). waits_for declines dir piece ended.io) ids ordered).1
    (λ id. if_waits declines dir piece (get nat_cmp ids id) reads (subst (IsWrote ids) none told id))

-- and nothing races there
pub none_races : (wrote : Bool) (io : Io) (ids : BTreeMap ℕ Ended) → IsOrdered nat_cmp ids → IsWrote ids wrote → wrote ≡ false
    → is_raced io ids.entries ≡ false
none_races wrote io ids ordered told none =
    let test : ℕ × Ended → Bool = λ (e : ℕ × Ended). not (e.0 == io.id) && writes_over io.piece e.1.io in
    false_from_ne_true (list_any test ids.entries) (λ found.
    let f = finds_entry nat_cmp_total ids ordered test found in
    let over = (and_parts (not (f.key == io.id)) (writes_over io.piece f.value.io) f.pass).1 in
    let written = (and_parts (writes f.value.io.dir) (pieces_overlap f.value.io.piece io.piece) over).0 in
    let read = subst (λ (o : Option Ended). IfSome o (λ ended. false ≡ false → writes ended.io.dir ≡ false)) f.there
    (subst (IsWrote ids) none told f.key) in
    both_ways (writes f.value.io.dir) (read refl) written)

-- the one entry of a number passes exactly if it is found to
pub one_passes : {X : Type 0} (p : ℕ × X → Bool) (ids : BTreeMap ℕ X) → IsOrdered nat_cmp ids
    → (id : ℕ) (x : X) → get nat_cmp ids id ≡ Some x
    → list_any (λ (e : ℕ × X). p e && (id == e.0)) ids.entries ≡ p (id, x)
one_passes {X} p ids ordered id x here =
    let test : ℕ × X → Bool = λ (e : ℕ × X). p e && (id == e.0) in
    same_truth (list_any test ids.entries) (p (id, x))
    (λ found.
    let f = finds_entry nat_cmp_total ids ordered test found in
    let parts = and_parts (p (f.key, f.value)) (id == f.key) f.pass in
    let own : id ≡ f.key = eqb-true id f.key parts.1 in
    let at : get nat_cmp ids id ≡ Some f.value = subst (λ (k : ℕ). get nat_cmp ids k ≡ Some f.value) (sym own) f.there in
    let value : x ≡ f.value = same_Some x f.value (sym here ∙ at) in
    subst (λ (v : X). p (id, v) ≡ true) (sym value) (subst (λ (k : ℕ). p (k, f.value) ≡ true) (sym own) parts.0))
    (λ passes. entry_found exact_unsigned ids test
    (record { key = id; value = x; there = here; pass = and_from (p (id, x)) (id == id) passes (eq-eqb id id refl) }))
