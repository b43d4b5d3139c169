-- What marking makes of what is in flight: only whether it raced changes, and what is marked near an I/O is what it writes over.
use Rattle.std.proofs.Common.{ℕ, ◌≡◌, Bool, true, false, cond, List, [], ◌∷◌, map, Some, None, refl, sym, ◌∙◌, ap, subst, arith}
use Rattle.std.specs.Prelude.{Option, IfSome, not, ◌&&◌, ◌||◌, ◌==◌, All}
use Rattle.std.specs.List.Sorted.{IsStrictlySortedBy}
use Rattle.std.specs.Map.{keys_of, set_value}
use Rattle.std.specs.Option.{option_map}
use Rattle.std.specs.Ordering.{nat_cmp, match_ordering}
use Rattle.std.specs.declared.cmp.Ordering.{Ordering}
use Rattle.std.specs.declared.cmp.Ordering.TheVariants.{Less, Equal, Greater}
use Rattle.std.specs.BTreeMap.{BTreeMap, get, insert_entry, is_at}
use Rattle.std.specs.Cmp.{eq_by_cmp_equiv}
use Rattle.std.proofs.lemmas.Bool.{and_parts, eqb-true, eq-eqb, ne_eqb}
use Rattle.std.proofs.lemmas.Bool.Decides.{nat_tests}
use Rattle.std.proofs.lemmas.Cmp.{nat_cmp_total}
use Rattle.std.proofs.lemmas.List.Elements.{All-head, All-tail, All-weaker}
use Rattle.std.proofs.lemmas.Map.{lookup-none}
use Rattle.std.proofs.lemmas.Map.Entries.{none_past_head, lookup_head, lookup_tail}
use Rattle.std.proofs.lemmas.Map.Keys.{IsDistinct-from_sorted, sorted_tail}
use Rattle.std.proofs.lemmas.Map.Lookups.{exact_unsigned}
use Rattle.std.proofs.lemmas.Map.Views.{All-found}
use Rattle.std.proofs.lemmas.Option.{same_Some, none-some}
use Rattle.std.proofs.Math.Bool.{or-false, or-true, and-false, or_assoc}
use Rattle.jr_model.specs.Pieces.{pieces_overlap}
use Rattle.jr_model.proofs.PieceLemmas.{overlap_turned}
use Rattle.jr_flight.specs.declared.ios.Ended.{Ended}
use Rattle.jr_flight.specs.declared.ios.Io.{Io}
use Rattle.jr_flight.specs.Flights.{flying_io, writes, writes_over, marked}
use Rattle.jr_flight.specs.Places.{Place, near_piece, if_standing, IsMeasured, IsIndexed, IsWrote, raced_if, raced_under, hits, hits_under, raced_at}
use Rattle.jr_flight.proofs.PlaceLemmas.{any_near, one_passes}

-- what doesn't race now is as it was
stays : (ended : Ended) → raced_if false ended ≡ ended
stays ended = ap (λ (b : Bool). record { io = ended.io; raced = b }) (or-false ended.raced)

-- a look-up asks for the number
pub at_number : (id k : ℕ) → is_at (nat_cmp id) k ≡ (k == id)
at_number id k = grind (arith, nat_tests)

-- two functions that agree on what a list has
map_agree : {X Y : Type 0} (f g : X → Y) (xs : List X) → All (λ x. f x ≡ g x) xs → map f xs ≡ map g xs
map_agree f g [] all = refl
map_agree {X} {Y} f g (x ∷ xs) all =
    let P : X → Type 0 = λ (y : X). f y ≡ g y in
    ap (λ (y : Y). y ∷ map f xs) (All-head P x xs all) ∙ ap (λ (ys : List Y). g x ∷ ys) (map_agree f g xs (All-tail P x xs all))

-- the entries, each changed by its number
abbrev pub changed : (ℕ → Ended → Ended) → List (ℕ × Ended) → List (ℕ × Ended)
changed change es = map (λ (e : ℕ × Ended). (e.0, change e.0 e.1)) es

-- those of the numbers that pass raced
abbrev raced_where : (ℕ → Bool) → List (ℕ × Ended) → List (ℕ × Ended)
raced_where test es = changed (λ (id : ℕ) (ended : Ended). raced_if (test id) ended) es

-- what the I/O makes of what flies under a number
abbrev pub mark_of : Io → ℕ → Ended → Ended
mark_of io id ended = raced_if (not (id == io.id) && writes_over ended.io.piece io) ended

pub marked-changed : (io : Io) (es : List (ℕ × Ended)) → marked io es ≡ changed (mark_of io) es
marked-changed io [] = refl
marked-changed io (e ∷ es) =
    ap (λ (x : ℕ × Ended). x ∷ marked io es) (one (e.0 == io.id))
    ∙ ap (λ (xs : List (ℕ × Ended)). (e.0, mark_of io e.0 e.1) ∷ xs) (marked-changed io es)
  where
    one : (own : Bool)
        → cond own e (e.0, record { io = e.1.io; raced = e.1.raced || writes_over e.1.io.piece io })
        ≡ (e.0, raced_if (not own && writes_over e.1.io.piece io) e.1)
    one true = ap (λ (ended : Ended). (e.0, ended)) (sym (stays e.1))
    one false = refl

changed_keys : (change : ℕ → Ended → Ended) (es : List (ℕ × Ended)) → keys_of (changed change es) ≡ keys_of es
changed_keys change [] = refl
changed_keys change (e ∷ es) = ap (λ (ks : List ℕ). e.0 ∷ ks) (changed_keys change es)

changed_here : (change : ℕ → Ended → Ended) (id : ℕ) (e : ℕ × Ended) (rest found : Option Ended) (here : Bool)
    → is_at (nat_cmp id) e.0 ≡ here
    → rest ≡ option_map (change id) found
    → cond here (Some (change e.0 e.1)) rest ≡ option_map (change id) (cond here (Some e.1) found)
changed_here change id e rest found true at below =
    ap (λ (k : ℕ). Some (change k e.1)) (eqb-true e.0 id (sym (at_number id e.0) ∙ at))
changed_here change id e rest found false at below = below

-- under a number flies what did, changed
pub flying-changed : (change : ℕ → Ended → Ended) (id : ℕ) (es : List (ℕ × Ended))
    → flying_io id (changed change es) ≡ option_map (change id) (flying_io id es)
flying-changed change id [] = refl
flying-changed change id (e ∷ es) =
    changed_here change id e (flying_io id (changed change es)) (flying_io id es) (is_at (nat_cmp id) e.0) refl
    (flying-changed change id es)

pub flying-marked : (io : Io) (id : ℕ) (es : List (ℕ × Ended))
    → flying_io id (marked io es) ≡ option_map (mark_of io id) (flying_io id es)
flying-marked io id es = ap (flying_io id) (marked-changed io es) ∙ flying-changed (mark_of io) id es

-- what flies under its own number it leaves
pub mark_own : (io : Io) (ended : Ended) → mark_of io io.id ended ≡ ended
mark_own io ended =
    ap (λ (b : Bool). raced_if (not b && writes_over ended.io.piece io) ended) (eq-eqb io.id io.id refl) ∙ stays ended

-- a read marks nothing
pub marked_by_read : (io : Io) (es : List (ℕ × Ended)) → writes io.dir ≡ false → marked io es ≡ es
marked_by_read io es reads = marked-changed io es ∙ all es
  where
    all : (xs : List (ℕ × Ended)) → changed (mark_of io) xs ≡ xs
    all [] = refl
    all (e ∷ xs) =
        let own = e.0 == io.id in
        ap (λ (b : Bool). (e.0, raced_if (not own && (b && pieces_overlap io.piece e.1.io.piece)) e.1) ∷ changed (mark_of io) xs) reads
        ∙ ap (λ (b : Bool). (e.0, raced_if b e.1) ∷ changed (mark_of io) xs) (and-false (not own))
        ∙ ap (λ (ended : Ended). (e.0, ended) ∷ changed (mark_of io) xs) (stays e.1)
        ∙ ap (λ (ys : List (ℕ × Ended)). e ∷ ys) (all xs)

-- where the I/O is put in, before or after it marks the others
module _ (io : Io) (ended : Ended) where
  abbrev own_marked : List (ℕ × Ended) → List (ℕ × Ended)
  own_marked es = changed (mark_of io) es

  put_own : (e : ℕ × Ended) (es : List (ℕ × Ended)) (order : Ordering)
      → nat_cmp io.id e.0 ≡ order
      → own_marked (insert_entry nat_cmp es io.id ended) ≡ insert_entry nat_cmp (own_marked es) io.id ended
      → own_marked (match_ordering order ((io.id, ended) ∷ e ∷ es) ((e.0, ended) ∷ es) (e ∷ insert_entry nat_cmp es io.id ended))
      ≡ match_ordering order ((io.id, ended) ∷ own_marked (e ∷ es)) ((e.0, ended) ∷ own_marked es)
      ((e.0, mark_of io e.0 e.1) ∷ insert_entry nat_cmp (own_marked es) io.id ended)
  put_own e es Less at rest = ap (λ (x : Ended). (io.id, x) ∷ own_marked (e ∷ es)) (mark_own io ended)
  put_own e es Equal at rest =
      let own : io.id ≡ e.0 = exact_unsigned io.id e.0 at in
      ap (λ (x : Ended). (e.0, x) ∷ own_marked es) (ap (λ (k : ℕ). mark_of io k ended) (sym own) ∙ mark_own io ended)
  put_own e es Greater at rest = ap (λ (xs : List (ℕ × Ended)). (e.0, mark_of io e.0 e.1) ∷ xs) rest

  changed-insert : (es : List (ℕ × Ended))
      → own_marked (insert_entry nat_cmp es io.id ended) ≡ insert_entry nat_cmp (own_marked es) io.id ended
  changed-insert [] = ap (λ (x : Ended). (io.id, x) ∷ []) (mark_own io ended)
  changed-insert (e ∷ es) = put_own e es (nat_cmp io.id e.0) refl (changed-insert es)

  pub marked-insert : (es : List (ℕ × Ended))
      → marked io (insert_entry nat_cmp es io.id ended) ≡ insert_entry nat_cmp (marked io es) io.id ended
  marked-insert es =
      marked-changed io (insert_entry nat_cmp es io.id ended)
      ∙ changed-insert es
      ∙ ap (λ (xs : List (ℕ × Ended)). insert_entry nat_cmp xs io.id ended) (sym (marked-changed io es))

-- under a number flies what was put in before the others were marked
pub flying-put : (io : Io) (ended : Ended) (id : ℕ) (es all : List (ℕ × Ended))
    → flying_io id all ≡ cond (io.id == id) (Some ended) (flying_io id es)
    → flying_io id (marked io all) ≡ cond (io.id == id) (Some ended) (flying_io id (marked io es))
flying-put io ended id es all put =
    flying-marked io id all ∙ ap (option_map (mark_of io id)) put ∙ by (io.id == id) refl
  where
    by : (own : Bool) → (io.id == id) ≡ own
        → option_map (mark_of io id) (cond own (Some ended) (flying_io id es)) ≡ cond own (Some ended) (flying_io id (marked io es))
    by true at = ap (λ (x : Ended). Some x) (ap (λ (k : ℕ). mark_of io k ended) (sym (eqb-true io.id id at)) ∙ mark_own io ended)
    by false at = sym (flying-marked io id es)

none_here : (id : ℕ) (e : ℕ × Ended) (es : List (ℕ × Ended)) (own : Bool)
    → is_at (nat_cmp id) e.0 ≡ own
    → flying_io id (e ∷ es) ≡ None
    → (flying_io id es ≡ None → raced_under id es ≡ es)
    → (e.0, raced_if own e.1) ∷ raced_under id es ≡ e ∷ es
none_here id e es true at none rest = absurd (none-some e.1 (sym none ∙ lookup_head (is_at (nat_cmp id)) e es at))
none_here id e es false at none rest =
    ap (λ (x : Ended). (e.0, x) ∷ raced_under id es) (stays e.1)
    ∙ ap (λ (xs : List (ℕ × Ended)). e ∷ xs) (rest (sym (lookup_tail (is_at (nat_cmp id)) e es at) ∙ none))

-- where a look-up finds nothing, there is nothing to mark
pub raced_under_none : (id : ℕ) (es : List (ℕ × Ended)) → flying_io id es ≡ None → raced_under id es ≡ es
raced_under_none id [] none = refl
raced_under_none id (e ∷ es) none = none_here id e es (e.0 == id) (at_number id e.0) none (raced_under_none id es)

-- an I/O that raced
abbrev pub as_raced : Ended → Ended
as_raced ended = record { io = ended.io; raced = true }

set_here : (id : ℕ) (ended : Ended) (e : ℕ × Ended) (es : List (ℕ × Ended)) (own : Bool)
    → is_at (nat_cmp id) e.0 ≡ own
    → IsStrictlySortedBy nat_cmp (keys_of (e ∷ es))
    → flying_io id (e ∷ es) ≡ Some ended
    → (flying_io id es ≡ Some ended → set_value (is_at (nat_cmp id)) es (as_raced ended) ≡ raced_under id es)
    → cond own ((e.0, as_raced ended) ∷ es) (e ∷ set_value (is_at (nat_cmp id)) es (as_raced ended))
    ≡ (e.0, raced_if own e.1) ∷ raced_under id es
set_here id ended e es true at sorted found rest =
    let here : ended ≡ e.1 = same_Some ended e.1 (sym found ∙ lookup_head (is_at (nat_cmp id)) e es at) in
    let apart = IsDistinct-from_sorted nat_cmp (keys_of (e ∷ es)) sorted in
    let none : flying_io id es ≡ None =
    lookup-none (is_at (nat_cmp id)) es (none_past_head (eq_by_cmp_equiv nat_cmp_total) id e es apart at) in
    ap (λ (x : Ended). (e.0, as_raced x) ∷ es) here
    ∙ ap (λ (b : Bool). (e.0, record { io = e.1.io; raced = b }) ∷ es) (sym (or-true e.1.raced))
    ∙ ap (λ (xs : List (ℕ × Ended)). (e.0, raced_if true e.1) ∷ xs) (sym (raced_under_none id es none))
set_here id ended e es false at sorted found rest =
    ap (λ (xs : List (ℕ × Ended)). e ∷ xs) (rest (sym (lookup_tail (is_at (nat_cmp id)) e es at) ∙ found))
    ∙ ap (λ (x : Ended). (e.0, x) ∷ raced_under id es) (sym (stays e.1))

-- what is written back as raced is what is marked
pub raced_under_set : (id : ℕ) (ended : Ended) (es : List (ℕ × Ended))
    → IsStrictlySortedBy nat_cmp (keys_of es)
    → flying_io id es ≡ Some ended
    → set_value (is_at (nat_cmp id)) es (as_raced ended) ≡ raced_under id es
raced_under_set id ended [] sorted found = cc
raced_under_set id ended (e ∷ es) sorted found =
    ap (λ (own : Bool). cond own ((e.0, as_raced ended) ∷ es) (e ∷ set_value (is_at (nat_cmp id)) es (as_raced ended))) (at_number id e.0)
    ∙ set_here id ended e es (e.0 == id) (at_number id e.0) sorted found
    (raced_under_set id ended es (sorted_tail nat_cmp e.0 (keys_of es) sorted))

-- what raced by one test and then by another raced by either
raced_twice : (a b : ℕ → Bool) (es : List (ℕ × Ended)) → raced_where b (raced_where a es) ≡ raced_where (λ (id : ℕ). a id || b id) es
raced_twice a b [] = refl
raced_twice a b (e ∷ es) =
    ap (λ (r : Bool). (e.0, record { io = e.1.io; raced = r }) ∷ raced_where b (raced_where a es)) (or_assoc e.1.raced (a e.0) (b e.0))
    ∙ ap (λ (xs : List (ℕ × Ended)). (e.0, raced_if (a e.0 || b e.0) e.1) ∷ xs) (raced_twice a b es)

raced_nowhere : (es : List (ℕ × Ended)) → raced_where (λ (id : ℕ). false) es ≡ es
raced_nowhere [] = refl
raced_nowhere (e ∷ es) =
    ap (λ (x : Ended). (e.0, x) ∷ raced_where (λ (id : ℕ). false) es) (stays e.1)
    ∙ ap (λ (xs : List (ℕ × Ended)). e ∷ xs) (raced_nowhere es)

-- what the I/O hits at these places, marked in turn
abbrev pub raced_in_turn : Io → List (Place × Io) → List (ℕ × Ended) → List (ℕ × Ended)
raced_in_turn io [] es = es
raced_in_turn io (other ∷ others) es = raced_in_turn io others (cond (hits io other) (raced_under other.0.2 es) es)

-- one turn, where the I/O hits the first place or doesn't
one_turn : (io : Io) (other : Place × Io) (others all : List (Place × Io)) (es : List (ℕ × Ended)) (hit : Bool)
    → hits io other ≡ hit
    → all ≡ other ∷ others
    → raced_in_turn io others (cond hit (raced_under other.0.2 es) es) ≡ raced_in_turn io all es
one_turn io other others all es hit is first =
    ap (λ (b : Bool). raced_in_turn io others (cond b (raced_under other.0.2 es) es)) (sym is)
    ∙ ap (λ (xs : List (Place × Io)). raced_in_turn io xs es) (sym first)

pub turn_hit : (io : Io) (other : Place × Io) (others all : List (Place × Io)) (es : List (ℕ × Ended))
    → (other.0.2 ≡ io.id → ⊥)
    → writes_over other.1.piece io ≡ true
    → all ≡ other ∷ others
    → raced_in_turn io others (raced_under other.0.2 es) ≡ raced_in_turn io all es
turn_hit io other others all es apart over =
    one_turn io other others all es true
    (ap (λ (own : Bool). not own && writes_over other.1.piece io) (ne_eqb other.0.2 io.id apart) ∙ over)

pub turn_of_own : (io : Io) (other : Place × Io) (others all : List (Place × Io)) (es : List (ℕ × Ended))
    → other.0.2 ≡ io.id
    → all ≡ other ∷ others
    → raced_in_turn io others es ≡ raced_in_turn io all es
turn_of_own io other others all es own =
    one_turn io other others all es false
    (ap (λ (b : Bool). not b && writes_over other.1.piece io) (eq-eqb other.0.2 io.id own))

pub turn_missed : (io : Io) (other : Place × Io) (others all : List (Place × Io)) (es : List (ℕ × Ended))
    → writes_over other.1.piece io ≡ false
    → all ≡ other ∷ others
    → raced_in_turn io others es ≡ raced_in_turn io all es
turn_missed io other others all es misses =
    one_turn io other others all es false
    (ap (λ (b : Bool). not (other.0.2 == io.id) && b) misses ∙ and-false (not (other.0.2 == io.id)))

pub raced_at_in_turn : (io : Io) (others : List (Place × Io)) (es : List (ℕ × Ended))
    → raced_in_turn io others es ≡ raced_at io others es
raced_at_in_turn io [] es = sym (raced_nowhere es)
raced_at_in_turn io (other ∷ others) es =
    raced_at_in_turn io others (cond (hits io other) (raced_under other.0.2 es) es) ∙ by (hits io other)
  where
    by : (hit : Bool)
        → raced_where (hits_under io others) (cond hit (raced_under other.0.2 es) es)
        ≡ raced_where (λ (id : ℕ). (hit && (id == other.0.2)) || hits_under io others id) es
    by true = raced_twice (λ (id : ℕ). id == other.0.2) (hits_under io others) es
    by false = refl

module _ (longest : ℕ) (ids : BTreeMap ℕ Ended) (places : BTreeMap Place Io) (kept : IsIndexed ids places longest) where
  -- what an I/O hits near itself is what it writes over
  hits_near : (io : Io) (id : ℕ) (ended : Ended)
      → get nat_cmp ids id ≡ Some ended
      → hits_under io (near_piece io.piece longest places.entries) id ≡ (not (id == io.id) && writes_over ended.io.piece io)
  hits_near io id ended here =
      let hit : ℕ → Io → Bool = λ (k : ℕ) (other : Io). not (k == io.id) && writes_over other.piece io in
      any_near (λ (k : ℕ) (other : Io). hit k other && (id == k)) io.piece
      (λ k other pass.
      let over = (and_parts (hit k other) (id == k) pass).0 in
      let writing = (and_parts (not (k == io.id)) (writes_over other.piece io) over).1 in
      overlap_turned io.piece other.piece (and_parts (writes io.dir) (pieces_overlap io.piece other.piece) writing).1)
      longest ids places kept
      ∙ one_passes (λ (e : ℕ × Ended). hit e.0 e.1.io) ids kept.ordered id ended here

  pub marked_near : (io : Io) → raced_at io (near_piece io.piece longest places.entries) ids.entries ≡ marked io ids.entries
  marked_near io =
      let near = near_piece io.piece longest places.entries in
      map_agree (λ (e : ℕ × Ended). (e.0, raced_if (hits_under io near e.0) e.1)) (λ (e : ℕ × Ended). (e.0, mark_of io e.0 e.1)) ids.entries
      (All-weaker (λ (e : ℕ × Ended). get nat_cmp ids e.0 ≡ Some e.1)
      (λ (e : ℕ × Ended). ◌≡◌ {A = ℕ × Ended} (e.0, raced_if (hits_under io near e.0) e.1) (e.0, mark_of io e.0 e.1))
      (λ e here. ap (λ (b : Bool). (e.0, raced_if b e.1)) (hits_near io e.0 e.1 here))
      ids.entries (All-found nat_cmp_total ids kept.ordered))
      ∙ sym (marked-changed io ids.entries)

if_measured : (longest id : ℕ) (change : Ended → Ended) (o : Option Ended)
    → ((ended : Ended) → (change ended).io ≡ ended.io)
    → IfSome o (IsMeasured longest id)
    → IfSome (option_map change o) (IsMeasured longest id)
if_measured longest id change None same here = tt
if_measured longest id change (Some ended) same here = record {
  own = ap (λ (io : Io). io.id) (same ended) ∙ here.own;
  short = rw (same ended) here.short;
}

if_stood : (at : Place) (change : Ended → Ended) (o : Option Ended)
    → ((ended : Ended) → (change ended).io ≡ ended.io)
    → if_standing at (option_map change o) ≡ if_standing at o
if_stood at change None same = refl
if_stood at change (Some ended) same =
    ap (λ (io : Io). cond ((io.piece.file == at.0) && (io.piece.offset == at.1)) (Some io) None) (same ended)

-- where only what raced changes, the two maps agree on
pub indexed-changed : (change : ℕ → Ended → Ended) (old new : BTreeMap ℕ Ended) (places : BTreeMap Place Io) (longest : ℕ)
    → ((id : ℕ) (ended : Ended) → (change id ended).io ≡ ended.io)
    → new.entries ≡ changed change old.entries
    → IsIndexed old places longest
    → IsIndexed new places longest
indexed-changed change old new places longest same is kept =
    let found : (id : ℕ) → get nat_cmp new id ≡ option_map (change id) (get nat_cmp old id) =
    λ (id : ℕ). ap (flying_io id) is ∙ flying-changed change id old.entries in
    record {
      ordered = subst (λ (ks : List ℕ). IsStrictlySortedBy nat_cmp ks) (sym (ap keys_of is ∙ changed_keys change old.entries)) kept.ordered;
      sorted = kept.sorted;
      measured = λ id.
          subst (λ (o : Option Ended). IfSome o (IsMeasured longest id)) (sym (found id))
          (if_measured longest id (change id) (get nat_cmp old id) (same id) (kept.measured id));
      placed = λ at. kept.placed at ∙ sym (ap (if_standing at) (found at.2) ∙ if_stood at (change at.2) (get nat_cmp old at.2) (same at.2));
    }

if_wrote : (wrote : Bool) (change : Ended → Ended) (o : Option Ended) → ((ended : Ended) → (change ended).io ≡ ended.io)
    → IfSome o (λ ended. wrote ≡ false → writes ended.io.dir ≡ false)
    → IfSome (option_map change o) (λ ended. wrote ≡ false → writes ended.io.dir ≡ false)
if_wrote wrote change None same kept = kept
if_wrote wrote change (Some ended) same kept = λ none. ap (λ (io : Io). writes io.dir) (same ended) ∙ kept none

-- what writes is the same
pub wrote-changed : (change : ℕ → Ended → Ended) (old new : BTreeMap ℕ Ended) (wrote : Bool)
    → ((id : ℕ) (ended : Ended) → (change id ended).io ≡ ended.io)
    → new.entries ≡ changed change old.entries
    → IsWrote old wrote
    → IsWrote new wrote
wrote-changed change old new wrote same is kept = λ id.
    subst (λ (o : Option Ended). IfSome o (λ ended. wrote ≡ false → writes ended.io.dir ≡ false))
    (sym (ap (flying_io id) is ∙ flying-changed change id old.entries))
    (if_wrote wrote (change id) (get nat_cmp old id) (same id) (kept id))
