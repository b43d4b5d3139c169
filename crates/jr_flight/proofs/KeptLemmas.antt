-- The two maps still agree where an I/O is put into both, and where it is taken out of both.
use Rattle.std.proofs.Common.{ℕ, ◌≡◌, ◌≤◌, Bool, true, false, cond, List, [], ◌∷◌, length, Some, None, refl, sym, ◌∙◌, ap, subst, max, btree_map_len, arith}
use Rattle.std.specs.Prelude.{Option, IfSome}
use Rattle.std.specs.Ordering.{nat_cmp}
use Rattle.std.specs.BTreeMap.{BTreeMap, get, is_at, IsOrdered}
use Rattle.std.proofs.lemmas.Bool.{eqb-true}
use Rattle.std.proofs.lemmas.Bool.Decides.{nat_tests}
use Rattle.jr_flight.specs.declared.ios.Ended.{Ended}
use Rattle.jr_flight.specs.declared.ios.Io.{Io}
use Rattle.jr_flight.specs.Flights.{flying_io, writes}
use Rattle.jr_flight.specs.Places.{Place, place_of, place_cmp, if_standing, IsMeasured, IsIndexed, IsWrote}
use Rattle.jr_flight.proofs.MarkLemmas.{at_number}

-- at each place stands what flies under its number, also without one I/O
placed_without : (ended : Ended) (id : ℕ) (at : Place) (flying : Option Ended) (standing : Option Io)
    → ended.io.id ≡ id
    → (at.2 ≡ id → flying ≡ Some ended)
    → standing ≡ if_standing at flying
    → cond (is_at (place_cmp (place_of ended.io)) at) None standing ≡ if_standing at (cond (is_at (nat_cmp id) at.2) None flying)
placed_without ended id at flying standing own here placed = grind (arith, nat_tests)

placed_with : (ended : Ended) (at : Place) (flying : Option Ended) (standing : Option Io)
    → (at.2 ≡ ended.io.id → flying ≡ None)
    → standing ≡ if_standing at flying
    → cond (is_at (place_cmp (place_of ended.io)) at) (Some ended.io) standing ≡ if_standing at (cond (is_at (nat_cmp ended.io.id) at.2) (Some ended) flying)
placed_with ended at flying standing here placed = grind (arith, nat_tests)

-- what holds of what flies under a number holds of it also where one I/O was taken out or put in
if_without : (P : Ended → Type 0) (taken : Bool) (flying : Option Ended) → IfSome flying P → IfSome (cond taken None flying) P
if_without P true flying holds = tt
if_without P false flying holds = holds

if_with : (P : Ended → Type 0) (put : Bool) (ended : Ended) (flying : Option Ended)
    → (put ≡ true → P ended)
    → IfSome flying P
    → IfSome (cond put (Some ended) flying) P
if_with P true ended flying here holds = here refl
if_with P false ended flying here holds = holds

-- no piece that flies is longer than the longest one
longer : (longest more id : ℕ) (flying : Option Ended) → longest ≤ more → IfSome flying (IsMeasured longest id) → IfSome flying (IsMeasured more id)
longer longest more id None below measured = tt
longer longest more id (Some ended) below measured = record { own = measured.own; short = omega (arith, measured.short) }

module _ (old new : BTreeMap ℕ Ended) (places left : BTreeMap Place Io) (longest : ℕ) (ended : Ended) (place : Place)
    (ordered : IsOrdered nat_cmp new) (sorted : IsOrdered place_cmp left) (there : place ≡ place_of ended.io)
    (kept : IsIndexed old places longest) where
  pub indexed_without : (id : ℕ) → get nat_cmp old id ≡ Some ended
      → ((other : ℕ) → get nat_cmp new other ≡ cond (is_at (nat_cmp id) other) None (get nat_cmp old other))
      → ((at : Place) → get place_cmp left at ≡ cond (is_at (place_cmp place) at) None (get place_cmp places at))
      → IsIndexed new left longest
  indexed_without id here out gone =
      let own = (subst (λ (o : Option Ended). IfSome o (IsMeasured longest id)) here (kept.measured id)).own in
      record {
        ordered = ordered;
        sorted = sorted;
        measured = λ other.
            subst (λ (o : Option Ended). IfSome o (IsMeasured longest other)) (sym (out other))
            (if_without (IsMeasured longest other) (is_at (nat_cmp id) other) (get nat_cmp old other) (kept.measured other));
        placed = λ at.
            gone at
            ∙ ap (λ (p : Place). cond (is_at (place_cmp p) at) None (get place_cmp places at)) there
            ∙ placed_without ended id at (get nat_cmp old at.2) (get place_cmp places at) own (λ same. ap (get nat_cmp old) same ∙ here)
            (kept.placed at)
            ∙ ap (if_standing at) (sym (out at.2));
      }

  pub indexed_with : get nat_cmp old ended.io.id ≡ None
      → ((id : ℕ) → get nat_cmp new id ≡ cond (is_at (nat_cmp ended.io.id) id) (Some ended) (get nat_cmp old id))
      → ((at : Place) → get place_cmp left at ≡ cond (is_at (place_cmp place) at) (Some ended.io) (get place_cmp places at))
      → IsIndexed new left (max longest ended.io.piece.len)
  indexed_with none put stands =
      let more = max longest ended.io.piece.len in
      record {
        ordered = ordered;
        sorted = sorted;
        measured = λ id.
            subst (λ (o : Option Ended). IfSome o (IsMeasured more id)) (sym (put id))
            (if_with (IsMeasured more id) (is_at (nat_cmp ended.io.id) id) ended (get nat_cmp old id)
            (λ here. record { own = sym (eqb-true id ended.io.id (sym (at_number ended.io.id id) ∙ here)); short = omega arith })
            (longer longest more id (get nat_cmp old id) (omega arith) (kept.measured id)));
        placed = λ at.
            stands at
            ∙ ap (λ (p : Place). cond (is_at (place_cmp p) at) (Some ended.io) (get place_cmp places at)) there
            ∙ placed_with ended at (get nat_cmp old at.2) (get place_cmp places at) (λ same. ap (get nat_cmp old) same ∙ none) (kept.placed at)
            ∙ ap (if_standing at) (sym (put at.2));
      }

-- what is known of the writes, where an I/O is taken out, where nothing is left, and where an I/O is put in
pub wrote_without : (old new : BTreeMap ℕ Ended) (own : ℕ) (wrote : Bool)
    → ((id : ℕ) → get nat_cmp new id ≡ cond (is_at (nat_cmp own) id) None (get nat_cmp old id))
    → IsWrote old wrote
    → IsWrote new wrote
wrote_without old new own wrote out kept = λ id.
    subst (λ (o : Option Ended). IfSome o (λ ended. wrote ≡ false → writes ended.io.dir ≡ false)) (sym (out id))
    (if_without (λ ended. wrote ≡ false → writes ended.io.dir ≡ false) (is_at (nat_cmp own) id) (get nat_cmp old id) (kept id))

none_among : (P : Ended → Type 0) (es : List (ℕ × Ended)) (id : ℕ) → length es ≡ 0 → IfSome (flying_io id es) P
none_among P [] id none = tt
none_among P (e ∷ es) id none = absurd (omega arith)

pub wrote_nothing : (ids : BTreeMap ℕ Ended) (wrote : Bool) → btree_map_len ids ≡ 0 → IsWrote ids wrote
wrote_nothing ids wrote none = λ id. none_among (λ ended. wrote ≡ false → writes ended.io.dir ≡ false) ids.entries id none

weaker : (wrote more : Bool) (flying : Option Ended) → (more ≡ false → wrote ≡ false)
    → IfSome flying (λ ended. wrote ≡ false → writes ended.io.dir ≡ false)
    → IfSome flying (λ ended. more ≡ false → writes ended.io.dir ≡ false)
weaker wrote more None less kept = tt
weaker wrote more (Some ended) less kept = λ none. kept (less none)

pub wrote_with : (old new : BTreeMap ℕ Ended) (ended : Ended) (wrote more : Bool)
    → (more ≡ false → wrote ≡ false)
    → (more ≡ false → writes ended.io.dir ≡ false)
    → ((id : ℕ) → get nat_cmp new id ≡ cond (is_at (nat_cmp ended.io.id) id) (Some ended) (get nat_cmp old id))
    → IsWrote old wrote
    → IsWrote new more
wrote_with old new ended wrote more less reads put kept = λ id.
    subst (λ (o : Option Ended). IfSome o (λ ended. more ≡ false → writes ended.io.dir ≡ false)) (sym (put id))
    (if_with (λ ended. more ≡ false → writes ended.io.dir ≡ false) (is_at (nat_cmp ended.io.id) id) ended (get nat_cmp old id) (λ own. reads)
    (weaker wrote more (get nat_cmp old id) less (kept id)))
