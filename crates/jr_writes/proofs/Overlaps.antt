-- Which pieces share bytes, by their places.
use Rattle.std.proofs.Common.{◌≡◌, ℕ, IsSome, ◌+◌, ◌<◌, ◌≤◌, true, false, Option, Some, None, arith, refl, sym, ◌∙◌, ap, subst, ◌⊎◌, inl, inr}
use Rattle.std.proofs.lemmas.Bool.Decides.{nat_tests}
use Rattle.std.proofs.lemmas.Bool.{cases_eq, cases_lt, false_from_ne_true}
use Rattle.std.proofs.lemmas.Option.{none-some, same_Some}
use Rattle.std.specs.declared.cmp.Ordering.TheVariants.{Less}
use Rattle.std.specs.BTreeMap.{is_at}
use Rattle.std.specs.Ordering.{is_lt}
use Rattle.jr_model.specs.declared.blocks.Piece.{Piece}
use Rattle.jr_model.specs.declared.events.WriteId.{WriteId}
use Rattle.jr_model.specs.Pieces.{piece_end, pieces_overlap}
use Rattle.jr_model.proofs.BoolLemmas.{never_both}
use Rattle.jr_writes.specs.declared.spot.Spot.{Spot}
use Rattle.jr_writes.specs.Index.{AreDisjoint, NoneOverlaps, StandsHere, is_kept, piece_at, place_order}
use Rattle.jr_writes.specs.Last.{IsLastBefore, IsLastOther, IsLastOverlapped, NoneOverlapsFrom, NoneOverlapsIn}

-- what two pieces that share a byte are
pub overlap_parts : (a b : Piece) → pieces_overlap a b ≡ true → (a.file ≡ b.file) × (a.offset < piece_end b) × (b.offset < piece_end a) × (a.offset < piece_end a) × (b.offset < piece_end b)
overlap_parts a b h = grind (arith, nat_tests)

-- and the way back
pub overlap_from_parts : (a b : Piece) → a.file ≡ b.file → a.offset < piece_end b → b.offset < piece_end a → a.offset < piece_end a → b.offset < piece_end b → pieces_overlap a b ≡ true
overlap_from_parts a b file x y z w = grind (arith, nat_tests)

-- one place lies before another
pub before_parts : (a b : ℕ × ℕ) → place_order a b ≡ Less → (a.0 < b.0) ⊎ ((a.0 ≡ b.0) × (a.1 < b.1))
before_parts a b h = grind (arith, nat_tests)

-- one place does not lie before another
pub not_before_parts : (a b : ℕ × ℕ) → is_lt (place_order a b) ≡ false → (b.0 < a.0) ⊎ ((b.0 ≡ a.0) × (b.1 ≤ a.1))
not_before_parts a b h = grind (arith, nat_tests)

-- a place before another
pub before_from_parts : (a b : ℕ × ℕ) → a.0 ≡ b.0 → a.1 < b.1 → place_order a b ≡ Less
before_from_parts a b file h = grind (arith, nat_tests)

pub place_itself : (a : ℕ × ℕ) → is_at (place_order a) a ≡ true
place_itself a = grind (arith, nat_tests)

pub before_by_file : (a b : ℕ × ℕ) → a.0 < b.0 → place_order a b ≡ Less
before_by_file a b h = grind (arith, nat_tests)

pub same_place : (a b : ℕ × ℕ) → a.0 ≡ b.0 → a.1 ≡ b.1 → a ≡ b
same_place a b x y = λ i. (x i, y i)

pub some_is : {X : Type 0} (o : Option X) (x : X) → o ≡ Some x → IsSome o
some_is o x e = subst (λ (v : Option _). IsSome v) (sym e) refl

module _ (kept : Option WriteId) (piece : Piece) (spot_in : ℕ × ℕ → Option Spot) where
  -- a spot of the piece's file at an offset is that at the pair
  of_file : (place : ℕ × ℕ) (spot : Spot) → pieces_overlap piece (piece_at place spot) ≡ true → spot_in place ≡ Some spot → spot_in (piece.file, place.1) ≡ Some spot
  of_file place spot shared at = ap (λ (f : ℕ). spot_in (f, place.1)) (overlap_parts piece (piece_at place spot) shared).0 ∙ at

  -- where the last before the end is the kept one, the last before the piece's start is the last other
  pub last_before_kept : StandsHere kept piece spot_in → (end p : ℕ) (s : Spot) → IsLastBefore spot_in piece.file end (Some (p, s)) → is_kept kept s.write ≡ true → (found : Option (ℕ × Spot)) → IsLastBefore spot_in piece.file piece.offset found → IsLastOther kept piece spot_in end found
  last_before_kept here end p s last is found before = by found before
    where
      start : p ≡ piece.offset
      start = ap (λ (x : Piece). x.offset) (here (piece.file, p) s last.0 is)

      mine : (offset : ℕ) (spot : Spot) → piece.offset ≤ offset → offset < end → spot_in (piece.file, offset) ≡ Some spot → is_kept kept spot.write ≡ true
      mine offset spot le lt at =
          let e = start in
          elim (cases_eq offset p) [
            | inl same ↦ ap (λ (x : Spot). is_kept kept x.write) (same_Some spot s (sym at ∙ ap (λ (o : ℕ). spot_in (piece.file, o)) same ∙ last.0)) ∙ is
            | inr other ↦ absurd (none-some spot (sym (last.2 offset (omega arith) lt) ∙ at))
          ]

      by : (o : Option (ℕ × Spot)) → IsLastBefore spot_in piece.file piece.offset o → IsLastOther kept piece spot_in end o
      by None none = λ offset spot lt at.
          elim (cases_lt offset piece.offset) [
            | inl h ↦ absurd (none-some spot (sym (none offset h) ∙ at))
            | inr h ↦ mine offset spot h lt at
          ]
      by (Some f) first =
          let e = start in
          let l = last.1 in
          let b = first.1 in (
            first.0,
            omega arith,
            false_from_ne_true (is_kept kept f.1.write)
                (λ same.
                let o : f.0 ≡ piece.offset = ap (λ (x : Piece). x.offset) (here (piece.file, f.0) f.1 first.0 same) in
                omega arith),
            λ offset spot more lt at.
                elim (cases_lt offset piece.offset) [
                  | inl h ↦ absurd (none-some spot (sym (first.2 offset more h) ∙ at))
                  | inr h ↦ mine offset spot h lt at
                ],
          )

  -- where it isn't, it is the last other
  pub last_before_other : (end p : ℕ) (s : Spot) → IsLastBefore spot_in piece.file end (Some (p, s)) → is_kept kept s.write ≡ false → IsLastOther kept piece spot_in end (Some (p, s))
  last_before_other end p s last other =
      (last.0, last.1, other, λ offset spot more lt at. absurd (none-some spot (sym (last.2 offset more lt) ∙ at)))

  pub last_before_none : (end : ℕ) → IsLastBefore spot_in piece.file end None → IsLastOther kept piece spot_in end None
  last_before_none end none = λ offset spot lt at. absurd (none-some spot (sym (none offset lt) ∙ at))

  -- the last other one shares a byte with the piece
  pub overlapped_last : (end p : ℕ) (s : Spot) → IsLastOther kept piece spot_in end (Some (p, s)) → pieces_overlap piece (piece_at (piece.file, p) s) ≡ true → IsLastOverlapped kept piece spot_in end (Some (p, s))
  overlapped_last end p s last shared = (
    last.0,
    last.1,
    last.2,
    shared,
    λ place spot at more lt other.
        false_from_ne_true (pieces_overlap piece (piece_at place spot))
        (λ meets. never_both (is_kept kept spot.write) (last.3 place.1 spot (omega arith) lt (of_file place spot meets at)) other),
  )

  -- there is no other
  pub none_other : (end : ℕ) → IsLastOther kept piece spot_in end None → NoneOverlapsIn kept piece spot_in 0 end
  none_other end none place spot at more lt other =
      false_from_ne_true (pieces_overlap piece (piece_at place spot))
      (λ meets. never_both (is_kept kept spot.write) (none place.1 spot lt (of_file place spot meets at)) other)

  -- where the last other one shares no byte with the piece, none before it does
  pub none_overlaps : AreDisjoint kept spot_in → (end p : ℕ) (s : Spot) → end ≤ piece_end piece → IsLastOther kept piece spot_in end (Some (p, s)) → pieces_overlap piece (piece_at (piece.file, p) s) ≡ false → NoneOverlapsIn kept piece spot_in 0 end
  none_overlaps disjoint end p s within last apart place spot at more lt other =
      false_from_ne_true (pieces_overlap piece (piece_at place spot)) crossed
    where
      -- what begins before it would reach over it
      below : pieces_overlap piece (piece_at place spot) ≡ true → place.1 < p → ⊥
      below shared less =
          let parts = overlap_parts piece (piece_at place spot) shared in
          let size = disjoint.sized (piece.file, p) s last.0 in
          let before = last.1 in
          elim (cases_lt piece.offset (p + s.len)) [
            | inl h ↦
                never_both (pieces_overlap piece (piece_at (piece.file, p) s))
                (overlap_from_parts piece (piece_at (piece.file, p) s) refl h (omega arith) parts.3 (omega arith)) apart
            | inr h ↦
                let e = disjoint.apart (piece.file, p) place s spot last.0 at last.2 other
                (overlap_from_parts (piece_at (piece.file, p) s) (piece_at place spot) parts.0 (omega arith) (omega arith) (omega arith) parts.4) in
                let e1 : p ≡ place.1 = ap (λ (x : ℕ × ℕ). x.1) e in
                omega arith
          ]

      crossed : pieces_overlap piece (piece_at place spot) ≡ true → ⊥
      crossed shared =
          elim (cases_lt place.1 p) [
            | inl h ↦ below shared h
            | inr h ↦
                elim (cases_eq place.1 p) [
                  | inl same ↦
                      let one : spot ≡ s = same_Some spot s (sym (of_file place spot shared at) ∙ ap (λ (o : ℕ). spot_in (piece.file, o)) same ∙ last.0) in
                      let file = (overlap_parts piece (piece_at place spot) shared).0 in
                      never_both (pieces_overlap piece (piece_at (piece.file, p) s))
                      (sym (λ i. pieces_overlap piece (piece_at (sym file i, same i) (one i))) ∙ shared) apart
                  | inr ne ↦ never_both (is_kept kept spot.write) (last.3 place.1 spot (omega arith) lt (of_file place spot shared at)) other
                ]
          ]

  -- what overlaps neither before the end nor from it on overlaps nowhere
  pub none_overlaps_at_all : (end : ℕ) → NoneOverlapsIn kept piece spot_in 0 end → NoneOverlapsFrom kept piece spot_in end → NoneOverlaps kept piece spot_in
  none_overlaps_at_all end before from place spot at other =
      elim (cases_lt place.1 end) [
        | inl h ↦ before place spot at (omega arith) h other
        | inr h ↦ from place spot at h other
      ]

  -- nothing overlaps from the piece's end on
  pub none_past_end : NoneOverlapsFrom kept piece spot_in (piece_end piece)
  none_past_end place spot at le other =
      false_from_ne_true (pieces_overlap piece (piece_at place spot))
      (λ shared. let parts = overlap_parts piece (piece_at place spot) shared in omega arith)

-- nor from an overlapped one on, once that is taken out
pub none_from_gone : (kept : Option WriteId) (piece : Piece) (spot_in left_in : ℕ × ℕ → Option Spot) (end p : ℕ) (s : Spot) → IsLastOverlapped kept piece spot_in end (Some (p, s)) → NoneOverlapsFrom kept piece spot_in end → ((q : ℕ × ℕ) (t : Spot) → left_in q ≡ Some t → (is_at (place_order (piece.file, p)) q ≡ false) × (spot_in q ≡ Some t)) → NoneOverlapsFrom kept piece left_in p
none_from_gone kept piece spot_in left_in end p s found from was place spot at le other =
    let old = was place spot at in
    elim (cases_lt place.1 end) [
      | inr h ↦ from place spot old.1 h other
      | inl h ↦
          elim (cases_eq place.1 p) [
            | inl same ↦
                false_from_ne_true (pieces_overlap piece (piece_at place spot))
                (λ shared.
                never_both (is_at (place_order (piece.file, p)) place)
                ((λ i. is_at (place_order (piece.file, p)) (sym (overlap_parts piece (piece_at place spot) shared).0 i, same i)) ∙ place_itself (piece.file, p))
                old.0)
            | inr ne ↦ found.4 place spot old.1 (omega arith) h other
          ]
    ]
