-- The books beside a history that is walked: what stands before each place is what was completed so far.
use Rattle.std.proofs.Common.{◌≡◌, ℕ, zero, suc, ◌<◌, ◌+◌, take, List, [], ◌∷◌, ◌++◌, length, replicate, Bool, true, false, refl, sym, ◌∙◌, ap, arith, append-nil}
use Rattle.std.specs.Prelude.{Option, Some, None, slice_get, slice_set, filter_map, ◌==◌}
use Rattle.std.specs.List.{cons_option}
use Rattle.std.proofs.Math.ListN.{get_or}
use Rattle.std.proofs.lemmas.Bool.{eq-eqb, eqb-true}
use Rattle.std.proofs.lemmas.List.{take_all, take_more, get_or-set_same}
use Rattle.std.proofs.lemmas.List.Elements.{filter_map-append}
use Rattle.std.proofs.lemmas.Option.{slice_get_within, slice_get-get_or, get_or_from_slice_get, same_Some}
use Rattle.jr_model.specs.declared.events.Event.{Event}
use Rattle.jr_laws_steps.proofs.Lists.{got_set_other}
use Rattle.jr_crew_books.specs.declared.books.Done.{Done}
use Rattle.jr_crew_books.specs.Accounts.{AreFollowed, AreMoved, IsMoved, AreGonePast}

got_zero : (n i place : ℕ) → slice_get (replicate n 0) i ≡ Some place → place ≡ 0
got_zero zero i place at = cc
got_zero (suc n) zero place at = sym (same_Some 0 place at)
got_zero (suc n) (suc i) place at = got_zero n i place at

module _ (books : List (List Done)) (completed : ℕ → Event → Option Done) where
  -- before anything happened
  pub follow_first : (places : List ℕ) (n : ℕ) → places ≡ replicate n 0 → AreFollowed books completed places []
  follow_first places n zeros i book place at there =
      let none : place ≡ 0 = got_zero n i place (ap (λ (ps : List ℕ). slice_get ps i) (sym zeros) ∙ there) in
      ap (λ (k : ℕ). take k book) none

  -- one more event
  pub follow_next : (old new : List ℕ) (events : List Event) (n : ℕ) (e : Event) → length new ≡ length old → n < length events → AreFollowed books completed old (take n events) → AreMoved books completed old new (get_or events n e) → AreFollowed books completed new (take (n + 1) events)
  follow_next old new events n e size below sofar moved i book next at there =
      let within : i < length old = omega (arith, slice_get_within new i next there, size) in
      let was = slice_get-get_or old i 0 within in
      moved i book (get_or old i 0) next at was there
      ∙ ap (λ (done : List Done). done ++ cons_option (completed i (get_or events n e)) []) (sofar i book (get_or old i 0) at was)
      ∙ sym (filter_map-append (completed i) (take n events) (get_or events n e ∷ []))
      ∙ sym (ap (filter_map (completed i)) (take_more events n e below))

  -- and all of them
  pub follow_last : (places : List ℕ) (history : List Event) → AreFollowed books completed places history → AreGonePast books places → (i : ℕ) (book : List Done) → slice_get books i ≡ Some book → book ≡ filter_map (completed i) history
  follow_last places history followed gone i book at =
      let last : length book ≡ length book = refl in
      sym (take_all (length book) book (omega arith))
      ∙ followed i book (length book) at (gone i book at)

  -- one item was completed
  pub one_moved : (old new : List ℕ) (e : Event) (at : ℕ) (done : Done) → IsMoved books old new at done → completed at e ≡ Some done → ((i : ℕ) → (at == i) ≡ false → completed i e ≡ None) → AreMoved books completed old new e
  one_moved old new e at done moved mine others i book place next there before after = by (at == i) refl
    where
      by : (b : Bool) → (at == i) ≡ b → take next book ≡ take place book ++ cons_option (completed i e) []
      by true is =
          let same : at ≡ i = eqb-true at i is in
          let its : moved.0 ≡ book = same_Some moved.0 book (sym moved.2 ∙ ap (slice_get books) same ∙ there) in
          let was : moved.1 ≡ place = same_Some moved.1 place (sym moved.3 ∙ ap (slice_get old) same ∙ before) in
          let item : slice_get book place ≡ Some done =
          ap (λ (b : List Done). slice_get b place) (sym its) ∙ ap (slice_get moved.0) (sym was) ∙ moved.4 in
          let within : i < length old = slice_get_within old i place before in
          let now : next ≡ place + 1 =
          sym (get_or_from_slice_get new i next 0 after)
          ∙ ap (λ (ps : List ℕ). get_or ps i 0) (moved.5 ∙ ap (λ (k : ℕ). slice_set old k (moved.1 + 1)) same)
          ∙ get_or-set_same old i (moved.1 + 1) 0 within
          ∙ ap (λ (k : ℕ). k + 1) was in
          ap (λ (k : ℕ). take k book) now
          ∙ take_more book place done (slice_get_within book place done item)
          ∙ ap (λ (x : Done). take place book ++ x ∷ []) (get_or_from_slice_get book place done done item)
          ∙ ap (λ (o : Option Done). take place book ++ cons_option o []) (sym (ap (λ (k : ℕ). completed k e) (sym same) ∙ mine))
      by false is =
          let differs : i ≡ at → ⊥ = λ (same : i ≡ at). let yes : (at == i) ≡ true = eq-eqb at i (sym same) in cc in
          let kept : slice_get new i ≡ slice_get old i = ap (λ (ps : List ℕ). slice_get ps i) moved.5 ∙ got_set_other old at i (moved.1 + 1) differs in
          let same : next ≡ place = same_Some next place (sym after ∙ kept ∙ before) in
          ap (λ (k : ℕ). take k book) same
          ∙ sym (append-nil (take place book))
          ∙ ap (λ (o : Option Done). take place book ++ cons_option o []) (sym (others i is))
