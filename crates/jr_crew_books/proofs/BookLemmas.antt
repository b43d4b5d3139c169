-- The entries of a book, where more becomes known and where there is one more.
use Rattle.std.proofs.Common.{◌≡◌, ℕ, zero, suc, ◌<◌, ◌≤◌, ◌+◌, List, [], ◌∷◌, ◌++◌, length, get_or, take, refl, sym, ap, subst, ◌∙◌, arith}
use Rattle.std.specs.Prelude.{All, Option, Some, None, slice_get}
use Rattle.std.specs.Option.{IsSome, option_map, unwrap_or}
use Rattle.std.specs.List.{cons_option}
use Rattle.std.proofs.lemmas.List.{length-append, map-append, take_more}
use Rattle.std.proofs.lemmas.Option.{slice_get-get_or, slice_get-map, slice_get_past}
use Rattle.std.proofs.lemmas.List.Elements.{All-head, All-push, All-same, All-tail, All-weaker}
use Rattle.jr_model.specs.declared.contents.Method.{Method}
use Rattle.jr_model.proofs.PlaceLemmas.{got_longer}
use Rattle.jr_writes.proofs.KeptLemmas.{made_more, placed_more}
use Rattle.jr_crew_books.specs.declared.books.Done.{Done}
use Rattle.jr_crew_books.specs.declared.entries.BookEntry.{BookEntry}
use Rattle.jr_crew_books.specs.declared.entries.BookValues.{BookValues}
use Rattle.jr_crew_books.specs.BookEntries.{IsEntryOf, IsGrown, IsKnown, IsLonger, done_as, done_with_last, dones_as, entry_piece, last_of, no_method}

-- the last of so many is the same where more become known
last_before : {X : Type 0} (known more : List X) (count : ℕ) → count ≤ length known → last_of (known ++ more) count ≡ last_of known count
last_before known more zero within = refl
last_before known more (suc i) within = got_longer known more i (omega (arith, within))

last_stays : {X : Type 0} (old new : List X) (count : ℕ) → IsLonger old new → count ≤ length old → last_of new count ≡ last_of old count
last_stays old new count longer within = ap (λ known. last_of known count) longer.is ∙ last_before old longer.more count within

-- and there are no fewer
no_fewer : {X : Type 0} (old new : List X) → IsLonger old new → length old ≤ length new
no_fewer old new longer =
    let size = ap length longer.is ∙ length-append old longer.more in
    omega (arith, size)

-- where there is a last of so many, there are as many
got_within : {X : Type 0} (known : List X) (i : ℕ) → IsSome (slice_get known i) → i < length known
got_within [] i some = cc
got_within (x ∷ known) zero some = omega arith
got_within (x ∷ known) (suc i) some = let rest = got_within known i some in omega (arith, rest)

last_within : {X : Type 0} (known : List X) (count : ℕ) → IsSome (last_of known count) → count ≤ length known
last_within known zero some = cc
last_within known (suc i) some = let below = got_within known i some in omega (arith, below)

-- an entry where more becomes known
module _ (old new : BookValues) (grown : IsGrown old new) (entry : BookEntry) (known : IsKnown old entry) where
  method_stays : last_of new.methods.items entry.method ≡ last_of old.methods.items entry.method
  method_stays =
      last_stays old.methods.items new.methods.items entry.method grown.methods
      (last_within old.methods.items entry.method known.method)

  known_on : IsKnown new entry
  known_on = record {
    method = subst (λ (o : Option Method). IsSome o) (sym method_stays) known.method;
    expected = placed_more old.expected new.expected grown.expected entry.expected known.expected;
    verdict = let more = no_fewer old.verdicts.items new.verdicts.items grown.verdicts in let was = known.verdict in omega (arith, more, was);
  }

  stands_on : done_as new entry ≡ done_as old entry
  stands_on =
      let expected = made_more old.expected new.expected (entry_piece entry) grown.expected entry.expected known.expected in
      let verdict = last_stays old.verdicts.items new.verdicts.items entry.verdict grown.verdicts known.verdict in
      λ i. done_with_last entry (unwrap_or (method_stays i) no_method) (expected i) (verdict i)

-- and all of them
module _ (old new : BookValues) (grown : IsGrown old new) where
  pub known_more : (entries : List BookEntry) → All (IsKnown old) entries → All (IsKnown new) entries
  known_more entries known = All-weaker (IsKnown old) (IsKnown new) (λ entry is. known_on old new grown entry is) entries known

  pub dones_stay : (entries : List BookEntry) → All (IsKnown old) entries → dones_as new entries ≡ dones_as old entries
  dones_stay [] known = refl
  dones_stay (entry ∷ entries) known =
      let here = stands_on old new grown entry (All-head (IsKnown old) entry entries known) in
      let rest = dones_stay entries (All-tail (IsKnown old) entry entries known) in
      λ i. here i ∷ rest i

  -- one entry more
  module _ (entries more : List BookEntry) (entry : BookEntry) (is : more ≡ entries ++ entry ∷ []) (known : All (IsKnown old) entries) where
    pub known_next : (done : Done) → IsEntryOf new done entry → All (IsKnown new) more
    known_next done its =
        All-same (IsKnown new) more (entries ++ entry ∷ []) is
        (All-push (IsKnown new) entries entry (known_more entries known) its.speaks)

    pub dones_next : (done : Done) → IsEntryOf new done entry → dones_as new more ≡ dones_as old entries ++ done ∷ []
    dones_next done its =
        ap (dones_as new) is
        ∙ map-append (done_as new) entries (entry ∷ [])
        ∙ (λ i. dones_stay entries known i ++ its.same i ∷ [])

-- one more of a list
pub taken_next : {X : Type 0} (xs : List X) (i : ℕ) → i < length xs → take (i + 1) xs ≡ take i xs ++ cons_option (slice_get xs i) []
taken_next [] i within = absurd (omega (arith, within))
taken_next (x ∷ xs) i within =
    take_more (x ∷ xs) i x within
    ∙ ap (λ (o : Option _). take i (x ∷ xs) ++ cons_option o []) (sym (slice_get-get_or (x ∷ xs) i x within))

-- the entry that stands at a place, what it stands for, and where there is none
module _ (shown entries : List BookEntry) (place : ℕ) (same : shown ≡ entries) where
  pub stands_at : (entry : BookEntry) → place < length shown → entry ≡ get_or shown place entry → slice_get entries place ≡ Some entry
  stands_at entry within is =
      ap (λ (es : List BookEntry). slice_get es place) (sym same) ∙ slice_get-get_or shown place entry within ∙ ap Some (sym is)

  pub none_there : (known : BookValues) (dones : List Done) → dones_as known entries ≡ dones → length shown ≤ place → slice_get dones place ≡ None
  none_there known dones view past =
      ap (λ (ds : List Done). slice_get ds place) (sym view)
      ∙ slice_get-map (done_as known) entries place
      ∙ ap (λ (es : List BookEntry). option_map (done_as known) (slice_get es place)) (sym same)
      ∙ ap (option_map (done_as known)) (slice_get_past shown place past)

pub done_there : (known : BookValues) (entries : List BookEntry) (dones : List Done) (place : ℕ) (entry : BookEntry) → dones_as known entries ≡ dones → slice_get entries place ≡ Some entry → slice_get dones place ≡ Some (done_as known entry)
done_there known entries dones place entry view stands =
    ap (λ (ds : List Done). slice_get ds place) (sym view)
    ∙ slice_get-map (done_as known) entries place
    ∙ ap (option_map (done_as known)) stands
