-- The entries that are kept, through a step of the log.
use Rattle.std.proofs.Common.{◌≡◌, ℕ, Bool, true, false, cond, List, [], ◌∷◌, Option, Some, None, arith, refl, sym, ap, subst, ◌∙◌, filter, map}
use Rattle.std.proofs.lemmas.List.Elements.{All-cons, All-filter, All-head, All-nil, All-tail, All-weaker}
use Rattle.std.proofs.lemmas.Map.Made.{keys_of-map_values, lookup-map_values}
use Rattle.std.proofs.lemmas.Option.{none-some, same_Some}
use Rattle.std.specs.BTreeMap.{insert_entry, is_at}
use Rattle.std.specs.declared.cmp.Ordering.{Ordering}
use Rattle.std.specs.declared.cmp.Ordering.TheVariants.{Less, Equal, Greater}
use Rattle.std.specs.List.{All}
use Rattle.std.specs.List.Sorted.{IsStrictlySortedBy}
use Rattle.std.specs.Map.{keys_of, lookup}
use Rattle.std.specs.Option.{is_some, option_map}
use Rattle.std.specs.Ordering.{match_ordering}
use Rattle.jr_model.specs.declared.blocks.Piece.{Piece}
use Rattle.jr_model.specs.declared.contents.Expected.{Expected}
use Rattle.jr_model.specs.declared.contents.Expected.TheVariants.{Nothing, Header, Seed}
use Rattle.jr_model.specs.declared.events.WriteId.{WriteId}
use Rattle.jr_model.specs.History.{write_order}
use Rattle.jr_writes.specs.declared.kept.Head.{Head}
use Rattle.jr_writes.specs.declared.kept.Kept.{Kept}
use Rattle.jr_writes.specs.declared.kept.Known.{Known}
use Rattle.jr_writes.specs.declared.kept.Place.{Place}
use Rattle.jr_writes.specs.declared.kept.Place.TheVariants as place
use Rattle.jr_writes.specs.declared.logs.Logged.{Logged}
use Rattle.jr_writes.specs.Index.{kept_of, stays}
use Rattle.jr_writes.specs.KeptEntries.{ArePlaced, IsMore, IsPlaced, entries_of, head_bytes, logged_as, made_at, no_head}
use Rattle.jr_writes.specs.LoggedWrites.{lies_apart, logged, settled, unsettled}

-- the values of entries are mapped before or after a filter of the values, or an insertion
module _ {K X Y : Type 0} (g : X → Y) where
  abbrev mapped : List (K × X) → List (K × Y)
  mapped es = map (λ e. (e.0, g e.1)) es

  filter-mapped : (p : K × Y → Bool) (es : List (K × X)) → mapped (filter (λ e. p (e.0, g e.1)) es) ≡ filter p (mapped es)
  filter-mapped p [] = refl
  filter-mapped p (e ∷ es) = by (p (e.0, g e.1)) (filter-mapped p es)
    where
      by : (b : Bool) → mapped (filter (λ f. p (f.0, g f.1)) es) ≡ filter p (mapped es) → mapped (cond b (e ∷ filter (λ f. p (f.0, g f.1)) es) (filter (λ f. p (f.0, g f.1)) es)) ≡ cond b ((e.0, g e.1) ∷ filter p (mapped es)) (filter p (mapped es))
      by true rest = ap (λ (fs : List (K × Y)). (e.0, g e.1) ∷ fs) rest
      by false rest = rest

  module _ (cmp : K → K → Ordering) (k : K) (v : X) where
    insert_entry-mapped : (es : List (K × X)) → mapped (insert_entry cmp es k v) ≡ insert_entry cmp (mapped es) k (g v)
    insert_entry-mapped [] = refl
    insert_entry-mapped (e ∷ es) = by (cmp k e.0) (insert_entry-mapped es)
      where
        by : (r : Ordering) → mapped (insert_entry cmp es k v) ≡ insert_entry cmp (mapped es) k (g v) → mapped (match_ordering r ((k, v) ∷ e ∷ es) ((e.0, v) ∷ es) (e ∷ insert_entry cmp es k v)) ≡ match_ordering r ((k, g v) ∷ (e.0, g e.1) ∷ mapped es) ((e.0, g v) ∷ mapped es) ((e.0, g e.1) ∷ insert_entry cmp (mapped es) k (g v))
        by Less rest = refl
        by Equal rest = refl
        by Greater rest = ap (λ (fs : List (K × Y)). (e.0, g e.1) ∷ fs) rest

-- what holds of the values of entries holds with a new one
All-insert_entry : {K X : Type 0} (cmp : K → K → Ordering) (k : K) (v : X) (P : X → Type 0) (es : List (K × X)) → All (λ e. P e.1) es → P v → All (λ e. P e.1) (insert_entry cmp es k v)
All-insert_entry {K} {X} cmp k v P [] all new = All-cons (λ (e : K × X). P e.1) (k, v) [] new (All-nil (λ (e : K × X). P e.1))
All-insert_entry {K} {X} cmp k v P (e ∷ es) all new = by (cmp k e.0) (All-insert_entry cmp k v P es others new)
  where
    Holds : K × X → Type 0
    Holds f = P f.1

    others : All Holds es
    others = All-tail Holds e es all

    by : (r : Ordering) → All Holds (insert_entry cmp es k v) → All Holds (match_ordering r ((k, v) ∷ e ∷ es) ((e.0, v) ∷ es) (e ∷ insert_entry cmp es k v))
    by Less rest = All-cons Holds (k, v) (e ∷ es) new all
    by Equal rest = All-cons Holds (e.0, v) es new others
    by Greater rest = All-cons Holds e (insert_entry cmp es k v) (All-head Holds e es all) rest

-- a look-up finds the entry of what is kept
pub logged-entries_of : (known : Known) (es : List (WriteId × Kept)) (write : WriteId) → logged (entries_of known es) write ≡ option_map (logged_as known) (kept_of es write)
logged-entries_of known es write = lookup-map_values (logged_as known) (is_at (write_order write)) es

-- what is kept of a write, or nothing, says what is logged of it
pub logged-kept : (known : Known) (es : List (WriteId × Kept)) (write : WriteId) (o : Option Kept) → kept_of es write ≡ o → logged (entries_of known es) write ≡ option_map (logged_as known) o
logged-kept known es write o at = logged-entries_of known es write ∙ ap (option_map (logged_as known)) at

-- a write is logged where it is kept
pub is_logged : (known : Known) (es : List (WriteId × Kept)) (write : WriteId) → is_some (kept_of es write) ≡ is_some (logged (entries_of known es) write)
is_logged known es write = by (kept_of es write) ∙ ap is_some (sym (logged-entries_of known es write))
  where
    by : (o : Option Kept) → is_some o ≡ is_some (option_map (logged_as known) o)
    by None = refl
    by (Some kept) = refl

-- a write that is not logged is not kept
pub kept_of-none : (known : Known) (es : List (WriteId × Kept)) (write : WriteId) → logged (entries_of known es) write ≡ None → kept_of es write ≡ None
kept_of-none known es write none = by (kept_of es write) (sym (logged-entries_of known es write) ∙ none)
  where
    by : (o : Option Kept) → option_map (logged_as known) o ≡ None → o ≡ None
    by None h = refl
    by (Some kept) h = cc

-- the entries are in the order of what is kept
pub sorted-entries_of : (known : Known) (es : List (WriteId × Kept)) → IsStrictlySortedBy write_order (keys_of es) → IsStrictlySortedBy write_order (keys_of (entries_of known es))
sorted-entries_of known es sorted =
    subst (λ (names : List WriteId). IsStrictlySortedBy write_order names) (sym (keys_of-map_values (logged_as known) es)) sorted

-- what stays where a piece is unsettled
pub entries_of-unsettled : (known : Known) (piece : Piece) (es : List (WriteId × Kept)) → entries_of known (filter (stays None piece) es) ≡ unsettled (entries_of known es) piece
entries_of-unsettled known piece es = filter-mapped (logged_as known) (λ (e : WriteId × Logged). lies_apart piece e.1) es

-- and their places are known still
pub ArePlaced-unsettled : (known : Known) (piece : Piece) (es : List (WriteId × Kept)) → ArePlaced known es → ArePlaced known (filter (stays None piece) es)
ArePlaced-unsettled known piece es placed = All-filter (stays None piece) (λ (e : WriteId × Kept). IsPlaced known e.1.place) es placed

-- where more is known, what is made at a place that was known is the same
pub made_more : (known more : Known) (piece : Piece) → IsMore known more → (p : Place) → IsPlaced known p → made_at more p piece ≡ made_at known p piece
made_more known more piece grown place.Nothing placed = refl
made_more known more piece grown (place.Whole i) placed = grown.whole i Nothing placed
made_more known more piece grown (place.Head i) placed = ap (λ (head : Head). Header (head_bytes head piece)) (grown.heads i no_head placed)
made_more known more piece grown (place.Seed i) placed = ap (λ (seed : ℕ). Seed seed) (grown.seeds i 0 placed)

-- and the place is known still
pub placed_more : (known more : Known) → IsMore known more → (p : Place) → IsPlaced known p → IsPlaced more p
placed_more known more grown place.Nothing placed = placed
placed_more known more grown (place.Whole i) placed = omega (arith, placed, grown.more_whole)
placed_more known more grown (place.Head i) placed = omega (arith, placed, grown.more_heads)
placed_more known more grown (place.Seed i) placed = omega (arith, placed, grown.more_seeds)

-- so are the entries
pub entries_of-more : (known more : Known) (es : List (WriteId × Kept)) → IsMore known more → ArePlaced known es → entries_of more es ≡ entries_of known es
entries_of-more known more [] grown placed = refl
entries_of-more known more (e ∷ es) grown placed =
    let here = made_more known more e.1.piece grown e.1.place (All-head (λ (f : WriteId × Kept). IsPlaced known f.1.place) e es placed) in
    let rest = entries_of-more known more es grown (All-tail (λ (f : WriteId × Kept). IsPlaced known f.1.place) e es placed) in
    λ i. (e.0, record { piece = e.1.piece; expected = here i }) ∷ rest i

-- and their places
pub ArePlaced-more : (known more : Known) (es : List (WriteId × Kept)) → IsMore known more → ArePlaced known es → ArePlaced more es
ArePlaced-more known more es grown placed =
    All-weaker (λ (e : WriteId × Kept). IsPlaced known e.1.place) (λ (e : WriteId × Kept). IsPlaced more e.1.place)
    (λ e h. placed_more known more grown e.1.place h) es placed

-- the entries where a write is settled
entries_of-settled : (known : Known) (es : List (WriteId × Kept)) (write : WriteId) (entry : Kept) (expected : Expected) → made_at known entry.place entry.piece ≡ expected → entries_of known (insert_entry write_order (filter (stays None entry.piece) es) write entry) ≡ settled (entries_of known es) write entry.piece expected
entries_of-settled known es write entry expected found =
    insert_entry-mapped (logged_as known) write_order write entry (filter (stays None entry.piece) es)
    ∙ (λ i. insert_entry write_order (entries_of-unsettled known entry.piece es i) write (record { piece = entry.piece; expected = found i }))

-- a write is settled, where more may be known
module _ (known more : Known) (es new : List (WriteId × Kept)) (write : WriteId) (entry : Kept) (expected : Expected) (grown : IsMore known more)
    (placed : ArePlaced known es) (settling : new ≡ insert_entry write_order (filter (stays None entry.piece) es) write entry) where
  pub entries_of-step : made_at more entry.place entry.piece ≡ expected → entries_of more new ≡ settled (entries_of known es) write entry.piece expected
  entries_of-step found =
      ap (entries_of more) settling
      ∙ entries_of-settled more es write entry expected found
      ∙ ap (λ (old : List (WriteId × Logged)). settled old write entry.piece expected) (entries_of-more known more es grown placed)

  pub ArePlaced-step : IsPlaced more entry.place → ArePlaced more new
  ArePlaced-step within =
      subst (ArePlaced more) (sym settling)
      (All-insert_entry write_order write entry (λ (k : Kept). IsPlaced more k.place) (filter (stays None entry.piece) es)
      (ArePlaced-unsettled more entry.piece es (ArePlaced-more known more es grown placed))
      within)

-- the place of what is found
placed-found : (known : Known) (test : WriteId → Bool) (es : List (WriteId × Kept)) (kept : Kept) → ArePlaced known es → lookup test es ≡ Some kept → IsPlaced known kept.place
placed-found known test [] kept placed here = absurd (none-some kept here)
placed-found known test (e ∷ es) kept placed here = by (placed-found known test es kept (All-tail (λ (f : WriteId × Kept). IsPlaced known f.1.place) e es placed)) (test e.0) here
  where
    by : (lookup test es ≡ Some kept → IsPlaced known kept.place) → (b : Bool) → cond b (Some e.1) (lookup test es) ≡ Some kept → IsPlaced known kept.place
    by rest true found = subst (λ (k : Kept). IsPlaced known k.place) (same_Some e.1 kept found) (All-head (λ (f : WriteId × Kept). IsPlaced known f.1.place) e es placed)
    by rest false found = rest found

pub placed-kept : (known : Known) (es : List (WriteId × Kept)) (write : WriteId) (kept : Kept) → kept_of es write ≡ Some kept → ArePlaced known es → IsPlaced known kept.place
placed-kept known es write kept here placed = placed-found known (is_at (write_order write)) es kept placed here
