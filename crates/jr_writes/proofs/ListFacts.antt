-- The list of what is kept, and the function that it is made of.
use Rattle.std.proofs.Common.{◌≡◌, ℕ, zero, suc, ◌+◌, ◌*◌, ◌/◌, ◌%◌, ◌^◌, ◌<◌, ◌≤◌, Bool, true, false, cond, List, [], ◌∷◌, Option, Some, None, filter, arith, refl, sym, ap, subst, ◌∙◌, inl, inr}
use Rattle.std.specs.BTreeMap.{insert_entry, is_at}
use Rattle.std.specs.Map.{keys_of, lookup}
use Rattle.std.specs.Option.{option_map}
use Rattle.std.specs.List.{AllByRecursion}
use Rattle.std.specs.List.Sorted.{IsStrictlySortedBy}
use Rattle.std.specs.declared.cmp.Ordering.{Ordering}
use Rattle.std.specs.declared.cmp.Ordering.TheVariants.{Less, Greater}
use Rattle.std.specs.Ordering.{is_eq, match_ordering}
use Rattle.std.proofs.lemmas.Bool.{cases_eq, cases_lt, false_from_ne_true}
use Rattle.std.proofs.lemmas.Bool.Decides.{nat_tests}
use Rattle.std.proofs.lemmas.Option.{none-some}
use Rattle.jr_model.specs.declared.blocks.Piece.{Piece}
use Rattle.jr_model.specs.declared.events.WriteId.{WriteId}
use Rattle.jr_model.proofs.Equality.{write_order_total}
use Rattle.jr_model.specs.History.{write_order}
use Rattle.jr_writes.specs.declared.kept.Kept.{Kept}
use Rattle.jr_writes.specs.KeptList.{IsWrite, all_kept, before_others, kept_from, nth_write}
use Rattle.jr_writes.specs.declared.spot.Spot.{Spot}
use Rattle.jr_writes.specs.Index.{IsIndexed, stays}
use Rattle.jr_writes.specs.Staying.{if_stays, left_of}
use Rattle.jr_writes.proofs.EntryLemmas.{insert_below}
use Rattle.jr_writes.proofs.IndexLemmas.{write_itself, write_same}

-- ---- the order of writes

-- a write's place in the order
index : WriteId → ℕ
index w = w.clone * 2 ^ 64 + w.pass * 2 ^ 32 + w.number

nth_index : (w : WriteId) → IsWrite w → nth_write (index w) ≡ w
unfolding index
nth_index w fits =
    let c : (w.clone * 2 ^ 64 + w.pass * 2 ^ 32 + w.number) / 2 ^ 64 ≡ w.clone = omega (arith, fits.clone, fits.pass, fits.number) in
    let p : (w.clone * 2 ^ 64 + w.pass * 2 ^ 32 + w.number) / 2 ^ 32 % 2 ^ 32 ≡ w.pass = omega (arith, fits.clone, fits.pass, fits.number) in
    let n : (w.clone * 2 ^ 64 + w.pass * 2 ^ 32 + w.number) % 2 ^ 32 ≡ w.number = omega (arith, fits.clone, fits.pass, fits.number) in
    λ i. record { clone = c i; pass = p i; number = n i }

index_nth : (n : ℕ) → index (nth_write n) ≡ n
unfolding index
index_nth n = omega arith

index_within : (w : WriteId) → IsWrite w → index w < 2 ^ 96
unfolding index
index_within w fits = omega (arith, fits.clone, fits.pass, fits.number)

less_by_clone : (a b : WriteId) → a.clone < b.clone → (write_order a b ≡ Less) × (write_order b a ≡ Greater)
less_by_clone a b h = (grind (arith, nat_tests), grind (arith, nat_tests))

less_by_pass : (a b : WriteId) → a.clone ≡ b.clone → a.pass < b.pass → (write_order a b ≡ Less) × (write_order b a ≡ Greater)
less_by_pass a b e h = (grind (arith, nat_tests), grind (arith, nat_tests))

less_by_number : (a b : WriteId) → a.clone ≡ b.clone → a.pass ≡ b.pass → a.number < b.number → (write_order a b ≡ Less) × (write_order b a ≡ Greater)
less_by_number a b e f h = (grind (arith, nat_tests), grind (arith, nat_tests))

-- writes are in the order of their places
pub nth_less : (m n : ℕ) → m < n → (write_order (nth_write m) (nth_write n) ≡ Less) × (write_order (nth_write n) (nth_write m) ≡ Greater)
nth_less m n h =
    elim (cases_lt (m / 2 ^ 64) (n / 2 ^ 64)) [
      | inl c ↦ less_by_clone (nth_write m) (nth_write n) c
      | inr c ↦
          let one : m / 2 ^ 64 ≡ n / 2 ^ 64 = omega arith in
          elim (cases_lt (m / 2 ^ 32 % 2 ^ 32) (n / 2 ^ 32 % 2 ^ 32)) [
            | inl p ↦ less_by_pass (nth_write m) (nth_write n) one p
            | inr p ↦
                let two : m / 2 ^ 32 % 2 ^ 32 ≡ n / 2 ^ 32 % 2 ^ 32 = omega arith in
                less_by_number (nth_write m) (nth_write n) one two (omega arith)
          ]
    ]

-- ---- the list

module _ (entry_of : WriteId → Option Kept) where
  all_above : (m n count : ℕ) → m < n → AllByRecursion (λ e. write_order (nth_write m) e.0 ≡ Less) (kept_from entry_of n count)
  unfolding kept_from
  all_above m n zero h = tt
  all_above m n (suc count) h = by (entry_of (nth_write n)) (all_above m (n + 1) count (omega arith))
    where
      by : (o : Option Kept) → AllByRecursion (λ e. write_order (nth_write m) e.0 ≡ Less) (kept_from entry_of (n + 1) count) → AllByRecursion (λ e. write_order (nth_write m) e.0 ≡ Less) (before_others (nth_write n) o (kept_from entry_of (n + 1) count))
      by None rest = rest
      by (Some kept) rest = ((nth_less m n h).0, rest)

  keys_above : (m : ℕ) (es : List (WriteId × Kept)) → AllByRecursion (λ e. write_order (nth_write m) e.0 ≡ Less) es → AllByRecursion (λ y. write_order (nth_write m) y ≡ Less) (keys_of es)
  keys_above m [] all = tt
  keys_above m (e ∷ es) all = (all.0, keys_above m es all.1)

  -- it is in order
  sorted_from : (n count : ℕ) → IsStrictlySortedBy write_order (keys_of (kept_from entry_of n count))
  unfolding kept_from IsStrictlySortedBy
  sorted_from n zero = tt
  sorted_from n (suc count) = by (entry_of (nth_write n)) (sorted_from (n + 1) count)
    where
      by : (o : Option Kept) → IsStrictlySortedBy write_order (keys_of (kept_from entry_of (n + 1) count)) → IsStrictlySortedBy write_order (keys_of (before_others (nth_write n) o (kept_from entry_of (n + 1) count)))
      by None rest = rest
      by (Some kept) rest = (keys_above n (kept_from entry_of (n + 1) count) (all_above n (n + 1) count (omega arith)), rest)

  pub sorted_all : IsStrictlySortedBy write_order (keys_of (all_kept entry_of))
  unfolding all_kept
  sorted_all = sorted_from 0 (2 ^ 96)

  -- a write before the first is not in it
  none_before : (m n count : ℕ) → m < n → lookup (is_at (write_order (nth_write m))) (kept_from entry_of n count) ≡ None
  unfolding kept_from
  none_before m n zero h = refl
  none_before m n (suc count) h = by (entry_of (nth_write n)) (none_before m (n + 1) count (omega arith))
    where
      by : (o : Option Kept) → lookup (is_at (write_order (nth_write m))) (kept_from entry_of (n + 1) count) ≡ None → lookup (is_at (write_order (nth_write m))) (before_others (nth_write n) o (kept_from entry_of (n + 1) count)) ≡ None
      by None rest = rest
      by (Some kept) rest = ap (λ (r : Ordering). cond (is_eq r) (Some kept) (lookup (is_at (write_order (nth_write m))) (kept_from entry_of (n + 1) count))) (nth_less m n h).0 ∙ rest

  lookup_from : (m n count : ℕ) → n ≤ m → m < n + count → lookup (is_at (write_order (nth_write m))) (kept_from entry_of n count) ≡ entry_of (nth_write m)
  unfolding kept_from
  lookup_from m n zero le lt = absurd (omega arith)
  lookup_from m n (suc count) le lt =
      elim (cases_eq m n) [
        | inl same ↦
            ap (λ (k : ℕ). lookup (is_at (write_order (nth_write k))) (before_others (nth_write n) (entry_of (nth_write n)) (kept_from entry_of (n + 1) count))) same
            ∙ here (entry_of (nth_write n)) (none_before n (n + 1) count (omega arith))
            ∙ ap (λ (k : ℕ). entry_of (nth_write k)) (sym same)
        | inr other ↦ there (omega arith) (entry_of (nth_write n)) (lookup_from m (n + 1) count (omega arith) (omega arith))
      ]
    where
      here : (o : Option Kept) → lookup (is_at (write_order (nth_write n))) (kept_from entry_of (n + 1) count) ≡ None → lookup (is_at (write_order (nth_write n))) (before_others (nth_write n) o (kept_from entry_of (n + 1) count)) ≡ o
      here None none = none
      here (Some kept) none = ap (λ (b : Bool). cond b (Some kept) (lookup (is_at (write_order (nth_write n))) (kept_from entry_of (n + 1) count))) (write_itself (nth_write n))

      there : n < m → (o : Option Kept) → lookup (is_at (write_order (nth_write m))) (kept_from entry_of (n + 1) count) ≡ entry_of (nth_write m) → lookup (is_at (write_order (nth_write m))) (before_others (nth_write n) o (kept_from entry_of (n + 1) count)) ≡ entry_of (nth_write m)
      there h None rest = rest
      there h (Some kept) rest = ap (λ (r : Ordering). cond (is_eq r) (Some kept) (lookup (is_at (write_order (nth_write m))) (kept_from entry_of (n + 1) count))) (nth_less n m h).1 ∙ rest

  -- a look-up finds what is kept
  pub lookup_all : (w : WriteId) → IsWrite w → lookup (is_at (write_order w)) (all_kept entry_of) ≡ entry_of w
  unfolding all_kept
  lookup_all w fits =
      subst (λ (v : WriteId). lookup (is_at (write_order v)) (kept_from entry_of 0 (2 ^ 96)) ≡ entry_of v) (nth_index w fits)
      (lookup_from (index w) 0 (2 ^ 96) (omega arith) (omega (arith, index_within w fits)))

-- ---- through a step

module _ (entry_of : WriteId → Option Kept) (piece : Piece) where
  filter_from : (n count : ℕ) → kept_from (left_of None piece entry_of) n count ≡ filter (stays None piece) (kept_from entry_of n count)
  unfolding kept_from
  filter_from n zero = refl
  filter_from n (suc count) = by (entry_of (nth_write n)) (filter_from (n + 1) count)
    where
      by : (o : Option Kept) → kept_from (left_of None piece entry_of) (n + 1) count ≡ filter (stays None piece) (kept_from entry_of (n + 1) count) → before_others (nth_write n) (if_stays None piece (nth_write n) o) (kept_from (left_of None piece entry_of) (n + 1) count) ≡ filter (stays None piece) (before_others (nth_write n) o (kept_from entry_of (n + 1) count))
      by None rest = rest
      by (Some kept) rest = stay (stays None piece (nth_write n, kept))
        where
          stay : (b : Bool) → before_others (nth_write n) (cond b (Some kept) None) (kept_from (left_of None piece entry_of) (n + 1) count) ≡ cond b ((nth_write n, kept) ∷ filter (stays None piece) (kept_from entry_of (n + 1) count)) (filter (stays None piece) (kept_from entry_of (n + 1) count))
          stay true = ap (λ (es : List (WriteId × Kept)). (nth_write n, kept) ∷ es) rest
          stay false = rest

  -- what stays, as a list
  pub filter_all_kept : all_kept (left_of None piece entry_of) ≡ filter (stays None piece) (all_kept entry_of)
  unfolding all_kept
  filter_all_kept = filter_from 0 (2 ^ 96)

module _ (old new : WriteId → Option Kept) (m : ℕ) (v : Kept)
    (free : old (nth_write m) ≡ None) (here : new (nth_write m) ≡ Some v) (others : (n : ℕ) → (n ≡ m → ⊥) → new (nth_write n) ≡ old (nth_write n)) where
  same_after : (n count : ℕ) → m < n → kept_from new n count ≡ kept_from old n count
  unfolding kept_from
  same_after n zero h = refl
  same_after n (suc count) h =
      let e = others n (λ x. absurd (omega arith)) in
      let rest = same_after (n + 1) count (omega arith) in
      λ i. before_others (nth_write n) (e i) (rest i)

  insert_from : (n count : ℕ) → n ≤ m → m < n + count → kept_from new n count ≡ insert_entry write_order (kept_from old n count) (nth_write m) v
  unfolding kept_from
  insert_from n zero le lt = absurd (omega arith)
  insert_from n (suc count) le lt =
      elim (cases_eq n m) [
        | inl same ↦
            ap (λ (k : ℕ). before_others (nth_write k) (new (nth_write k)) (kept_from new (n + 1) count)) same
            ∙ ap (λ (o : Option Kept). before_others (nth_write m) o (kept_from new (n + 1) count)) here
            ∙ ap (λ (es : List (WriteId × Kept)). (nth_write m, v) ∷ es) (same_after (n + 1) count (omega arith))
            ∙ sym (insert_below write_order_total (nth_write m) v (kept_from old (n + 1) count) (all_above old m (n + 1) count (omega arith)))
            ∙ sym (ap (λ (o : Option Kept). insert_entry write_order (before_others (nth_write m) o (kept_from old (n + 1) count)) (nth_write m) v) free)
            ∙ sym (ap (λ (k : ℕ). insert_entry write_order (before_others (nth_write k) (old (nth_write k)) (kept_from old (n + 1) count)) (nth_write m) v) same)
        | inr other ↦
            ap (λ (o : Option Kept). before_others (nth_write n) o (kept_from new (n + 1) count)) (others n other)
            ∙ past (omega arith) (old (nth_write n)) (insert_from (n + 1) count (omega arith) (omega arith))
      ]
    where
      past : n < m → (o : Option Kept) → kept_from new (n + 1) count ≡ insert_entry write_order (kept_from old (n + 1) count) (nth_write m) v → before_others (nth_write n) o (kept_from new (n + 1) count) ≡ insert_entry write_order (before_others (nth_write n) o (kept_from old (n + 1) count)) (nth_write m) v
      past h None rest = rest
      past h (Some kept) rest =
          ap (λ (es : List (WriteId × Kept)). (nth_write n, kept) ∷ es) rest
          ∙ sym (ap (λ (r : Ordering). match_ordering r ((nth_write m, v) ∷ (nth_write n, kept) ∷ kept_from old (n + 1) count) ((nth_write n, v) ∷ kept_from old (n + 1) count) ((nth_write n, kept) ∷ insert_entry write_order (kept_from old (n + 1) count) (nth_write m) v)) (nth_less n m h).1)

  insert_nth : m < 2 ^ 96 → all_kept new ≡ insert_entry write_order (all_kept old) (nth_write m) v
  unfolding all_kept
  insert_nth h = insert_from 0 (2 ^ 96) (omega arith) (omega arith)

-- a new write among what is kept, as a list
pub insert_all_kept : (old new : WriteId → Option Kept) (w : WriteId) (v : Kept) → IsWrite w → old w ≡ None → ((q : WriteId) → new q ≡ cond (is_at (write_order w) q) (Some v) (old q)) → all_kept new ≡ insert_entry write_order (all_kept old) w v
insert_all_kept old new w v fits free step =
    insert_nth old new (index w) v
    (ap old (nth_index w fits) ∙ free)
    (ap new (nth_index w fits) ∙ step w ∙ ap (λ (b : Bool). cond b (Some v) (old w)) (write_itself w))
    (λ n other.
    step (nth_write n)
    ∙ ap (λ (b : Bool). cond b (Some v) (old (nth_write n)))
    (false_from_ne_true (is_at (write_order w) (nth_write n))
    (λ same.
    let e : w ≡ nth_write n = write_same w (nth_write n) same in
    other (sym (index_nth n) ∙ ap index (sym e)))))
    (index_within w fits)
    ∙ ap (λ (x : WriteId). insert_entry write_order (all_kept old) x v) (nth_index w fits)

-- the same of each write is the same list
pub same_all_kept : (old new : WriteId → Option Kept) → ((q : WriteId) → new q ≡ old q) → all_kept new ≡ all_kept old
same_all_kept old new same = λ i. all_kept (λ q. same q i)

-- the list where a write is settled
pub settled_list : (old mid new : WriteId → Option Kept) (w : WriteId) (v : Kept) → IsWrite w → old w ≡ None → ((q : WriteId) → left_of (Some w) v.piece mid q ≡ cond (is_at (write_order w) q) (Some v) (left_of None v.piece old q)) → ((q : WriteId) → new q ≡ left_of (Some w) v.piece mid q) → all_kept new ≡ insert_entry write_order (filter (stays None v.piece) (all_kept old)) w v
settled_list old mid new w v fits free put out =
    insert_all_kept (left_of None v.piece old) new w v fits (ap (if_stays None v.piece w) free) (λ q. out q ∙ put q)
    ∙ ap (λ (es : List (WriteId × Kept)). insert_entry write_order es w v) (filter_all_kept old v.piece)

-- and where a piece is unsettled
pub unsettled_list : (old new : WriteId → Option Kept) (piece : Piece) → ((q : WriteId) → new q ≡ left_of None piece old q) → all_kept new ≡ filter (stays None piece) (all_kept old)
unsettled_list old new piece out = same_all_kept (left_of None piece old) new out ∙ filter_all_kept old piece

-- an index of what is kept is one of the same
pub IsIndexed-same : (old new : WriteId → Option Kept) (spot_in : ℕ × ℕ → Option Spot) → ((q : WriteId) → new q ≡ old q) → IsIndexed None old spot_in → IsIndexed None new spot_in
IsIndexed-same old new spot_in same index =
    record {
      stands = λ write entry at. index.stands write entry (sym (same write) ∙ at);
      leads_back = λ place spot at. ap (option_map (λ (e : Kept). e.piece)) (same spot.write) ∙ index.leads_back place spot at;
      disjoint = index.disjoint;
    }

-- where nothing is kept the list is empty
none_from : (entry_of : WriteId → Option Kept) → ((q : WriteId) → entry_of q ≡ None) → (n count : ℕ) → kept_from entry_of n count ≡ []
unfolding kept_from
none_from entry_of none n zero = refl
none_from entry_of none n (suc count) =
    ap (λ (o : Option Kept). before_others (nth_write n) o (kept_from entry_of (n + 1) count)) (none (nth_write n)) ∙ none_from entry_of none (n + 1) count

pub none_all_kept : (entry_of : WriteId → Option Kept) → ((q : WriteId) → entry_of q ≡ None) → all_kept entry_of ≡ []
unfolding all_kept
none_all_kept entry_of none = none_from entry_of none 0 (2 ^ 96)

-- and the index of nothing is one
pub IsIndexed-none : (entry_of : WriteId → Option Kept) (spot_in : ℕ × ℕ → Option Spot) → ((q : WriteId) → entry_of q ≡ None) → ((p : ℕ × ℕ) → spot_in p ≡ None) → IsIndexed None entry_of spot_in
IsIndexed-none entry_of spot_in none free =
    record {
      stands = λ write entry at. absurd (none-some entry (sym (none write) ∙ at));
      leads_back = λ place spot at. absurd (none-some spot (sym (free place) ∙ at));
      disjoint = record {
        sized = λ place spot at. absurd (none-some spot (sym (free place) ∙ at));
        apart = λ p q s t x y other others shared. absurd (none-some s (sym (free p) ∙ x));
      };
    }
