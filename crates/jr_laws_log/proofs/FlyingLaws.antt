-- What is in flight, by number: an event that starts an I/O puts it in, and its end takes it out.
use Rattle.std.proofs.Common.{◌≡◌, ℕ, zero, suc, ◌+◌, ◌<◌, ◌≤◌, List, [], ◌∷◌, ◌++◌, length, Bool, true, false, cond, ◌&&◌, ◌||◌, not, refl, sym, ◌∙◌, ap, subst, arith, inl, inr, zero-add, append-nil, append_assoc}
use Rattle.std.specs.Prelude.{Option, Some, None, slice_get, nat_lt, ◌==◌, is_none, filter_map, is_some, map}
use Rattle.std.specs.BTreeMap.{insert_entry, is_at}
use Rattle.std.specs.declared.cmp.Ordering.{Ordering}
use Rattle.std.specs.declared.cmp.Ordering.TheVariants.{Less, Equal, Greater}
use Rattle.std.specs.List.{list_all, list_any, cons_option, enumerate_from}
use Rattle.std.specs.Map.{lookup, remove_entry}
use Rattle.std.specs.Option.{option_map, option_or}
use Rattle.std.specs.Ordering.{nat_cmp, is_eq, match_ordering}
use Rattle.std.proofs.lemmas.Bool.{cases_eq, cases_lt, eq-eqb, ne_eqb, lt-ltb, le-ltb, and_parts, ltb-true}
use Rattle.std.proofs.lemmas.Option.{slice_get_past, slice_get_within}
use Rattle.jr_model.specs.declared.blocks.Dir.{Dir}
use Rattle.jr_model.specs.declared.blocks.Piece.{Piece}
use Rattle.jr_model.specs.declared.events.Event.{Event}
use Rattle.jr_model.specs.declared.events.Event.TheVariants.{Issue, Probe, Skip, End, Verdict as Judged}
use Rattle.jr_model.specs.declared.events.Outcome.{Outcome}
use Rattle.jr_model.specs.declared.events.Started.{Started}
use Rattle.jr_model.specs.declared.events.Verdict.{Verdict}
use Rattle.jr_model.specs.declared.events.WriteId.{WriteId}
use Rattle.jr_model.specs.declared.tickets.TicketKind.{TicketKind}
use Rattle.jr_model.specs.declared.tickets.TicketKind.TheVariants as ticket
use Rattle.jr_model.specs.History.{started, started_by, end_of, outcome_of, flies, in_flight, if_flying, is_write}
use Rattle.jr_model.specs.Legal.{is_legal, waits_for as waits_for_after, is_clear as is_clear_after}
use Rattle.jr_model.specs.Machine.{is_skip}
use Rattle.jr_model.specs.Pieces.{pieces_overlap}
use Rattle.jr_model.specs.Plan.{Plan, SubJob, clone_of, declines_of}
use Rattle.jr_model.specs.Races.{writes_over as writes_over_after, writes_over_io, races_by, has_raced}
use Rattle.jr_model.proofs.RaceLaws.{raced_push, raced_other, unstarted_is_unraced}
use Rattle.jr_model.proofs.SerialLaws.{first_given-append}
use Rattle.jr_flight.specs.declared.ios.Ended.{Ended}
use Rattle.jr_flight.specs.declared.ios.Io.{Io}
use Rattle.jr_flight.specs.Flights.{flying_io, is_clear, is_raced, marked, raced_so_far, waits_for, writes, writes_over}
use Rattle.jr_model.proofs.PlaceLemmas.{item_at}
use Rattle.jr_model.proofs.OptionLemmas.{none_from}
use Rattle.jr_model.proofs.HistoryLemmas.{legal_is_well, outcome_of-stays, start_ends_none}
use Rattle.jr_laws_steps.proofs.StartedLemmas.{started-starts, started-other}
use Rattle.jr_laws_log.specs.Flying.{dir_of, io_of, entry_of, if_flying_entry, flight_of, begun}

both_none : {X : Type 0} (b : Bool) (o : Option X) → o ≡ None → cond b o None ≡ None
both_none true o none = none
both_none false o none = refl

-- entries of numbered items, of those that a test of the number keeps
module _ {X Y : Type 0} (keep : ℕ → Bool) (made : ℕ → X → Y) where
  abbrev pub kept_entry : ℕ × X → Option (ℕ × Y)
  kept_entry numbered = cond (keep numbered.0) (Some (numbered.0, made numbered.0 numbered.1)) None

  abbrev pub entries_from : ℕ → List X → List (ℕ × Y)
  entries_from n xs = filter_map kept_entry (enumerate_from n xs)

  -- one item more in front, where it is kept
  abbrev in_front : Bool → ℕ → X → List (ℕ × Y) → List (ℕ × Y)
  in_front kept n x es = cons_option (cond kept (Some (n, made n x)) None) es

  abbrev found : ℕ → List (ℕ × Y) → Option Y
  found id es = lookup (is_at (nat_cmp id)) es

  same_number : (n k : ℕ) → n ≡ k → is_at (nat_cmp n) k ≡ true
  same_number n k same =
      ap (λ (b : Bool). is_eq (cond b Less (cond (n == k) Equal Greater))) (le-ltb n k (omega arith))
      ∙ ap (λ (b : Bool). is_eq (cond b Equal Greater)) (eq-eqb n k same)

  other_number : (n k : ℕ) → (n ≡ k → ⊥) → is_at (nat_cmp n) k ≡ false
  other_number n k apart = by (nat_lt n k)
    where
      by : (b : Bool) → is_eq (cond b Less (cond (n == k) Equal Greater)) ≡ false
      by true = refl
      by false = ap (λ (b : Bool). is_eq (cond b Equal Greater)) (ne_eqb n k apart)

  -- a look-up passes over an entry of another number
  passed_over : (id n : ℕ) (x : X) (kept : Bool) (es : List (ℕ × Y)) → (id ≡ n → ⊥) → found id (in_front kept n x es) ≡ found id es
  passed_over id n x true es apart = ap (λ (c : Bool). cond c (Some (made n x)) (found id es)) (other_number id n apart)
  passed_over id n x false es apart = refl

  -- nothing stands under a number below the first
  nothing_below : (id n : ℕ) (xs : List X) → id < n → found id (entries_from n xs) ≡ None
  nothing_below id n [] below = refl
  nothing_below id n (x ∷ xs) below =
      passed_over id n x (keep n) (entries_from (n + 1) xs) (λ same. omega (arith, same, below))
      ∙ nothing_below id (n + 1) xs (omega (arith, below))

  -- under a number stands what was made of the item of that number, where it is kept
  pub lookup_entries : (n k id : ℕ) (xs : List X)
      → n + k ≡ id
      → lookup (is_at (nat_cmp id)) (entries_from n xs) ≡ cond (keep id) (option_map (made id) (slice_get xs k)) None
  lookup_entries n k id [] place = sym (both_none (keep id) (option_map (made id) (slice_get [] k)) refl)
  lookup_entries n zero id (x ∷ xs) place =
      let same : n ≡ id = omega (arith, place) in
      subst (λ (i : ℕ). found i (entries_from n (x ∷ xs)) ≡ cond (keep i) (Some (made i x)) None) same (by (keep n))
    where
      by : (b : Bool) → found n (in_front b n x (entries_from (n + 1) xs)) ≡ cond b (Some (made n x)) None
      by true = ap (λ (c : Bool). cond c (Some (made n x)) (found n (entries_from (n + 1) xs))) (same_number n n refl)
      by false = nothing_below n (n + 1) xs (omega arith)
  lookup_entries n (suc k) id (x ∷ xs) place =
      passed_over id n x (keep n) (entries_from (n + 1) xs) (λ same. omega (arith, same, place))
      ∙ lookup_entries (n + 1) k id xs (omega (arith, place))

  -- a larger number goes behind an entry
  put_behind : (m n : ℕ) (x : X) (y : Y) (kept : Bool) (es : List (ℕ × Y))
      → n < m
      → insert_entry nat_cmp (in_front kept n x es) m y ≡ in_front kept n x (insert_entry nat_cmp es m y)
  put_behind m n x y true es below =
      let past : nat_cmp m n ≡ Greater =
      ap (λ (b : Bool). cond b Less (cond (m == n) Equal Greater)) (le-ltb m n (omega (arith, below)))
      ∙ ap (λ (b : Bool). cond b Equal Greater) (ne_eqb m n (λ same. omega (arith, same, below))) in
      let rest = insert_entry nat_cmp es m y in
      ap (λ (r : Ordering). match_ordering r ((m, y) ∷ (n, made n x) ∷ es) ((n, y) ∷ es) ((n, made n x) ∷ rest)) past
  put_behind m n x y false es below = refl

  -- one more item, whose number is kept, goes to the end
  pub insert_last : (n m : ℕ) (xs : List X) (x : X)
      → n + length xs ≡ m
      → keep m ≡ true
      → insert_entry nat_cmp (entries_from n xs) m (made m x) ≡ entries_from n (xs ++ x ∷ [])
  insert_last n m [] x place kept =
      let same : m ≡ n = omega (arith, place) in
      subst (λ (i : ℕ). (m, made m x) ∷ [] ≡ cons_option (kept_entry (i, x)) []) same
      (sym (ap (λ (b : Bool). in_front b m x []) kept))
  insert_last n m (y ∷ ys) x place kept =
      put_behind m n y (made m x) (keep n) (entries_from (n + 1) ys) (omega (arith, place))
      ∙ ap (in_front (keep n) n y) (insert_last (n + 1) m ys x (omega (arith, place)) kept)

  -- what is taken out is the entry of its number
  taken_out : (id n : ℕ) (x : X) (es : List (ℕ × Y)) → id ≡ n → remove_entry (is_at (nat_cmp id)) ((n, made n x) ∷ es) ≡ es
  taken_out id n x es same =
      ap (λ (c : Bool). cond c es ((n, made n x) ∷ remove_entry (is_at (nat_cmp id)) es)) (same_number id n same)

  left_in : (id n : ℕ) (x : X) (kept : Bool) (es : List (ℕ × Y))
      → (id ≡ n → ⊥)
      → remove_entry (is_at (nat_cmp id)) (in_front kept n x es) ≡ in_front kept n x (remove_entry (is_at (nat_cmp id)) es)
  left_in id n x true es apart =
      ap (λ (c : Bool). cond c es ((n, made n x) ∷ remove_entry (is_at (nat_cmp id)) es)) (other_number id n apart)
  left_in id n x false es apart = refl

module _ {X Y : Type 0} (made other_made : ℕ → X → Y) where
  -- two tests that keep the same numbers from n on, and two ways to make the same of them
  same_entries : (keep other : ℕ → Bool) (n : ℕ) (xs : List X)
      → ((k : ℕ) → n ≤ k → keep k ≡ other k)
      → ((k : ℕ) (x : X) → made k x ≡ other_made k x)
      → entries_from keep made n xs ≡ entries_from other other_made n xs
  same_entries keep other n [] same alike = refl
  same_entries keep other n (x ∷ xs) same alike =
      ap (λ (b : Bool). in_front keep made b n x (entries_from keep made (n + 1) xs)) (same n (omega arith))
      ∙ ap (λ (y : Y). cons_option (cond (other n) (Some (n, y)) None) (entries_from keep made (n + 1) xs)) (alike n x)
      ∙ ap (in_front other other_made (other n) n x)
      (same_entries keep other (n + 1) xs (λ k above. same k (omega (arith, above))) alike)

  -- what is made of each entry that is kept
  pub made_again : (keep : ℕ → Bool) (f : ℕ × Y → ℕ × Y) (n : ℕ) (xs : List X)
      → ((k : ℕ) (x : X) → slice_get xs k ≡ Some x → keep (n + k) ≡ true → f (n + k, made (n + k) x) ≡ (n + k, other_made (n + k) x))
      → map f (entries_from keep made n xs) ≡ entries_from keep other_made n xs
  made_again keep f n [] each = refl
  made_again keep f n (x ∷ xs) each =
      front (keep n) refl
      ∙ ap (in_front keep other_made (keep n) n x)
      (made_again keep f (n + 1) xs (λ k y at kept. shifted k y (each (suc k) y at (ap keep (sym (next k)) ∙ kept))))
    where
      next : (k : ℕ) → n + 1 + k ≡ n + suc k
      next k = omega arith

      shifted : (k : ℕ) (y : X) → f (n + suc k, made (n + suc k) y) ≡ (n + suc k, other_made (n + suc k) y) → f (n + 1 + k, made (n + 1 + k) y) ≡ (n + 1 + k, other_made (n + 1 + k) y)
      shifted k y is = subst (λ (i : ℕ). f (i, made i y) ≡ (i, other_made i y)) (sym (next k)) is

      first : keep n ≡ true → f (n, made n x) ≡ (n, other_made n x)
      first kept =
          let same : n + 0 ≡ n = omega arith in
          subst (λ (i : ℕ). f (i, made i x) ≡ (i, other_made i x)) same (each 0 x refl (ap keep same ∙ kept))

      front : (b : Bool) → keep n ≡ b → map f (in_front keep made (keep n) n x (entries_from keep made (n + 1) xs)) ≡ in_front keep other_made (keep n) n x (map f (entries_from keep made (n + 1) xs))
      front true kept =
          ap (λ (c : Bool). map f (in_front keep made c n x (entries_from keep made (n + 1) xs))) kept
          ∙ ap (λ (e : ℕ × Y). e ∷ map f (entries_from keep made (n + 1) xs)) (first kept)
          ∙ sym (ap (λ (c : Bool). in_front keep other_made c n x (map f (entries_from keep made (n + 1) xs))) kept)
      front false kept =
          ap (λ (c : Bool). map f (in_front keep made c n x (entries_from keep made (n + 1) xs))) kept
          ∙ sym (ap (λ (c : Bool). in_front keep other_made c n x (map f (entries_from keep made (n + 1) xs))) kept)

module _ {X Y : Type 0} (made : ℕ → X → Y) where
  module _ (keep other : ℕ → Bool) (id : ℕ) (gone : other id ≡ false) (same : (k : ℕ) → (k ≡ id → ⊥) → other k ≡ keep k) where
    -- at the number that is kept no more
    remove_here : (n : ℕ) (x : X) (xs : List X) (b : Bool)
        → n ≡ id
        → entries_from other made (n + 1) xs ≡ remove_entry (is_at (nat_cmp id)) (entries_from keep made (n + 1) xs)
        → entries_from other made (n + 1) xs
        ≡ remove_entry (is_at (nat_cmp id)) (in_front keep made b n x (entries_from keep made (n + 1) xs))
    remove_here n x xs true here rest =
        same_entries made made other keep (n + 1) xs (λ k above. same k (λ is. omega (arith, is, here, above))) (λ k y. refl)
        ∙ sym (taken_out keep made id n x (entries_from keep made (n + 1) xs) (sym here))
    remove_here n x xs false here rest = rest

    -- a number that is kept no more is taken out
    remove_one : (n : ℕ) (xs : List X) → entries_from other made n xs ≡ remove_entry (is_at (nat_cmp id)) (entries_from keep made n xs)
    remove_one n [] = refl
    remove_one n (x ∷ xs) =
        elim (cases_eq n id) [
          | inl here ↦
              ap (λ (b : Bool). in_front other made b n x (entries_from other made (n + 1) xs)) (ap other here ∙ gone)
              ∙ remove_here n x xs (keep n) here (remove_one (n + 1) xs)
          | inr apart ↦
              ap (λ (b : Bool). in_front other made b n x (entries_from other made (n + 1) xs)) (same n apart)
              ∙ ap (in_front keep made (keep n) n x) (remove_one (n + 1) xs)
              ∙ sym (left_in keep made id n x (keep n) (entries_from keep made (n + 1) xs) (λ is. apart (sym is)))
        ]

-- it has not ended
abbrev unended : List Event → ℕ → Bool
unended h k = is_none (outcome_of h k)

pub flying_is_started : (plan : Plan) (history : List Event) (id : ℕ)
    → flying_io id (flight_of plan history)
    ≡ cond (flies history id) (option_map (entry_of plan history id) (slice_get (started history) id)) None
flying_is_started plan h id =
    let got = option_map (entry_of plan h id) (slice_get (started h) id) in
    let found : flying_io id (flight_of plan h) ≡ cond (unended h id) got None =
    lookup_entries (unended h) (entry_of plan h) 0 id id (started h) (zero-add id) in
    elim (cases_lt id (length (started h))) [
      | inl below ↦ found ∙ sym (ap (λ (b : Bool). cond (b && unended h id) got None) (lt-ltb id (length (started h)) below))
      | inr past ↦
          found
          ∙ both_none (unended h id) got (ap (option_map (entry_of plan h id)) (slice_get_past (started h) id past))
          ∙ sym (ap (λ (b : Bool). cond (b && unended h id) got None) (le-ltb id (length (started h)) past))
    ]

-- what flies has raced so far just where it has after the history
pub raced_in_flight : (plan : Plan) (history : List Event) (id : ℕ) → flies history id ≡ true
    → raced_so_far (flying_io id (flight_of plan history)) ≡ has_raced history id
raced_in_flight plan h id flying =
    let parts = and_parts (nat_lt id (length (started h))) (unended h id) flying in
    let found = item_at (started h) id (ltb-true id (length (started h)) parts.0) in
    ap raced_so_far
    (flying_is_started plan h id
    ∙ ap (λ (b : Bool). cond b (option_map (entry_of plan h id) (slice_get (started h) id)) None) flying
    ∙ ap (option_map (entry_of plan h id)) found.1)

pub flies_is_flying : (plan : Plan) (history : List Event) (id : ℕ) → is_some (flying_io id (flight_of plan history)) ≡ flies history id
flies_is_flying plan h id =
    ap is_some (flying_is_started plan h id) ∙ by (flies h id) refl
  where
    some_made : (o : Option Started) (io : Started) → o ≡ Some io → is_some (option_map (entry_of plan h id) o) ≡ true
    some_made o io at = ap (λ (x : Option Started). is_some (option_map (entry_of plan h id) x)) at

    by : (b : Bool) → flies h id ≡ b → is_some (cond b (option_map (entry_of plan h id) (slice_get (started h) id)) None) ≡ b
    by false is = refl
    by true is =
        let parts = and_parts (nat_lt id (length (started h))) (unended h id) is in
        let found = item_at (started h) id (ltb-true id (length (started h)) parts.0) in
        some_made (slice_get (started h) id) found.0 found.1

pub next_is_free : (plan : Plan) (history : List Event) → flying_io (length (started history)) (flight_of plan history) ≡ None
next_is_free plan h =
    let n = length (started h) in
    lookup_entries (unended h) (entry_of plan h) 0 n n (started h) (zero-add n)
    ∙ both_none (unended h n) (option_map (entry_of plan h n) (slice_get (started h) n))
    (ap (option_map (entry_of plan h n)) (slice_get_past (started h) n (omega arith)))

-- which way the bytes of an I/O go
pub writes_as : (kind : TicketKind) → writes (dir_of kind) ≡ is_write kind
writes_as ticket.Write = refl
writes_as ticket.Read = refl
writes_as ticket.Probe = refl
writes_as ticket.ReadCheck = refl

-- a test of what is in flight, by its entries and by itself
module _ (plan : Plan) (h : List Event) (by_entry : ℕ × Ended → Bool) (by_io : Started → Bool) where
  abbrev any_entry : List (ℕ × Ended) → Bool
  any_entry es = list_any by_entry es

  -- a numbered I/O in front, where it flies
  front_passes : (n : ℕ) (x : Started) (flying : Bool) (es : List (ℕ × Ended)) (ios : List Started)
      → by_entry (n, entry_of plan h n x) ≡ by_io x
      → any_entry es ≡ list_any by_io ios
      → any_entry (cons_option (cond flying (Some (n, entry_of plan h n x)) None) es) ≡ list_any by_io (cons_option (cond flying (Some x) None) ios)
  front_passes n x true es ios same rest = ap (λ (b : Bool). b || any_entry es) same ∙ ap (λ (b : Bool). by_io x || b) rest
  front_passes n x false es ios same rest = rest

  pub any_passes : (n : ℕ) (xs : List Started)
      → ((k : ℕ) (x : Started) → slice_get xs k ≡ Some x → by_entry (n + k, entry_of plan h (n + k) x) ≡ by_io x)
      → any_entry (filter_map (if_flying_entry plan h) (enumerate_from n xs)) ≡ list_any by_io (filter_map (if_flying h) (enumerate_from n xs))
  any_passes n [] same = refl
  any_passes n (x ∷ xs) same =
      let here : n + 0 ≡ n = omega arith in
      front_passes n x (unended h n) (filter_map (if_flying_entry plan h) (enumerate_from (n + 1) xs))
      (filter_map (if_flying h) (enumerate_from (n + 1) xs))
      (subst (λ (i : ℕ). by_entry (i, entry_of plan h i x) ≡ by_io x) here (same 0 x refl))
      (any_passes (n + 1) xs (λ k y at. shifted k y (same (suc k) y at)))
    where
      shifted : (k : ℕ) (y : Started) → by_entry (n + suc k, entry_of plan h (n + suc k) y) ≡ by_io y → by_entry (n + 1 + k, entry_of plan h (n + 1 + k) y) ≡ by_io y
      shifted k y is =
          let next : n + 1 + k ≡ n + suc k = omega arith in
          subst (λ (i : ℕ). by_entry (i, entry_of plan h i y) ≡ by_io y) (sym next) is

pub clear_is_clear : (plan : Plan) (history : List Event) (job : SubJob) (dir : Dir) (piece : Piece)
    → is_clear job.declines dir piece (flight_of plan history) ≡ is_clear_after plan history job (writes dir) piece
clear_is_clear plan h job dir piece =
    ap not
    (any_passes plan h (λ (entry : ℕ × Ended). waits_for job.declines dir piece entry.1.io) (waits_for_after plan job (writes dir) piece)
    0 (started h) (λ k x at. waits k x))
  where
    waits : (k : ℕ) (x : Started) → waits_for job.declines dir piece (io_of plan (0 + k) x) ≡ waits_for_after plan job (writes dir) piece x
    waits k x =
        ap (λ (b : Bool). not (job.declines || declines_of (clone_of plan x.write.clone)) && ((writes dir || b) && pieces_overlap x.piece piece))
        (writes_as x.kind)

-- one more I/O, which the event starts
module _ (plan : Plan) (h : List Event) (e : Event) (io : Started) (legal : is_legal plan h ≡ true) (starts : started_by e ≡ Some io) where
  abbrev now : ℕ
  now = length (started h)

  abbrev new : Io
  new = io_of plan (length (started h)) io

  abbrev later : List Event
  later = h ++ e ∷ []

  -- an entry, marked where the new one writes over it
  abbrev mark : ℕ × Ended → ℕ × Ended
  mark entry =
      cond (entry.0 == new.id) entry (entry.0, record { io = entry.1.io; raced = entry.1.raced || writes_over entry.1.io.piece new })

  races_now : (k : ℕ) (x : Started) → slice_get (started h) k ≡ Some x → unended h k ≡ true
      → has_raced later k ≡ (has_raced h k || writes_over x.piece new)
  races_now k x at flying =
      let below : k < now = slice_get_within (started h) k x at in
      raced_push h e k
      ∙ ap (λ (o : Option Started). has_raced h k || races_by h k o) starts
      ∙ ap (λ (c : Bool). has_raced h k || cond c (list_any (writes_over_after io.piece) (in_flight h)) (writes_over_io (slice_get (started h) k) io && flies h k))
      (ne_eqb now k (λ same. omega (arith, same, below)))
      ∙ ap (λ (o : Option Started). has_raced h k || (writes_over_io o io && flies h k)) at
      ∙ ap (λ (f : Bool). has_raced h k || (writes_over_after x.piece io && f))
      (ap (λ (b : Bool). b && unended h k) (lt-ltb k now below) ∙ flying)
      ∙ ap (λ (b : Bool). has_raced h k || b) (and_one (writes_over_after x.piece io) ∙ sym (ap (λ (w : Bool). w && pieces_overlap io.piece x.piece) (writes_as io.kind)))
    where
      and_one : (b : Bool) → (b && true) ≡ b
      and_one true = refl
      and_one false = refl

  marked_one : (k : ℕ) (x : Started) → slice_get (started h) k ≡ Some x → unended h (0 + k) ≡ true
      → mark (0 + k, entry_of plan h (0 + k) x) ≡ (0 + k, entry_of plan later (0 + k) x)
  marked_one k x at flying =
      let below : k < now = slice_get_within (started h) k x at in
      let same : 0 + k ≡ k = zero-add k in
      subst (λ (i : ℕ). mark (i, entry_of plan h i x) ≡ (i, entry_of plan later i x)) (sym same)
      (ap (λ (c : Bool). cond c (k, entry_of plan h k x) (k, record { io = io_of plan k x; raced = has_raced h k || writes_over x.piece new }))
      (ne_eqb k now (λ is. omega (arith, is, below)))
      ∙ ap (made k x) (sym (races_now k x at (ap (unended h) (sym same) ∙ flying))))
    where
      made : ℕ → Started → Bool → ℕ × Ended
      made i y r = (i, record { io = io_of plan i y; raced = r })

  raced_now : has_raced later now ≡ is_raced new (flight_of plan h)
  raced_now =
      raced_push h e now
      ∙ ap (λ (b : Bool). b || races_by h now (started_by e)) (unstarted_is_unraced h now (omega arith))
      ∙ ap (races_by h now) starts
      ∙ ap (λ (c : Bool). cond c (list_any (writes_over_after io.piece) (in_flight h)) (writes_over_io (slice_get (started h) now) io && flies h now)) (eq-eqb now now refl)
      ∙ sym
      (any_passes plan h (λ (entry : ℕ × Ended). not (entry.0 == new.id) && writes_over new.piece entry.1.io) (writes_over_after io.piece)
      0 (started h)
      (λ k x at.
      let below : k < now = slice_get_within (started h) k x at in
      ap (λ (c : Bool). not c && writes_over io.piece (io_of plan (0 + k) x)) (ne_eqb (0 + k) now (λ is. omega (arith, is, below)))
      ∙ ap (λ (w : Bool). w && pieces_overlap x.piece io.piece) (writes_as x.kind)))

  pub flies_next : flight_of plan later ≡ begun new (flight_of plan h)
  flies_next =
      let free : outcome_of h now ≡ None =
      none_from (outcome_of h now)
      (λ (o : Outcome) (is : outcome_of h now ≡ Some o).
      let below : now < now = (legal_is_well plan h legal).ends now o is in omega (arith, below)) in
      let own : Ended = record { io = new; raced = is_raced new (flight_of plan h) } in
      ap (λ (ios : List Started). entries_from (unended later) (entry_of plan later) 0 ios) (started-starts h e io starts)
      ∙ same_entries (entry_of plan later) (entry_of plan later) (unended later) (unended h) 0 (started h ++ io ∷ [])
      (λ k above. ap is_none (outcome_of-stays h e k (start_ends_none e io k starts))) (λ k x. refl)
      ∙ sym (insert_last (unended h) (entry_of plan later) 0 now (started h) io (zero-add now) (ap is_none free))
      ∙ ap (λ (es : List (ℕ × Ended)). insert_entry nat_cmp es now (entry_of plan later now io))
      (sym (made_again (entry_of plan h) (entry_of plan later) (unended h) mark 0 (started h) marked_one))
      ∙ ap (λ (r : Bool). insert_entry nat_cmp (marked new (flight_of plan h)) now (record { io = new; raced = r })) raced_now

pub next_flies : (plan : Plan) (history : List Event) (event : Event) (io : Started)
    → is_legal plan history ≡ true
    → started_by event ≡ Some io
    → flight_of plan (history ++ event ∷ [])
    ≡ begun (io_of plan (length (started history)) io) (flight_of plan history)
next_flies plan h e io legal starts = flies_next plan h e io legal starts

-- an event that starts nothing leaves what has raced
same_entry : (plan : Plan) (h : List Event) (e : Event) → started_by e ≡ None → (k : ℕ) (x : Started) → entry_of plan (h ++ e ∷ []) k x ≡ entry_of plan h k x
same_entry plan h e nothing k x = ap made (raced_other h e k nothing)
  where
    made : Bool → Ended
    made r = record { io = io_of plan k x; raced = r }

-- an event that starts nothing and ends nothing
flies_on : (plan : Plan) (h : List Event) (e : Event) → started_by e ≡ None → ((k : ℕ) → end_of k e ≡ None) → flight_of plan (h ++ e ∷ []) ≡ flight_of plan h
flies_on plan h e nothing ends =
    ap (λ (ios : List Started). entries_from (unended (h ++ e ∷ [])) (entry_of plan (h ++ e ∷ [])) 0 ios) (started-other h e nothing)
    ∙ same_entries (entry_of plan (h ++ e ∷ [])) (entry_of plan h) (unended (h ++ e ∷ [])) (unended h) 0 (started h)
    (λ k above. ap is_none (outcome_of-stays h e k (ends k))) (same_entry plan h e nothing)

pub others_fly_on : (plan : Plan) (history : List Event) (worker id : ℕ) (write : WriteId) (verdict : Verdict)
    → (flight_of plan (history ++ Skip worker write ∷ []) ≡ flight_of plan history)
    × (flight_of plan (history ++ Judged worker id verdict ∷ []) ≡ flight_of plan history)
others_fly_on plan h worker id write verdict = (
  flies_on plan h (Skip worker write) refl (λ k. refl),
  flies_on plan h (Judged worker id verdict) refl (λ k. refl),
)

is_some_or : (o : Option Outcome) (x : Outcome) → is_none (option_or o (Some x)) ≡ false
is_some_or None x = refl
is_some_or (Some y) x = refl

pub ended_flies_no_more : (plan : Plan) (history : List Event) (worker id : ℕ) (outcome : Outcome)
    → flight_of plan (history ++ End worker id outcome ∷ []) ≡ remove_entry (is_at (nat_cmp id)) (flight_of plan history)
ended_flies_no_more plan h worker id outcome =
    let e = End worker id outcome in
    let gone : unended (h ++ e ∷ []) id ≡ false =
    ap is_none (first_given-append (end_of id) h (e ∷ []))
    ∙ ap (λ (b : Bool). is_none (option_or (outcome_of h id) (option_or (cond b (Some outcome) None) None))) (eq-eqb id id refl)
    ∙ is_some_or (outcome_of h id) outcome in
    let others : (k : ℕ) → (k ≡ id → ⊥) → unended (h ++ e ∷ []) k ≡ unended h k =
    λ k apart. ap is_none (outcome_of-stays h e k (ap (λ (b : Bool). cond b (Some outcome) None) (ne_eqb id k (λ same. apart (sym same))))) in
    ap (λ (ios : List Started). entries_from (unended (h ++ e ∷ [])) (entry_of plan (h ++ e ∷ [])) 0 ios) (started-other h e refl)
    ∙ same_entries (entry_of plan (h ++ e ∷ [])) (entry_of plan h) (unended (h ++ e ∷ [])) (unended (h ++ e ∷ [])) 0 (started h)
    (λ k above. refl) (same_entry plan h e refl)
    ∙ remove_one (entry_of plan h) (unended h) (unended (h ++ e ∷ [])) id gone others 0 (started h)

-- nor do any number of skips
pub flight-skips : (plan : Plan) (history events : List Event) → list_all is_skip events ≡ true → flight_of plan (history ++ events) ≡ flight_of plan history
flight-skips plan h [] all = ap (flight_of plan) (append-nil h)
flight-skips plan h (e ∷ events) all =
    let parts = and_parts (is_skip e) (list_all is_skip events) all in
    ap (flight_of plan) (sym (append_assoc h (e ∷ []) events)) ∙ flight-skips plan (h ++ e ∷ []) events parts.1 ∙ one e parts.0
  where
    one : (x : Event) → is_skip x ≡ true → flight_of plan (h ++ x ∷ []) ≡ flight_of plan h
    one (Skip worker write) skip = flies_on plan h (Skip worker write) refl (λ k. refl)
    one (Issue worker dir write piece) skip = cc
    one (Probe worker write piece) skip = cc
    one (End worker id outcome) skip = cc
    one (Judged worker id verdict) skip = cc
