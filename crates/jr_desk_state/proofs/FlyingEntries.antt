-- Entries in the order of their numbers: what is taken out of them, also where one is put in beside it.
use Rattle.std.proofs.Common.{◌≡◌, ℕ, ◌+◌, ◌<◌, List, [], ◌∷◌, Bool, true, false, cond, ◌||◌, refl, sym, ◌∙◌, ap, arith}
use Rattle.std.specs.Prelude.{Option, Some, None, ◌==◌, is_none, filter_map}
use Rattle.std.specs.BTreeMap.{insert_entry, is_at}
use Rattle.std.specs.declared.cmp.Ordering.{Ordering}
use Rattle.std.specs.declared.cmp.Ordering.TheVariants.{Less, Equal, Greater}
use Rattle.std.specs.List.{AllByRecursion, cons_option, enumerate_from}
use Rattle.std.specs.List.Sorted.{IsStrictlySortedBy}
use Rattle.std.specs.Map.{keys_of, lookup, remove_entry}
use Rattle.std.specs.Ordering.{nat_cmp, is_eq, match_ordering}
use Rattle.std.proofs.lemmas.Bool.{false≢true, lt-ltb}
use Rattle.std.proofs.lemmas.Option.{none-some}
use Rattle.jr_model.specs.declared.events.Event.{Event}
use Rattle.jr_model.specs.declared.events.Started.{Started}
use Rattle.jr_model.specs.History.{started, outcome_of}
use Rattle.jr_model.specs.Plan.{Plan}
use Rattle.jr_flight.specs.declared.ios.Ended.{Ended}
use Rattle.jr_flight.specs.declared.ios.Io.{Io}
use Rattle.jr_flight.specs.Flights.{marked, writes_over}
use Rattle.jr_laws_log.specs.Flying.{entry_of, if_flying_entry, flight_of}

head_absent : {X : Type 0} (x : X) (o : Option X) (b : Bool) → cond b (Some x) o ≡ None → (b ≡ false) × (o ≡ None)
head_absent x o true h = absurd (none-some x (sym h))
head_absent x o false h = (refl, h)

module _ {K X : Type 0} where
  -- what isn't there isn't there when something is taken out
  pub absent_still : (test taken : K → Bool) (es : List (K × X))
      → lookup test es ≡ None
      → lookup test (remove_entry taken es) ≡ None
  absent_still test taken [] none = none
  absent_still test taken (e ∷ es) none =
      let parts = head_absent e.1 (lookup test es) (test e.0) none in
      by (taken e.0) parts.0 parts.1 (absent_still test taken es parts.1)
    where
      by : (b : Bool)
          → test e.0 ≡ false
          → lookup test es ≡ None
          → lookup test (remove_entry taken es) ≡ None
          → lookup test (cond b es (e ∷ remove_entry taken es)) ≡ None
      by true here behind rest = behind
      by false here behind rest = ap (λ (b : Bool). cond b (Some e.1) (lookup test (remove_entry taken es))) here ∙ rest

  module _ (cmp : K → K → Ordering) (k : K) (v : X) where
    -- the new entry by how its key compares with the first
    abbrev placed : Ordering → K × X → List (K × X) → List (K × X)
    placed r e es = match_ordering r ((k, v) ∷ e ∷ es) ((e.0, v) ∷ es) (e ∷ insert_entry cmp es k v)

    -- what goes before all
    put_first : (es : List (K × X)) → AllByRecursion (λ y. cmp k y ≡ Less) (keys_of es) → insert_entry cmp es k v ≡ (k, v) ∷ es
    put_first [] all = refl
    put_first (e ∷ es) all =
        ap (λ (r : Ordering). placed r e es) all.0

    -- a new entry stands under its own key
    pub put_at : is_at (cmp k) k ≡ true → (es : List (K × X)) → lookup (is_at (cmp k)) es ≡ None → lookup (is_at (cmp k)) (insert_entry cmp es k v) ≡ Some v
    put_at own [] none = ap (λ (b : Bool). cond b (Some v) None) own
    put_at own (e ∷ es) none =
        let parts = head_absent e.1 (lookup (is_at (cmp k)) es) (is_at (cmp k) e.0) none in
        by parts.0 (put_at own es parts.1) (cmp k e.0) refl
      where
        by : is_at (cmp k) e.0 ≡ false → lookup (is_at (cmp k)) (insert_entry cmp es k v) ≡ Some v
            → (r : Ordering) → cmp k e.0 ≡ r → lookup (is_at (cmp k)) (placed r e es) ≡ Some v
        by here rest Less h = ap (λ (b : Bool). cond b (Some v) (lookup (is_at (cmp k)) (e ∷ es))) own
        by here rest Equal h = absurd (false≢true (sym here ∙ ap is_eq h))
        by here rest Greater h = ap (λ (b : Bool). cond b (Some e.1) (lookup (is_at (cmp k)) (insert_entry cmp es k v))) here ∙ rest

    module _ (id : K) (apart : is_at (cmp id) k ≡ false) where
      -- and changes nothing under another
      pub put_elsewhere : (es : List (K × X)) → lookup (is_at (cmp k)) es ≡ None → lookup (is_at (cmp id)) (insert_entry cmp es k v) ≡ lookup (is_at (cmp id)) es
      put_elsewhere [] none = ap (λ (b : Bool). cond b (Some v) None) apart
      put_elsewhere (e ∷ es) none =
          let parts = head_absent e.1 (lookup (is_at (cmp k)) es) (is_at (cmp k) e.0) none in
          by parts.0 (put_elsewhere es parts.1) (cmp k e.0) refl
        where
          by : is_at (cmp k) e.0 ≡ false → lookup (is_at (cmp id)) (insert_entry cmp es k v) ≡ lookup (is_at (cmp id)) es
              → (r : Ordering) → cmp k e.0 ≡ r → lookup (is_at (cmp id)) (placed r e es) ≡ lookup (is_at (cmp id)) (e ∷ es)
          by here rest Less h = ap (λ (b : Bool). cond b (Some v) (lookup (is_at (cmp id)) (e ∷ es))) apart
          by here rest Equal h = absurd (false≢true (sym here ∙ ap is_eq h))
          by here rest Greater h = ap (λ (o : Option X). cond (is_at (cmp id) e.0) (Some e.1) o) rest

      abbrev without : List (K × X) → List (K × X)
      without es = remove_entry (is_at (cmp id)) es

      -- what is taken out of another key may be taken out before
      pub remove_beside : (es : List (K × X))
          → IsStrictlySortedBy cmp (keys_of (insert_entry cmp es k v))
          → lookup (is_at (cmp k)) es ≡ None
          → remove_entry (is_at (cmp id)) (insert_entry cmp es k v) ≡ insert_entry cmp (remove_entry (is_at (cmp id)) es) k v
      unfolding IsStrictlySortedBy
      remove_beside [] sorted none = ap (λ (b : Bool). cond b [] ((k, v) ∷ [])) apart
      remove_beside (e ∷ es) sorted none =
          by (λ rest. remove_beside es rest (head_absent e.1 (lookup (is_at (cmp k)) es) (is_at (cmp k) e.0) none).1)
          (cmp k e.0) refl sorted
        where
          before : (b : Bool)
              → cmp k e.0 ≡ Less
              → AllByRecursion (λ y. cmp k y ≡ Less) (keys_of es)
              → (k, v) ∷ cond b es (e ∷ without es) ≡ insert_entry cmp (cond b es (e ∷ without es)) k v
          before true less all = sym (put_first es all)
          before false less all =
              sym (ap (λ (r : Ordering). placed r e (without es)) less)

          behind : (b : Bool)
              → cmp k e.0 ≡ Greater
              → without (insert_entry cmp es k v) ≡ insert_entry cmp (without es) k v
              → cond b (insert_entry cmp es k v) (e ∷ without (insert_entry cmp es k v))
              ≡ insert_entry cmp (cond b es (e ∷ without es)) k v
          behind true greater rest = refl
          behind false greater rest =
              ap (λ (fs : List (K × X)). e ∷ fs) rest
              ∙ sym (ap (λ (r : Ordering). placed r e (without es)) greater)

          by : (IsStrictlySortedBy cmp (keys_of (insert_entry cmp es k v))
              → without (insert_entry cmp es k v) ≡ insert_entry cmp (without es) k v)
              → (r : Ordering)
              → cmp k e.0 ≡ r
              → IsStrictlySortedBy cmp (keys_of (placed r e es))
              → without (placed r e es)
              ≡ insert_entry cmp (without (e ∷ es)) k v
          by rest Less h ordered =
              ap (λ (b : Bool). cond b (e ∷ es) ((k, v) ∷ without (e ∷ es))) apart
              ∙ before (is_at (cmp id) e.0) h ordered.0.1
          by rest Equal h ordered =
              absurd (none-some e.1 (sym none ∙ ap (λ (r : Ordering). cond (is_eq r) (Some e.1) (lookup (is_at (cmp k)) es)) h))
          by rest Greater h ordered = behind (is_at (cmp id) e.0) h (rest ordered.1)

-- what isn't there isn't there when others are marked
pub absent_marked : (io : Io) (test : ℕ → Bool) (es : List (ℕ × Ended)) → lookup test es ≡ None → lookup test (marked io es) ≡ None
absent_marked io test [] none = none
absent_marked io test (e ∷ es) none =
    let parts = head_absent e.1 (lookup test es) (test e.0) none in
    by (e.0 == io.id) parts.0 (absent_marked io test es parts.1)
  where
    by : (b : Bool) → test e.0 ≡ false → lookup test (marked io es) ≡ None
        → lookup test (cond b e (e.0, record { io = e.1.io; raced = e.1.raced || writes_over e.1.io.piece io }) ∷ marked io es) ≡ None
    by true here rest = ap (λ (b : Bool). cond b (Some e.1) (lookup test (marked io es))) here ∙ rest
    by false here rest =
        ap (λ (b : Bool). cond b (Some (record { io = e.1.io; raced = e.1.raced || writes_over e.1.io.piece io })) (lookup test (marked io es))) here
        ∙ rest

-- what flies from a number on
abbrev flying_from : Plan → List Event → ℕ → List Started → List (ℕ × Ended)
flying_from plan h n ios = filter_map (if_flying_entry plan h) (enumerate_from n ios)

abbrev in_front : Plan → List Event → Bool → ℕ → Started → List (ℕ × Ended) → List (ℕ × Ended)
in_front plan h flies n io es = cons_option (cond flies (Some (n, entry_of plan h n io)) None) es

above : (plan : Plan) (h : List Event) (m n : ℕ) (ios : List Started)
    → m < n
    → AllByRecursion (λ y. nat_cmp m y ≡ Less) (keys_of (flying_from plan h n ios))
above plan h m n [] below = tt
above plan h m n (io ∷ ios) below = by (is_none (outcome_of h n)) (above plan h m (n + 1) ios (omega (arith, below)))
  where
    by : (b : Bool)
        → AllByRecursion (λ y. nat_cmp m y ≡ Less) (keys_of (flying_from plan h (n + 1) ios))
        → AllByRecursion (λ y. nat_cmp m y ≡ Less) (keys_of (in_front plan h b n io (flying_from plan h (n + 1) ios)))
    by true rest = (ap (λ (b : Bool). cond b Less (cond (m == n) Equal Greater)) (lt-ltb m n below), rest)
    by false rest = rest

in_order : (plan : Plan) (h : List Event) (n : ℕ) (ios : List Started) → IsStrictlySortedBy nat_cmp (keys_of (flying_from plan h n ios))
unfolding IsStrictlySortedBy
in_order plan h n [] = tt
in_order plan h n (io ∷ ios) = by (is_none (outcome_of h n)) (in_order plan h (n + 1) ios)
  where
    by : (b : Bool)
        → IsStrictlySortedBy nat_cmp (keys_of (flying_from plan h (n + 1) ios))
        → IsStrictlySortedBy nat_cmp (keys_of (in_front plan h b n io (flying_from plan h (n + 1) ios)))
    by true rest = (above plan h n (n + 1) ios (omega arith), rest)
    by false rest = rest

-- what is in flight stands in the order of the numbers
pub flight_in_order : (plan : Plan) (history : List Event) → IsStrictlySortedBy nat_cmp (keys_of (flight_of plan history))
flight_in_order plan h = in_order plan h 0 (started h)
