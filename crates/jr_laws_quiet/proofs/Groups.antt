-- The groups of a pass: which write stands in which, and how many writes of them are checked.
use Rattle.std.proofs.Common.{◌≡◌, ℕ, zero, suc, ◌+◌, ◌-◌, ◌*◌, ◌/◌, ◌%◌, ◌<◌, ◌≤◌, List, [], ◌∷◌, length, take, drop, Bool, true, false, cond, refl, sym, ◌∙◌, ap, subst, arith, inl, inr, add-zero, zero-add, length-take}
use Rattle.std.specs.Prelude.{Some, slice_get, nat_lt, ◌==◌, filter, count_by}
use Rattle.std.proofs.lemmas.Bool.{eqb-false, lt-ltb, le-ltb, cases_lt}
use Rattle.std.proofs.lemmas.Nat.{div-add-mod', mod_below}
use Rattle.std.proofs.lemmas.Option.{slice_get_within}
use Rattle.jr_model.specs.declared.workloads.Draw.{Draw}
use Rattle.jr_model.specs.Draws.{draws_of_job}
use Rattle.jr_model.specs.Plan.{SubJob}
use Rattle.jr_model.specs.Rounds.{pass_of, is_write_draw, writes_of, group_of, group_count, group_index}
use Rattle.jr_model.proofs.LegalLaws.{number_of_draw}
use Rattle.jr_laws_quiet.proofs.Tallies.{total, count_by-total}

-- the numbers of these draws rise, from n on
abbrev pub Rising : ℕ → List Draw → Type 0
Rising n [] = Unit {0}
Rising n (x ∷ xs) = (n ≤ x.number) × Rising (suc x.number) xs

pub rising_weaker : (m n : ℕ) (xs : List Draw) → m ≤ n → Rising n xs → Rising m xs
rising_weaker m n [] le h = tt
rising_weaker m n (x ∷ xs) le h = let first = h.0 in (omega (arith, first, le), h.1)

pub rising_take : (n m : ℕ) (xs : List Draw) → Rising n xs → Rising n (take m xs)
rising_take n zero xs h = tt
rising_take n (suc m) [] h = tt
rising_take n (suc m) (x ∷ xs) h = (h.0, rising_take (suc x.number) m xs h.1)

pub rising_drop : (n m : ℕ) (xs : List Draw) → Rising n xs → Rising n (drop m xs)
rising_drop n zero xs h = h
rising_drop n (suc m) [] h = tt
rising_drop n (suc m) (x ∷ xs) h =
    let first = h.0 in
    rising_weaker n (suc x.number) (drop m xs) (omega (arith, first)) (rising_drop (suc x.number) m xs h.1)

pub rising_filter : (p : Draw → Bool) (n : ℕ) (xs : List Draw) → ((k : ℕ) (d : Draw) → slice_get xs k ≡ Some d → d.number ≡ n + k) → Rising n (filter p xs)
rising_filter p n [] h = tt
rising_filter p n (x ∷ xs) h =
    let first : x.number ≡ n = h 0 x refl ∙ add-zero n in
    by_case (p x) first (rising_filter p (suc n) xs (λ (k : ℕ) (d : Draw) (at : slice_get xs k ≡ Some d). later k d (h (suc k) d at)))
  where
    later : (k : ℕ) (d : Draw) → d.number ≡ n + suc k → d.number ≡ suc n + k
    later k d g = omega (arith, g)

    by_case : (b : Bool) → x.number ≡ n → Rising (suc n) (filter p xs) → Rising n (cond b (x ∷ filter p xs) (filter p xs))
    by_case true first rest = (omega (arith, first), subst (λ (m : ℕ). Rising (suc m) (filter p xs)) (sym first) rest)
    by_case false first rest = rising_weaker n (suc n) (filter p xs) (omega arith) rest

pub at_least : (n : ℕ) (xs : List Draw) (i : ℕ) (d : Draw) → Rising n xs → slice_get xs i ≡ Some d → n ≤ d.number
at_least n [] i d h at = cc
at_least n (x ∷ xs) zero d h at =
    let same : x ≡ d = cc in
    subst (λ (y : Draw). n ≤ y.number) same h.0
at_least n (x ∷ xs) (suc i) d h at =
    let first = h.0 in
    let more = at_least (suc x.number) xs i d h.1 at in
    omega (arith, first, more)

-- how many of these draws have numbers below k
abbrev pub rank : List Draw → ℕ → ℕ
rank xs k = total (λ (d : Draw). cond (nat_lt d.number k) 1 0) xs

pub none_below : (n k : ℕ) (xs : List Draw) → Rising n xs → k ≤ n → rank xs k ≡ 0
none_below n k [] h le = refl
none_below n k (x ∷ xs) h le =
    let first = h.0 in
    omega (arith, ap {B = ℕ} (λ (b : Bool). cond b 1 0) (le-ltb x.number k (omega (arith, first, le))), none_below (suc x.number) k xs h.1 (omega (arith, first, le)))

lt_both : (i a b : ℕ) → a ≡ suc b → nat_lt (suc i) a ≡ nat_lt i b
lt_both i a b same =
    elim (cases_lt i b) [
      | inl below ↦ lt-ltb (suc i) a (omega (arith, below, same)) ∙ sym (lt-ltb i b below)
      | inr above ↦ le-ltb (suc i) a (omega (arith, above, same)) ∙ sym (le-ltb i b above)
    ]

-- the draws with numbers below k stand first
pub rank_at : (n k : ℕ) (xs : List Draw) (i : ℕ) (d : Draw) → Rising n xs → slice_get xs i ≡ Some d → nat_lt d.number k ≡ nat_lt i (rank xs k)
rank_at n k [] i d h at = cc
rank_at n k (x ∷ xs) zero d h at =
    let same : x ≡ d = cc in
    subst (λ (y : Draw). nat_lt y.number k ≡ nat_lt 0 (rank (x ∷ xs) k)) same
    (elim (cases_lt x.number k) [
      | inl below ↦
          let one : ◌≡◌ {A = ℕ} (cond (nat_lt x.number k) 1 0) 1 = ap {B = ℕ} (λ (b : Bool). cond b 1 0) (lt-ltb x.number k below) in
          lt-ltb x.number k below ∙ sym (lt-ltb 0 (rank (x ∷ xs) k) (omega (arith, one)))
      | inr above ↦
          let none : ◌≡◌ {A = ℕ} (cond (nat_lt x.number k) 1 0) 0 = ap {B = ℕ} (λ (b : Bool). cond b 1 0) (le-ltb x.number k above) in
          le-ltb x.number k above ∙ sym (le-ltb 0 (rank (x ∷ xs) k) (omega (arith, none, none_below (suc x.number) k xs h.1 (omega (arith, above)))))
    ])
rank_at n k (x ∷ xs) (suc i) d h at =
    elim (cases_lt x.number k) [
      | inl below ↦
          let one : ◌≡◌ {A = ℕ} (cond (nat_lt x.number k) 1 0) 1 = ap {B = ℕ} (λ (b : Bool). cond b 1 0) (lt-ltb x.number k below) in
          rank_at (suc x.number) k xs i d h.1 at ∙ sym (lt_both i (rank (x ∷ xs) k) (rank xs k) (omega (arith, one)))
      | inr above ↦
          let none : ◌≡◌ {A = ℕ} (cond (nat_lt x.number k) 1 0) 0 = ap {B = ℕ} (λ (b : Bool). cond b 1 0) (le-ltb x.number k above) in
          let beyond = at_least (suc x.number) xs i d h.1 at in
          le-ltb d.number k (omega (arith, beyond, above))
          ∙ sym (le-ltb (suc i) (rank (x ∷ xs) k) (omega (arith, none, none_below (suc x.number) k xs h.1 (omega (arith, above)))))
    ]

pub rank_self : (n : ℕ) (xs : List Draw) (i : ℕ) (d : Draw) → Rising n xs → slice_get xs i ≡ Some d → rank xs d.number ≡ i
rank_self n [] i d h at = cc
rank_self n (x ∷ xs) zero d h at =
    let same : x ≡ d = cc in
    let here : rank (x ∷ xs) x.number ≡ 0 = omega (arith, ap {B = ℕ} (λ (b : Bool). cond b 1 0) (le-ltb x.number x.number (omega arith)), none_below (suc x.number) x.number xs h.1 (omega arith)) in
    subst (λ (y : Draw). rank (x ∷ xs) y.number ≡ 0) same here
rank_self n (x ∷ xs) (suc i) d h at =
    let beyond = at_least (suc x.number) xs i d h.1 at in
    omega (arith, ap {B = ℕ} (λ (b : Bool). cond b 1 0) (lt-ltb x.number d.number (omega (arith, beyond))), rank_self (suc x.number) xs i d h.1 at)

pub rank_le_length : (xs : List Draw) (k : ℕ) → rank xs k ≤ length xs
rank_le_length [] k = omega arith
rank_le_length (x ∷ xs) k = one_at_most (nat_lt x.number k) (rank_le_length xs k)
  where
    one_at_most : (b : Bool) → rank xs k ≤ length xs → cond b 1 0 + rank xs k ≤ suc (length xs)
    one_at_most true h = omega (arith, h)
    one_at_most false h = omega (arith, h)

pub got_filter : {X : Type 0} (p : X → Bool) (xs : List X) (k : ℕ) (x : X) → slice_get xs k ≡ Some x → p x ≡ true → (i : ℕ) × (slice_get (filter p xs) i ≡ Some x)
got_filter p [] k x at passes = cc
got_filter {X = X} p (y ∷ xs) zero x at passes =
    let same : y ≡ x = cc in
    (0, ap (λ (b : Bool). slice_get (cond b (y ∷ filter p xs) (filter p xs)) 0) (ap p same ∙ passes) ∙ ap Some same)
got_filter {X = X} p (y ∷ xs) (suc k) x at passes =
    by_case (p y) (got_filter p xs k x at passes)
  where
    by_case : (b : Bool) → (i : ℕ) × (slice_get (filter p xs) i ≡ Some x) → (i : ℕ) × (slice_get (cond b (y ∷ filter p xs) (filter p xs)) i ≡ Some x)
    by_case true found = (suc found.0, found.1)
    by_case false found = found

pub got_take : {X : Type 0} (n : ℕ) (xs : List X) (j : ℕ) → j < n → slice_get (take n xs) j ≡ slice_get xs j
got_take zero xs j below = absurd (omega arith)
got_take (suc n) [] j below = refl
got_take (suc n) (x ∷ xs) zero below = refl
got_take (suc n) (x ∷ xs) (suc j) below = got_take n xs j (omega (arith, below))

pub got_drop : {X : Type 0} (n : ℕ) (xs : List X) (j : ℕ) → slice_get (drop n xs) j ≡ slice_get xs (n + j)
got_drop zero xs j = ap (slice_get xs) (sym (zero-add j))
got_drop (suc n) [] j = refl
got_drop (suc n) (x ∷ xs) j = got_drop n xs j ∙ ap (slice_get (x ∷ xs)) (moved n j)
  where
    moved : (a b : ℕ) → suc (a + b) ≡ suc a + b
    moved a b = omega arith

pub take_within : {X : Type 0} (n : ℕ) (xs : List X) (j : ℕ) (x : X) → slice_get (take n xs) j ≡ Some x → j < n
take_within n xs j x at =
    let within = slice_get_within (take n xs) j x at in
    omega (arith, within, length-take n xs)

pub writes_rise : (job : SubJob) (p : ℕ) → Rising 0 (writes_of (pass_of job p))
writes_rise job p =
    rising_filter is_write_draw 0 (draws_of_job job p)
    (λ (k : ℕ) (d : Draw) (at : slice_get (draws_of_job job p) k ≡ Some d). number_of_draw job p k d at ∙ sym (zero-add k))

-- a cut of a list into groups of b
pub group_place : {X : Type 0} (b i : ℕ) (xs : List X) → 0 < b → slice_get (take b (drop (i / b * b) xs)) (i % b) ≡ slice_get xs i
group_place b i xs some =
    got_take b (drop (i / b * b) xs) (i % b) (mod_below i b some)
    ∙ got_drop (i / b * b) xs (i % b)
    ∙ ap (slice_get xs) (div-add-mod' i b)

module _ (job : SubJob) (p : ℕ) where
  abbrev writes : List Draw
  writes = writes_of (pass_of job p)

  pub index_is : (k : ℕ) → (job.backlog == 0) ≡ false → group_index (pass_of job p) k ≡ rank writes k / job.backlog
  index_is k some =
      ap (λ (b : Bool). cond b 0 (count_by (λ (d : Draw). nat_lt d.number k) writes / job.backlog)) some
      ∙ ap (λ (n : ℕ). n / job.backlog) (count_by-total (λ (d : Draw). nat_lt d.number k) writes)

  pub index_is_none : (k : ℕ) → (job.backlog == 0) ≡ true → group_index (pass_of job p) k ≡ 0
  index_is_none k none = ap (λ (b : Bool). cond b 0 (count_by (λ (d : Draw). nat_lt d.number k) writes / job.backlog)) none

  pub group_is : (g : ℕ) → (job.backlog == 0) ≡ false → group_of (pass_of job p) g ≡ take job.backlog (drop (g * job.backlog) writes)
  group_is g some = ap (λ (b : Bool). cond b writes (take job.backlog (drop (g * job.backlog) writes))) some

  pub group_is_all : (g : ℕ) → (job.backlog == 0) ≡ true → group_of (pass_of job p) g ≡ writes
  group_is_all g none = ap (λ (b : Bool). cond b writes (take job.backlog (drop (g * job.backlog) writes))) none

  pub count_is : (job.backlog == 0) ≡ false → group_count (pass_of job p) ≡ (length writes + job.backlog - 1) / job.backlog
  count_is some = ap (λ (b : Bool). cond b 1 ((length writes + job.backlog - 1) / job.backlog)) some

  pub count_is_one : (job.backlog == 0) ≡ true → group_count (pass_of job p) ≡ 1
  count_is_one none = ap (λ (b : Bool). cond b 1 ((length writes + job.backlog - 1) / job.backlog)) none

  pub positive : (job.backlog == 0) ≡ false → 0 < job.backlog
  positive some =
      elim (cases_lt 0 job.backlog) [
        | inl above ↦ above
        | inr none ↦ absurd (eqb-false job.backlog 0 some (omega (arith, none)))
      ]
