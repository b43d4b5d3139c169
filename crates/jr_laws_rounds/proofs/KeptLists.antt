-- Lists of draws: what one draw more that is issued, or one write that is passed, makes of what is left.
use Rattle.std.proofs.Common.{◌≡◌, ℕ, zero, suc, ◌+◌, ◌*◌, List, [], ◌∷◌, ◌++◌, drop, map, Bool, true, false, cond, ◌&&◌, not, refl, sym, ◌∙◌, ap, subst, arith, inl, inr}
use Rattle.std.specs.Prelude.{◌⊎◌, Some, slice_get, nat_lt, ◌==◌, filter, count_by}
use Rattle.std.proofs.lemmas.Bool.{and_left, cases_Bool, lt-ltb, le-ltb}
use Rattle.jr_model.specs.declared.workloads.Draw.{Draw}
use Rattle.jr_model.specs.Plan.{SubJob}
use Rattle.jr_model.specs.Rounds.{pass_of, group_of, writes_of}
use Rattle.jr_laws_quiet.proofs.Tallies.{total_same_at, total_zero, count_by-total}
use Rattle.jr_laws_quiet.proofs.Groups.{Rising, rising_take, rising_drop, at_least, rank, none_below, writes_rise, group_is, group_is_all}
use Rattle.jr_laws_rounds.proofs.CurrentRounds.{filter_none}

-- tests that agree at each place
pub filter_same : {X : Type 0} (p q : X → Bool) (xs : List X) → ((k : ℕ) (x : X) → slice_get xs k ≡ Some x → p x ≡ q x) → filter p xs ≡ filter q xs
filter_same p q [] each = refl
filter_same {X = X} p q (x ∷ xs) each =
    ap (λ (b : Bool). cond b (x ∷ filter p xs) (filter p xs)) (each 0 x refl)
    ∙ ap (λ (ys : List X). cond (q x) (x ∷ ys) ys) (filter_same p q xs (λ (k : ℕ) (y : X) (at : slice_get xs k ≡ Some y). each (suc k) y at))

pub count_same : {X : Type 0} (p q : X → Bool) (xs : List X) → ((k : ℕ) (x : X) → slice_get xs k ≡ Some x → p x ≡ q x) → count_by p xs ≡ count_by q xs
count_same {X = X} p q xs each =
    count_by-total p xs
    ∙ total_same_at (λ (x : X). cond (p x) 1 0) (λ (x : X). cond (q x) 1 0) xs (λ (k : ℕ) (x : X) (at : slice_get xs k ≡ Some x). ap {B = ℕ} (λ (b : Bool). cond b 1 0) (each k x at))
    ∙ sym (count_by-total q xs)

pub count_none : {X : Type 0} (p : X → Bool) (xs : List X) → ((k : ℕ) (x : X) → slice_get xs k ≡ Some x → p x ≡ false) → count_by p xs ≡ 0
count_none {X = X} p xs each =
    count_same p (λ (x : X). false) xs each
    ∙ count_by-total (λ (x : X). false) xs
    ∙ total_zero (λ (x : X). 0) xs (λ (x : X). refl)

-- what is taken out of a list that was made from another
pub filter_made : {X Y : Type 0} (gone : Y → Bool) (f : X → Y) (q : X → Bool) (xs : List X) → filter (λ (y : Y). not (gone y)) (map f (filter q xs)) ≡ map f (filter (λ (x : X). q x && not (gone (f x))) xs)
filter_made gone f q [] = refl
filter_made {X = X} {Y = Y} gone f q (x ∷ xs) = first (q x) (filter_made gone f q xs)
  where
    kept : List X
    kept = filter q xs

    left : List X
    left = filter (λ (z : X). q z && not (gone (f z))) xs

    second : (c : Bool) → filter (λ (y : Y). not (gone y)) (map f kept) ≡ map f left → cond c (f x ∷ filter (λ (y : Y). not (gone y)) (map f kept)) (filter (λ (y : Y). not (gone y)) (map f kept)) ≡ map f (cond c (x ∷ left) left)
    second true rest = ap (λ (ys : List Y). f x ∷ ys) rest
    second false rest = rest

    first : (a : Bool) → filter (λ (y : Y). not (gone y)) (map f kept) ≡ map f left → filter (λ (y : Y). not (gone y)) (map f (cond a (x ∷ kept) kept)) ≡ map f (cond (a && not (gone (f x))) (x ∷ left) left)
    first true rest = second (not (gone (f x))) rest
    first false rest = rest

-- the draws of a group are in order
pub group_rises : (job : SubJob) (p g : ℕ) → Rising 0 (group_of (pass_of job p) g)
group_rises job p g = by_backlog (cases_Bool (job.backlog == 0))
  where
    by_backlog : ((job.backlog == 0) ≡ true) ⊎ ((job.backlog == 0) ≡ false) → Rising 0 (group_of (pass_of job p) g)
    by_backlog (inl none) = subst (Rising 0) (sym (group_is_all job p g none)) (writes_rise job p)
    by_backlog (inr some) =
        subst (Rising 0) (sym (group_is job p g some))
        (rising_take 0 job.backlog (drop (g * job.backlog) (writes_of (pass_of job p))) (rising_drop 0 (g * job.backlog) (writes_of (pass_of job p)) (writes_rise job p)))

-- once draw n is issued too, it comes last of those that are left
pub next_left : (s : Draw → Bool) (low n : ℕ) (xs : List Draw) (j : ℕ) (d : Draw) → Rising low xs → slice_get xs j ≡ Some d → d.number ≡ n → s d ≡ true → filter (λ (x : Draw). nat_lt x.number (suc n) && s x) xs ≡ filter (λ (x : Draw). nat_lt x.number n && s x) xs ++ d ∷ []
next_left s low n [] j d rising at number stays = cc
next_left s low n (x ∷ xs) zero d rising at number stays =
    let same : x ≡ d = cc in
    let is_n : x.number ≡ n = ap (λ (y : Draw). y.number) same ∙ number in
    let wide : (k : ℕ) (y : Draw) → slice_get xs k ≡ Some y → (nat_lt y.number (suc n) && s y) ≡ false =
    λ k y there. let beyond = at_least (suc x.number) xs k y rising.1 there in and_left (nat_lt y.number (suc n)) (s y) (le-ltb y.number (suc n) (omega (arith, beyond, is_n))) in
    let tight : (k : ℕ) (y : Draw) → slice_get xs k ≡ Some y → (nat_lt y.number n && s y) ≡ false =
    λ k y there. let beyond = at_least (suc x.number) xs k y rising.1 there in and_left (nat_lt y.number n) (s y) (le-ltb y.number n (omega (arith, beyond, is_n))) in
    let none_wide = filter_none (λ (y : Draw). nat_lt y.number (suc n) && s y) xs wide in
    let none_tight = filter_none (λ (y : Draw). nat_lt y.number n && s y) xs tight in
    let takes : (nat_lt x.number (suc n) && s x) ≡ true =
    ap (λ (b : Bool). b && s x) (lt-ltb x.number (suc n) (omega (arith, is_n))) ∙ ap s same ∙ stays in
    let leaves : (nat_lt x.number n && s x) ≡ false = and_left (nat_lt x.number n) (s x) (le-ltb x.number n (omega (arith, is_n))) in
    ap (λ (b : Bool). cond b (x ∷ filter (λ (y : Draw). nat_lt y.number (suc n) && s y) xs) (filter (λ (y : Draw). nat_lt y.number (suc n) && s y) xs)) takes
    ∙ ap (λ (ys : List Draw). x ∷ ys) none_wide
    ∙ ap (λ (y : Draw). y ∷ []) same
    ∙ ap (λ (ys : List Draw). ys ++ d ∷ []) (sym none_tight)
    ∙ ap (λ (b : Bool). cond b (x ∷ filter (λ (y : Draw). nat_lt y.number n && s y) xs) (filter (λ (y : Draw). nat_lt y.number n && s y) xs) ++ d ∷ []) (sym leaves)
next_left s low n (x ∷ xs) (suc j) d rising at number stays =
    let beyond = at_least (suc x.number) xs j d rising.1 at in
    let both : (nat_lt x.number (suc n) && s x) ≡ s x = ap (λ (b : Bool). b && s x) (lt-ltb x.number (suc n) (omega (arith, beyond, number))) in
    let one : (nat_lt x.number n && s x) ≡ s x = ap (λ (b : Bool). b && s x) (lt-ltb x.number n (omega (arith, beyond, number))) in
    let wide : List Draw = filter (λ (y : Draw). nat_lt y.number (suc n) && s y) xs in
    let tight : List Draw = filter (λ (y : Draw). nat_lt y.number n && s y) xs in
    ap (λ (b : Bool). cond b (x ∷ wide) wide) both
    ∙ by_stay (s x) wide tight (next_left s (suc x.number) n xs j d rising.1 at number stays)
    ∙ ap (λ (b : Bool). cond b (x ∷ tight) tight ++ d ∷ []) (sym one)
  where
    by_stay : (b : Bool) (wide tight : List Draw) → wide ≡ tight ++ d ∷ [] → cond b (x ∷ wide) wide ≡ cond b (x ∷ tight) tight ++ d ∷ []
    by_stay true wide tight rest = ap (λ (ys : List Draw). x ∷ ys) rest
    by_stay false wide tight rest = rest

-- and one draw more is counted
next_rank : (low n : ℕ) (xs : List Draw) (j : ℕ) (d : Draw) → Rising low xs → slice_get xs j ≡ Some d → d.number ≡ n → rank xs (suc n) ≡ rank xs n + 1
next_rank low n [] j d rising at number = cc
next_rank low n (x ∷ xs) zero d rising at number =
    let same : x ≡ d = cc in
    let is_n : x.number ≡ n = ap (λ (y : Draw). y.number) same ∙ number in
    omega (
      arith,
      ap {B = ℕ} (λ (b : Bool). cond b 1 0) (lt-ltb x.number (suc n) (omega (arith, is_n))),
      ap {B = ℕ} (λ (b : Bool). cond b 1 0) (le-ltb x.number n (omega (arith, is_n))),
      none_below (suc x.number) (suc n) xs rising.1 (omega (arith, is_n)),
      none_below (suc x.number) n xs rising.1 (omega (arith, is_n)),
    )
next_rank low n (x ∷ xs) (suc j) d rising at number =
    let beyond = at_least (suc x.number) xs j d rising.1 at in
    omega (
      arith,
      ap {B = ℕ} (λ (b : Bool). cond b 1 0) (lt-ltb x.number (suc n) (omega (arith, beyond, number))),
      ap {B = ℕ} (λ (b : Bool). cond b 1 0) (lt-ltb x.number n (omega (arith, beyond, number))),
      next_rank (suc x.number) n xs j d rising.1 at number,
    )

pub next_count : (low n : ℕ) (xs : List Draw) (j : ℕ) (d : Draw) → Rising low xs → slice_get xs j ≡ Some d → d.number ≡ n → count_by (λ (x : Draw). nat_lt x.number (suc n)) xs ≡ count_by (λ (x : Draw). nat_lt x.number n) xs + 1
next_count low n xs j d rising at number =
    count_by-total (λ (x : Draw). nat_lt x.number (suc n)) xs
    ∙ next_rank low n xs j d rising at number
    ∙ ap (λ (m : ℕ). m + 1) (sym (count_by-total (λ (x : Draw). nat_lt x.number n) xs))
