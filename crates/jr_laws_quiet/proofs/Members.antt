-- The writes of a group: when it is full they are all issued, and those that stay last are those that are checked.
use Rattle.std.proofs.Common.{◌≡◌, ℕ, zero, suc, ◌+◌, ◌-◌, ◌*◌, ◌/◌, ◌%◌, ◌<◌, ◌≤◌, List, [], ◌∷◌, length, take, drop, Bool, true, false, cond, ◌&&◌, ◌||◌, not, refl, sym, ◌∙◌, ap, subst, arith, inl, inr, length-take, length-drop}
use Rattle.std.specs.Prelude.{◌⊎◌, Some, slice_get, nat_lt, ◌==◌}
use Rattle.std.specs.List.{list_any, range_with_len}
use Rattle.std.proofs.lemmas.Bool.{and_parts, and_from, and_left, eqb-true, eq-eqb, lt-ltb, le-ltb, ltb-true, cases_Bool, cases_lt, or_right, or_cases, ne_eqb}
use Rattle.std.proofs.lemmas.List.{drop-drop, drop_all, take-append-drop}
use Rattle.std.proofs.lemmas.Nat.{div-add-mod', div-mul-add, le-div, mod_below, mul-le}
use Rattle.std.proofs.Math.Nat.{suc-mul}
use Rattle.std.proofs.lemmas.Option.{slice_get_within}
use Rattle.jr_model.specs.declared.events.Event.{Event}
use Rattle.jr_model.specs.declared.workloads.Draw.{Draw}
use Rattle.jr_model.specs.Draws.{draws_of_job}
use Rattle.jr_model.specs.Pieces.{pieces_overlap}
use Rattle.jr_model.specs.Plan.{SubJob}
use Rattle.jr_model.specs.Quiet.{checked_among, checks_of_pass}
use Rattle.jr_model.specs.Rounds.{pass_of, is_write_draw, issued_count, all_issued, issued_among, writes_of, group_of, group_count, group_index, is_full}
use Rattle.jr_model.proofs.PlaceLemmas.{got_filtered}
use Rattle.jr_model.proofs.LegalLaws.{number_of_draw}
use Rattle.jr_laws_quiet.specs.Quiet.{later_over, is_last_in, stays_last}
use Rattle.jr_laws_quiet.proofs.Tallies.{total, upto, total-filter, total_same, total_same_at, sum_map-total, total_upto, count_by-total, total-append, upto_same_below}
use Rattle.jr_laws_quiet.proofs.Groups.{Rising, rising_take, rising_drop, rank, rank_at, rank_self, rank_le_length, at_least, got_filter, got_take, got_drop, take_within, writes_rise, group_place, index_is, index_is_none, group_is, group_is_all, count_is, count_is_one, positive}

-- it stands in group g of the pass
pub record InGroup (job : SubJob) (p g : ℕ) (d : Draw) : Type 0 where
  pub place : ℕ
  pub at : slice_get (group_of (pass_of job p) g) place ≡ Some d

-- each write has its group
pub in_own_group : (job : SubJob) (p k : ℕ) (d : Draw) → slice_get (draws_of_job job p) k ≡ Some d → is_write_draw d ≡ true → InGroup job p (group_index (pass_of job p) k) d × (group_index (pass_of job p) k < group_count (pass_of job p))
in_own_group job p k d at write = by_backlog (cases_Bool (job.backlog == 0))
  where
    found : (i : ℕ) × (slice_get (writes_of (pass_of job p)) i ≡ Some d)
    found = got_filter is_write_draw (draws_of_job job p) k d at write

    rank_is : rank (writes_of (pass_of job p)) k ≡ found.0
    rank_is =
        ap (rank (writes_of (pass_of job p))) (sym (number_of_draw job p k d at))
        ∙ rank_self 0 (writes_of (pass_of job p)) found.0 d (writes_rise job p) found.1

    fits : (i b n : ℕ) → 0 < b → i < n → suc (i / b) * b ≤ n + b - 1
    fits i b n some within = omega (arith, suc-mul (i / b) b, div-add-mod' i b, some, within)

    by_backlog : ((job.backlog == 0) ≡ true) ⊎ ((job.backlog == 0) ≡ false) → InGroup job p (group_index (pass_of job p) k) d × (group_index (pass_of job p) k < group_count (pass_of job p))
    by_backlog (inl none) = (
      record {
        place = found.0;
        at = ap (λ (ds : List Draw). slice_get ds found.0) (group_is_all job p (group_index (pass_of job p) k) none) ∙ found.1;
      },
      omega (arith, index_is_none job p k none, count_is_one job p none),
    )
    by_backlog (inr some) =
        let b = job.backlog in
        let i = found.0 in
        let ws = writes_of (pass_of job p) in
        let index : group_index (pass_of job p) k ≡ i / b = index_is job p k some ∙ ap (λ (n : ℕ). n / b) rank_is in
        let below : suc (i / b) ≤ (length ws + b - 1) / b =
        le-div (suc (i / b)) (length ws + b - 1) b (positive job p some) (fits i b (length ws) (positive job p some) (slice_get_within ws i d found.1)) in (
          record {
            place = i % b;
            at = ap (λ (ds : List Draw). slice_get ds (i % b)) (group_is job p (group_index (pass_of job p) k) some)
                ∙ ap (λ (n : ℕ). slice_get (take b (drop (n * b) ws)) (i % b)) index
                ∙ group_place b i ws (positive job p some)
                ∙ found.1;
          },
          omega (arith, index, below, count_is job p some),
        )

-- a member of a group is a write of the pass whose group it is
pub record IsMember (job : SubJob) (p g : ℕ) (d : Draw) : Type 0 where
  pub drawn : slice_get (draws_of_job job p) d.number ≡ Some d
  pub writes : is_write_draw d ≡ true
  pub index : group_index (pass_of job p) d.number ≡ g

pub member_is : (job : SubJob) (p g : ℕ) (d : Draw) → InGroup job p g d → g < group_count (pass_of job p) → IsMember job p g d
member_is job p g d member below = by_backlog (cases_Bool (job.backlog == 0))
  where
    as_draw : (i : ℕ) → slice_get (writes_of (pass_of job p)) i ≡ Some d → (slice_get (draws_of_job job p) d.number ≡ Some d) × (is_write_draw d ≡ true)
    as_draw i at =
        let found = got_filtered is_write_draw (draws_of_job job p) i d at in
        (ap (slice_get (draws_of_job job p)) (number_of_draw job p found.0 d found.1) ∙ found.1, found.2)

    by_backlog : ((job.backlog == 0) ≡ true) ⊎ ((job.backlog == 0) ≡ false) → IsMember job p g d
    by_backlog (inl none) =
        let drawn = as_draw member.place (ap (λ (ds : List Draw). slice_get ds member.place) (sym (group_is_all job p g none)) ∙ member.at) in
        record { drawn = drawn.0; writes = drawn.1; index = omega (arith, index_is_none job p d.number none, count_is_one job p none, below) }
    by_backlog (inr some) =
        let b = job.backlog in
        let j = member.place in
        let ws = writes_of (pass_of job p) in
        let there : slice_get (take b (drop (g * b) ws)) j ≡ Some d = ap (λ (ds : List Draw). slice_get ds j) (sym (group_is job p g some)) ∙ member.at in
        let within : j < b = take_within b (drop (g * b) ws) j d there in
        let place : slice_get ws (g * b + j) ≡ Some d = sym (got_take b (drop (g * b) ws) j within ∙ got_drop (g * b) ws j) ∙ there in
        let drawn = as_draw (g * b + j) place in
        record {
          drawn = drawn.0;
          writes = drawn.1;
          index = index_is job p d.number some
              ∙ ap (λ (n : ℕ). n / b) (rank_self 0 ws (g * b + j) d (writes_rise job p) place)
              ∙ div-mul-add g b j within;
        }

-- where all of a list is counted, each is
pub all_counted : (xs : List Draw) (k j : ℕ) (d : Draw) → length xs ≤ rank xs k → slice_get xs j ≡ Some d → d.number < k
all_counted [] k j d all at = cc
all_counted (x ∷ xs) k j d all at =
    elim (cases_lt x.number k) [
      | inl below ↦
          let one : ◌≡◌ {A = ℕ} (cond (nat_lt x.number k) 1 0) 1 = ap {B = ℕ} (λ (b : Bool). cond b 1 0) (lt-ltb x.number k below) in
          by_place j at below (λ (i : ℕ) (there : slice_get xs i ≡ Some d). all_counted xs k i d (omega (arith, all, one)) there)
      | inr above ↦
          let none : ◌≡◌ {A = ℕ} (cond (nat_lt x.number k) 1 0) 0 = ap {B = ℕ} (λ (b : Bool). cond b 1 0) (le-ltb x.number k above) in
          absurd (omega (arith, all, none, rank_le_length xs k))
    ]
  where
    by_place : (i : ℕ) → slice_get (x ∷ xs) i ≡ Some d → x.number < k → ((m : ℕ) → slice_get xs m ≡ Some d → d.number < k) → d.number < k
    by_place zero there below rest = let same : x ≡ d = cc in subst (λ (y : Draw). y.number < k) same below
    by_place (suc i) there below rest = rest i there

pub counted_all : (xs : List Draw) (k : ℕ) → ((j : ℕ) (d : Draw) → slice_get xs j ≡ Some d → d.number < k) → rank xs k ≡ length xs
counted_all [] k each = refl
counted_all (x ∷ xs) k each =
    omega (
      arith,
      ap {B = ℕ} (λ (b : Bool). cond b 1 0) (lt-ltb x.number k (each 0 x refl)),
      counted_all xs k (λ (j : ℕ) (d : Draw) (at : slice_get xs j ≡ Some d). each (suc j) d at),
    )

-- each write of a full group was issued
pub full_issued : (h : List Event) (job : SubJob) (p g : ℕ) (d : Draw) → is_full h (pass_of job p) g ≡ true → InGroup job p g d → g < group_count (pass_of job p) → d.number < issued_count h (pass_of job p)
full_issued h job p g d full member below =
    by_reason (or_cases (all_issued h (pass_of job p)) (nat_lt 0 job.backlog && (issued_among h (pass_of job p) (group_of (pass_of job p) g) == job.backlog)) full)
  where
    short : (some : (job.backlog == 0) ≡ false) → length (group_of (pass_of job p) g) ≤ job.backlog
    short some = omega (arith, ap length (group_is job p g some), length-take job.backlog (drop (g * job.backlog) (writes_of (pass_of job p))))

    by_reason : (all_issued h (pass_of job p) ≡ true) ⊎ ((nat_lt 0 job.backlog && (issued_among h (pass_of job p) (group_of (pass_of job p) g) == job.backlog)) ≡ true) → d.number < issued_count h (pass_of job p)
    by_reason (inl all) =
        let every : issued_count h (pass_of job p) ≡ length (draws_of_job job p) = eqb-true (issued_count h (pass_of job p)) (length (draws_of_job job p)) all in
        omega (arith, every, slice_get_within (draws_of_job job p) d.number d (member_is job p g d member below).drawn)
    by_reason (inr many) =
        let parts = and_parts (nat_lt 0 job.backlog) (issued_among h (pass_of job p) (group_of (pass_of job p) g) == job.backlog) many in
        let above : 0 < job.backlog = ltb-true 0 job.backlog parts.0 in
        let some : (job.backlog == 0) ≡ false = ne_eqb job.backlog 0 (λ same. absurd (omega (arith, same, above))) in
        let count : rank (group_of (pass_of job p) g) (issued_count h (pass_of job p)) ≡ job.backlog =
        sym (count_by-total (λ (draw : Draw). nat_lt draw.number (issued_count h (pass_of job p))) (group_of (pass_of job p) g))
        ∙ eqb-true (issued_among h (pass_of job p) (group_of (pass_of job p) g)) job.backlog parts.1 in
        all_counted (group_of (pass_of job p) g) (issued_count h (pass_of job p)) member.place d (omega (arith, count, short some)) member.at

-- a group before that of the next draw is full
pub before_full : (h : List Event) (job : SubJob) (p g k : ℕ) → g < group_index (pass_of job p) k → k ≤ issued_count h (pass_of job p) → (is_full h (pass_of job p) g ≡ true) × (g < group_count (pass_of job p))
before_full h job p g k before reached = by_backlog (cases_Bool (job.backlog == 0))
  where
    by_backlog : ((job.backlog == 0) ≡ true) ⊎ ((job.backlog == 0) ≡ false) → (is_full h (pass_of job p) g ≡ true) × (g < group_count (pass_of job p))
    by_backlog (inl none) = absurd (omega (arith, before, index_is_none job p k none))
    by_backlog (inr some) =
        let b = job.backlog in
        let ws = writes_of (pass_of job p) in
        let n = issued_count h (pass_of job p) in
        let group = group_of (pass_of job p) g in
        let q = rank ws k / b in
        let above : 0 < b = positive job p some in
        let under : suc g ≤ q = omega (arith, before, index_is job p k some) in
        let products : suc g * b ≤ q * b = mul-le (suc g) b q b under (omega arith) in
        let reach : g * b + b ≤ rank ws k = omega (arith, products, suc-mul g b, div-add-mod' (rank ws k) b) in
        let long = rank_le_length ws k in
        let cut : group ≡ take b (drop (g * b) ws) = group_is job p g some in
        let size : length group ≡ b = omega (arith, ap length cut, length-take b (drop (g * b) ws), length-drop (g * b) ws, reach, long) in
        let each : (j : ℕ) (d : Draw) → slice_get group j ≡ Some d → d.number < n =
        λ (j : ℕ) (d : Draw) (at : slice_get group j ≡ Some d).
        let there : slice_get (take b (drop (g * b) ws)) j ≡ Some d = ap (λ (ds : List Draw). slice_get ds j) (sym cut) ∙ at in
        let within : j < b = take_within b (drop (g * b) ws) j d there in
        let place : slice_get ws (g * b + j) ≡ Some d = sym (got_take b (drop (g * b) ws) j within ∙ got_drop (g * b) ws j) ∙ there in
        let low : d.number < k = ltb-true d.number k (rank_at 0 k ws (g * b + j) d (writes_rise job p) place ∙ lt-ltb (g * b + j) (rank ws k) (omega (arith, within, reach))) in
        omega (arith, low, reached) in
        let count : issued_among h (pass_of job p) group ≡ b =
        count_by-total (λ (draw : Draw). nat_lt draw.number n) group ∙ counted_all group n each ∙ size in
        let last : suc g ≤ (length ws + b - 1) / b = le-div (suc g) (length ws + b - 1) b above (omega (arith, suc-mul g b, reach, long, above)) in (
          or_right (all_issued h (pass_of job p)) (nat_lt 0 b && (issued_among h (pass_of job p) group == b))
              (and_from (nat_lt 0 b) (issued_among h (pass_of job p) group == b) (lt-ltb 0 b above) (eq-eqb (issued_among h (pass_of job p) group) b count)),
          omega (arith, last, count_is job p some),
        )

pub rank_mono : (xs : List Draw) (j k : ℕ) → j ≤ k → rank xs j ≤ rank xs k
rank_mono [] j k le = omega arith
rank_mono (x ∷ xs) j k le =
    elim (cases_lt x.number j) [
      | inl below ↦
          omega (
            arith,
            ap {B = ℕ} (λ (b : Bool). cond b 1 0) (lt-ltb x.number j below),
            ap {B = ℕ} (λ (b : Bool). cond b 1 0) (lt-ltb x.number k (omega (arith, below, le))),
            rank_mono xs j k le,
          )
      | inr above ↦
          omega (arith, ap {B = ℕ} (λ (b : Bool). cond b 1 0) (le-ltb x.number j above), rank_mono xs j k le)
    ]

pub index_mono : (job : SubJob) (p j k : ℕ) → j ≤ k → group_index (pass_of job p) j ≤ group_index (pass_of job p) k
index_mono job p j k le = by_backlog (cases_Bool (job.backlog == 0))
  where
    by_backlog : ((job.backlog == 0) ≡ true) ⊎ ((job.backlog == 0) ≡ false) → group_index (pass_of job p) j ≤ group_index (pass_of job p) k
    by_backlog (inl none) = omega (arith, index_is_none job p j none)
    by_backlog (inr some) =
        let b = job.backlog in
        let ws = writes_of (pass_of job p) in
        let quotients : rank ws j / b ≤ rank ws k / b =
        le-div (rank ws j / b) (rank ws k) b (positive job p some) (omega (arith, div-add-mod' (rank ws j) b, rank_mono ws j k le)) in
        omega (arith, quotients, index_is job p j some, index_is job p k some)

any_beyond : (n : ℕ) (x : Draw) (xs : List Draw) → x.number < n → Rising n xs → list_any (later_over x) xs ≡ list_any (λ (other : Draw). pieces_overlap x.piece other.piece) xs
any_beyond n x [] low rising = refl
any_beyond n x (y ∷ ys) low rising =
    let first = rising.0 in
    ap (λ (b : Bool). (b && pieces_overlap x.piece y.piece) || list_any (later_over x) ys) (lt-ltb x.number y.number (omega (arith, low, first)))
    ∙ ap (λ (b : Bool). pieces_overlap x.piece y.piece || b) (any_beyond (suc y.number) x ys (omega (arith, low, first)) rising.1)

pub checked_sum : (n : ℕ) (xs : List Draw) → Rising n xs → checked_among xs ≡ total (λ (d : Draw). cond (is_last_in xs d) 1 0) xs
checked_sum n [] rising = refl
checked_sum n (x ∷ xs) rising =
    let own : later_over x x ≡ false = and_left (nat_lt x.number x.number) (pieces_overlap x.piece x.piece) (le-ltb x.number x.number (omega arith)) in
    let beyond = any_beyond (suc x.number) x xs (omega arith) rising.1 in
    let first : ◌≡◌ {A = ℕ} (cond (is_last_in (x ∷ xs) x) 1 0) (cond (list_any (λ (other : Draw). pieces_overlap x.piece other.piece) xs) 0 1) =
    ap {B = ℕ} (λ (b : Bool). cond (not (b || list_any (later_over x) xs)) 1 0) own
    ∙ ap {B = ℕ} (λ (b : Bool). cond (not b) 1 0) beyond
    ∙ turned (list_any (λ (other : Draw). pieces_overlap x.piece other.piece) xs) in
    let rest : total (λ (d : Draw). cond (is_last_in (x ∷ xs) d) 1 0) xs ≡ total (λ (d : Draw). cond (is_last_in xs d) 1 0) xs =
    total_same_at (λ (d : Draw). cond (is_last_in (x ∷ xs) d) 1 0) (λ (d : Draw). cond (is_last_in xs d) 1 0) xs
    (λ (k : ℕ) (d : Draw) (at : slice_get xs k ≡ Some d).
    let after = at_least (suc x.number) xs k d rising.1 at in
    ap {B = ℕ} (λ (b : Bool). cond (not (b || list_any (later_over d) xs)) 1 0)
    (and_left (nat_lt d.number x.number) (pieces_overlap d.piece x.piece) (le-ltb d.number x.number (omega (arith, after))))) in
    omega (arith, first, rest, checked_sum (suc x.number) xs rising.1)
  where
    turned : (b : Bool) → ◌≡◌ {A = ℕ} (cond (not b) 1 0) (cond b 0 1)
    turned true = refl
    turned false = refl

-- the groups of a list make it up
pub upto_cut : {X : Type 0} (f : X → ℕ) (b n : ℕ) (xs : List X) → upto (λ (g : ℕ). total f (take b (drop (g * b) xs))) n + total f (drop (n * b) xs) ≡ total f xs
upto_cut f b zero xs =
    let none : zero * b ≡ 0 = omega arith in
    omega (arith, ap (λ (k : ℕ). total f (drop k xs)) none)
upto_cut {X = X} f b (suc n) xs =
    let ys = drop (n * b) xs in
    let halves : total f (take b ys) + total f (drop b ys) ≡ total f ys = sym (total-append f (take b ys) (drop b ys)) ∙ ap (total f) (take-append-drop b ys) in
    let further : total f (drop b ys) ≡ total f (drop (suc n * b) xs) = ap (total f) (drop-drop b (n * b) xs) ∙ ap (λ (k : ℕ). total f (drop k xs)) (sym (suc-mul n b)) in
    omega (arith, halves, further, upto_cut f b n xs)

-- one where no later write of its group overlaps the write
abbrev pub worth_last : SubJob → ℕ → Draw → ℕ
worth_last job p d = cond (stays_last (pass_of job p) d) 1 0

-- how many writes of a pass are checked: those that stay last in their groups
pub checks_are : (job : SubJob) (p : ℕ) → checks_of_pass (pass_of job p) ≡ total (λ (d : Draw). cond (is_write_draw d && stays_last (pass_of job p) d) 1 0) (draws_of_job job p)
checks_are job p =
    sum_map-total (λ (g : ℕ). checked_among (group_of (pass_of job p) g)) (range_with_len 0 (group_count (pass_of job p)))
    ∙ total_upto (λ (g : ℕ). checked_among (group_of (pass_of job p) g)) (group_count (pass_of job p))
    ∙ upto_same_below (λ (g : ℕ). checked_among (group_of (pass_of job p) g)) (λ (g : ℕ). total (worth_last job p) (group_of (pass_of job p) g)) (group_count (pass_of job p)) of_group
    ∙ all_groups (cases_Bool (job.backlog == 0))
    ∙ total-filter (worth_last job p) is_write_draw (draws_of_job job p)
    ∙ total_same (λ (d : Draw). cond (is_write_draw d) (worth_last job p d) 0) (λ (d : Draw). cond (is_write_draw d && stays_last (pass_of job p) d) 1 0) (draws_of_job job p)
    (λ (d : Draw). two_tests (is_write_draw d) (stays_last (pass_of job p) d))
  where
    two_tests : (a b : Bool) → ◌≡◌ {A = ℕ} (cond a (cond b 1 0) 0) (cond (a && b) 1 0)
    two_tests true b = refl
    two_tests false b = refl

    group_rises : (g : ℕ) → ((job.backlog == 0) ≡ true) ⊎ ((job.backlog == 0) ≡ false) → Rising 0 (group_of (pass_of job p) g)
    group_rises g (inl none) = subst (Rising 0) (sym (group_is_all job p g none)) (writes_rise job p)
    group_rises g (inr some) =
        subst (Rising 0) (sym (group_is job p g some))
        (rising_take 0 job.backlog (drop (g * job.backlog) (writes_of (pass_of job p))) (rising_drop 0 (g * job.backlog) (writes_of (pass_of job p)) (writes_rise job p)))

    of_group : (g : ℕ) → g < group_count (pass_of job p) → checked_among (group_of (pass_of job p) g) ≡ total (worth_last job p) (group_of (pass_of job p) g)
    of_group g below =
        checked_sum 0 (group_of (pass_of job p) g) (group_rises g (cases_Bool (job.backlog == 0)))
        ∙ total_same_at (λ (d : Draw). cond (is_last_in (group_of (pass_of job p) g) d) 1 0) (worth_last job p) (group_of (pass_of job p) g)
        (λ (k : ℕ) (d : Draw) (at : slice_get (group_of (pass_of job p) g) k ≡ Some d).
        ap {B = ℕ} (λ (i : ℕ). cond (is_last_in (group_of (pass_of job p) i) d) 1 0) (sym (member_is job p g d (record { place = k; at = at }) below).index))

    all_groups : ((job.backlog == 0) ≡ true) ⊎ ((job.backlog == 0) ≡ false) → upto (λ (g : ℕ). total (worth_last job p) (group_of (pass_of job p) g)) (group_count (pass_of job p)) ≡ total (worth_last job p) (writes_of (pass_of job p))
    all_groups (inl none) =
        ap (upto (λ (g : ℕ). total (worth_last job p) (group_of (pass_of job p) g))) (count_is_one job p none)
        ∙ omega (arith, ap (total (worth_last job p)) (group_is_all job p 0 none))
    all_groups (inr some) =
        let b = job.backlog in
        let ws = writes_of (pass_of job p) in
        let n = group_count (pass_of job p) in
        let enough : length ws ≤ n * b =
        subst (λ (m : ℕ). length ws ≤ m * b) (sym (count_is job p some))
        (reaches (length ws) b (positive job p some)) in
        let nothing : drop (n * b) ws ≡ [] = drop_all (n * b) ws enough in
        upto_same_below (λ (g : ℕ). total (worth_last job p) (group_of (pass_of job p) g)) (λ (g : ℕ). total (worth_last job p) (take b (drop (g * b) ws))) n
        (λ (g : ℕ) (below : g < n). ap (total (worth_last job p)) (group_is job p g some))
        ∙ omega (arith, upto_cut (worth_last job p) b n ws, ap (total (worth_last job p)) nothing)
      where
        reaches : (m b : ℕ) → 0 < b → m ≤ (m + b - 1) / b * b
        reaches m b above = omega (arith, div-add-mod' (m + b - 1) b, mod_below (m + b - 1) b above, above)
