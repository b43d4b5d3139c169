-- The groups of a pass's writes: where a group's write stands among the draws, and which group it is of.
use Rattle.std.proofs.Common.{◌≡◌, ℕ, suc, ◌+◌, ◌-◌, ◌*◌, ◌/◌, ◌<◌, ◌≤◌, List, [], ◌∷◌, length, take, drop, Bool, true, false, cond, refl, ◌∙◌, ap, subst, arith, inl, inr}
use Rattle.std.specs.Prelude.{Some, slice_get, filter, count_by, nat_lt, ◌==◌}
use Rattle.std.proofs.lemmas.Bool.{cases_Bool, cond_both, cond-true, cond-false, lt-ltb, le-ltb}
use Rattle.std.proofs.lemmas.List.Sums.{sum_by-cons}
use Rattle.std.proofs.lemmas.Nat.{div-mul-add}
use Rattle.jr_model.specs.declared.workloads.Draw.{Draw}
use Rattle.jr_model.specs.Rounds.{Pass, is_write_draw, writes_of, group_of, group_count, group_index}
use Rattle.jr_model.proofs.PlaceLemmas.{cases_place, got_filtered, got_taken, got_dropped}

-- the draws are numbered from n on
abbrev pub AreNumbered : ℕ → List Draw → Type 0
AreNumbered n draws = (k : ℕ) (draw : Draw) → slice_get draws k ≡ Some draw → draw.number ≡ n + k

-- those behind the first
pub numbered_behind : (n : ℕ) (draw : Draw) (draws : List Draw) → AreNumbered n (draw ∷ draws) → AreNumbered (suc n) draws
numbered_behind n draw draws numbered k next at = let more = numbered (suc k) next at in omega (arith, more)

-- a draw is numbered below k
abbrev pub is_before : ℕ → Draw → Bool
is_before k draw = nat_lt draw.number k

-- one more draw in a count
pub count_first : (k : ℕ) (draw : Draw) (draws : List Draw) (b : Bool) → is_before k draw ≡ b → count_by (is_before k) (draw ∷ draws) ≡ cond b 1 0 + count_by (is_before k) draws
count_first k draw draws b same =
    sum_by-cons (λ (next : Draw). cond (is_before k next) 1 0) draw draws
    ∙ ap (λ (c : Bool). cond c 1 0 + count_by (is_before k) draws) same

-- none of the draws from n on is numbered below n
pub none_before : (test : Draw → Bool) (n k : ℕ) (draws : List Draw) → k ≤ n → AreNumbered n draws → count_by (is_before k) (filter test draws) ≡ 0
none_before test n k [] low numbered = refl
none_before test n k (draw ∷ draws) low numbered =
    let later = none_before test (suc n) k draws (omega (arith, low)) (numbered_behind n draw draws numbered) in
    let first : draw.number ≡ n + 0 = numbered 0 draw refl in
    let counted = count_first k draw (filter test draws) false (le-ltb draw.number k (omega (arith, first, low))) in
    cond_both (test draw) (draw ∷ filter test draws) (filter test draws) (λ (kept : List Draw). count_by (is_before k) kept ≡ 0)
    (λ _. omega (arith, counted, later))
    (λ _. later)

-- so many of the draws that a test leaves are numbered below one of them as stand before it
pub place_is_count : (test : Draw → Bool) (n m : ℕ) (draw : Draw) (draws : List Draw) → AreNumbered n draws → slice_get (filter test draws) m ≡ Some draw → count_by (is_before draw.number) (filter test draws) ≡ m
place_is_count test n m draw [] numbered at = cc
place_is_count test n m draw (first ∷ draws) numbered at =
    let start : first.number ≡ n + 0 = numbered 0 first refl in
    let behind = numbered_behind n first draws numbered in
    elim (cases_Bool (test first)) [
      | inl kept ↦
          let both : cond (test first) (first ∷ filter test draws) (filter test draws) ≡ first ∷ filter test draws = cond-true (test first) (first ∷ filter test draws) (filter test draws) kept in
          ap (count_by (is_before draw.number)) both
          ∙ elim (cases_place first (filter test draws) m draw (subst (λ (all : List Draw). slice_get all m ≡ Some draw) both at)) [
            | inl here ↦
                let same : first.number ≡ draw.number = ap (λ (d : Draw). d.number) here.1 in
                let counted = count_first draw.number first (filter test draws) false (le-ltb first.number draw.number (omega (arith, same))) in
                let none = none_before test (suc n) draw.number draws (omega (arith, start, same)) behind in
                omega (arith, counted, none, here.0)
            | inr later ↦
                let place = got_filtered test draws later.0 draw later.2 in
                let number = behind place.0 draw place.1 in
                let counted = count_first draw.number first (filter test draws) true (lt-ltb first.number draw.number (omega (arith, start, number))) in
                let more = place_is_count test (suc n) later.0 draw draws behind later.2 in
                omega (arith, counted, more, later.1)
          ]
      | inr left ↦
          let rest : cond (test first) (first ∷ filter test draws) (filter test draws) ≡ filter test draws = cond-false (test first) (first ∷ filter test draws) (filter test draws) left in
          ap (count_by (is_before draw.number)) rest
          ∙ place_is_count test (suc n) m draw draws behind (subst (λ (all : List Draw). slice_get all m ≡ Some draw) rest at)
    ]

-- the write at a place of a group, by its place among all writes
group_place : (b : Bool) (writes : List Draw) (backlog g j : ℕ) (draw : Draw) → (backlog == 0) ≡ b → g < cond b 1 ((length writes + backlog - 1) / backlog) → slice_get (cond b writes (take backlog (drop (g * backlog) writes))) j ≡ Some draw → (m : ℕ) × (slice_get writes m ≡ Some draw) × (cond b 0 (m / backlog) ≡ g)
group_place true writes backlog g j draw is within at = (j, at, omega (arith, within))
group_place false writes backlog g j draw is within at =
    let place = got_taken backlog (drop (g * backlog) writes) j draw at in
    (g * backlog + j, got_dropped (g * backlog) writes j draw place.1, div-mul-add g backlog j place.0)

-- the write at a place of a group is a write among the draws, of that group
pub group_write : (pass : Pass) (g j : ℕ) (draw : Draw) → AreNumbered 0 pass.draws → g < group_count pass → slice_get (group_of pass g) j ≡ Some draw → (k : ℕ) × (slice_get pass.draws k ≡ Some draw) × (is_write_draw draw ≡ true) × (group_index pass draw.number ≡ g)
group_write pass g j draw numbered within at =
    let backlog = pass.job.backlog in
    let place = group_place (backlog == 0) (writes_of pass) backlog g j draw refl within at in
    let drawn = got_filtered is_write_draw pass.draws place.0 draw place.1 in
    let counted : count_by (is_before draw.number) (writes_of pass) ≡ place.0 = place_is_count is_write_draw 0 place.0 draw pass.draws numbered place.1 in
    (drawn.0, drawn.1, drawn.2, ap (λ (n : ℕ). cond (backlog == 0) 0 (n / backlog)) counted ∙ place.2)
