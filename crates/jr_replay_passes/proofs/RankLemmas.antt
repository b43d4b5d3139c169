-- The writes of a pass are numbered in order: how many have numbers below one, and which is the last of them.
use Rattle.std.proofs.Common.{◌≡◌, ℕ, ◌+◌, ◌-◌, ◌*◌, ◌/◌, ◌<◌, ◌≤◌, List, length, take, drop, Bool, true, false, cond, ◌&&◌, refl, sym, ◌∙◌, ap, subst, arith, inl, inr, length-take}
use Rattle.std.specs.Prelude.{Option, Some, None, MatchOption, slice_get, nat_lt, ◌==◌, count_by}
use Rattle.std.proofs.lemmas.Bool.{eq-eqb, ne_eqb, lt-ltb, le-ltb, ltb-true, ltb-false, cases_lt}
use Rattle.std.proofs.lemmas.List.Sums.{count_by-le-length}
use Rattle.jr_model.specs.declared.workloads.Draw.{Draw}
use Rattle.jr_model.specs.Rounds.{Pass, pass_of, writes_of, group_of}
use Rattle.jr_laws_quiet.proofs.Groups.{Rising, rank_at, rising_take, rising_drop, writes_rise}
use Rattle.jr_laws_quiet.proofs.Tallies.{count_by-total}
use Rattle.jr_model.proofs.PlaceLemmas.{item_at}
use Rattle.jr_replay_passes.specs.Passes.{IsLastBelow, NoneBelow, is_below}

-- it is a pass of its clone
abbrev pub IsOwn : Pass → Type 0
IsOwn pass = pass ≡ pass_of pass.job pass.number

-- how many of these draws have lower numbers
abbrev pub below : ℕ → List Draw → ℕ
below k draws = count_by (λ (draw : Draw). nat_lt draw.number k) draws

rises : (pass : Pass) → IsOwn pass → Rising 0 (writes_of pass)
rises pass own = subst (λ (q : Pass). Rising 0 (writes_of q)) (sym own) (writes_rise pass.job pass.number)

-- those with lower numbers stand first
place_below : (draws : List Draw) (k i : ℕ) (d : Draw) → Rising 0 draws → slice_get draws i ≡ Some d → nat_lt d.number k ≡ nat_lt i (below k draws)
place_below draws k i d rise at =
    rank_at 0 k draws i d rise at ∙ ap (nat_lt i) (sym (count_by-total (λ (draw : Draw). nat_lt draw.number k) draws))

pub few_below : (k : ℕ) (draws : List Draw) → below k draws ≤ length draws
few_below k draws = count_by-le-length (λ (draw : Draw). nat_lt draw.number k) draws

pub at_place : (pass : Pass) (k i : ℕ) → IsOwn pass → i < length (writes_of pass) → is_below (slice_get (writes_of pass) i) k ≡ nat_lt i (below k (writes_of pass))
at_place pass k i own within =
    let item = item_at (writes_of pass) i within in
    ap (λ (o : Option Draw). is_below o k) item.1 ∙ place_below (writes_of pass) k i item.0 (rises pass own) item.1

-- where the one in the middle is below, so are all up to it
pub upper_half : (pass : Pass) (k i : ℕ) → IsOwn pass → i < length (writes_of pass) → is_below (slice_get (writes_of pass) i) k ≡ true → i < below k (writes_of pass)
upper_half pass k i own within low = ltb-true i (below k (writes_of pass)) (sym (at_place pass k i own within) ∙ low)

-- and where it isn't, none from it on is
pub lower_half : (pass : Pass) (k i : ℕ) → IsOwn pass → i < length (writes_of pass) → is_below (slice_get (writes_of pass) i) k ≡ false → below k (writes_of pass) ≤ i
lower_half pass k i own within high = ltb-false i (below k (writes_of pass)) (sym (at_place pass k i own within) ∙ high)

-- where none has a lower number
pub none_below : (pass : Pass) (k : ℕ) → IsOwn pass → below k (writes_of pass) ≡ 0 → NoneBelow (writes_of pass) k
none_below pass k own none i other at =
    ltb-false other.number k (place_below (writes_of pass) k i other (rises pass own) at ∙ le-ltb i (below k (writes_of pass)) (omega (arith, none)))

-- else the last that has
pub last_found : (pass : Pass) (k count : ℕ) (found : Option Draw) → IsOwn pass → count ≡ below k (writes_of pass) → 0 < count → found ≡ slice_get (writes_of pass) (count - 1) → MatchOption found (NoneBelow (writes_of pass) k) (λ (draw : Draw). IsLastBelow (writes_of pass) k draw)
last_found pass k count found own is some at = by_case found at
  where
    ws : List Draw
    ws = writes_of pass

    within : count - 1 < length ws
    within = let few = few_below k ws in omega (arith, is, some, few)

    in_order : (i : ℕ) (a d : Draw) → slice_get ws i ≡ Some a → slice_get ws (count - 1) ≡ Some d → i ≤ count - 1 → a.number ≤ d.number
    in_order i a d at_i at_last low =
        elim (cases_lt d.number a.number) [
          | inl above ↦
              let before : count - 1 < below a.number ws = ltb-true (count - 1) (below a.number ws) (sym (place_below ws a.number (count - 1) d (rises pass own) at_last) ∙ lt-ltb d.number a.number above) in
              let behind : below a.number ws ≤ i = ltb-false i (below a.number ws) (sym (place_below ws a.number i a (rises pass own) at_i) ∙ le-ltb a.number a.number (omega arith)) in
              absurd (omega (arith, before, behind, low))
          | inr most ↦ most
        ]

    by_case : (o : Option Draw) → o ≡ slice_get ws (count - 1) → MatchOption o (NoneBelow ws k) (λ (draw : Draw). IsLastBelow ws k draw)
    by_case None none = let item = item_at ws (count - 1) within in cc
    by_case (Some d) here = record {
      place = count - 1;
      at = sym here;
      below = ltb-true d.number k (place_below ws k (count - 1) d (rises pass own) (sym here) ∙ lt-ltb (count - 1) (below k ws) (omega (arith, is, some)));
      last = λ (i : ℕ) (other : Draw) (at_i : slice_get ws i ≡ Some other) (low : other.number < k).
          let early : i < below k ws = ltb-true i (below k ws) (sym (place_below ws k i other (rises pass own) at_i) ∙ lt-ltb other.number k low) in
          in_order i other d at_i (sym here) (omega (arith, early, is));
    }

-- a group has as many with lower numbers as the backlog where its last has one
module _ (pass : Pass) (g k : ℕ) (own : IsOwn pass) where
  abbrev backlog : ℕ
  backlog = pass.job.backlog

  pub reached_none : backlog ≡ 0 → false ≡ (nat_lt 0 backlog && (below k (group_of pass g) == backlog))
  reached_none none = sym (ap (λ (b : Bool). b && (below k (group_of pass g) == backlog)) (le-ltb 0 backlog (omega (arith, none))))

  pub reached_last : 0 < backlog → is_below (slice_get (group_of pass g) (backlog - 1)) k ≡ (nat_lt 0 backlog && (below k (group_of pass g) == backlog))
  reached_last some = by_case (slice_get group (backlog - 1)) refl ∙ sym (ap (λ (b : Bool). b && (below k group == backlog)) (lt-ltb 0 backlog some))
    where
      group : List Draw
      group = group_of pass g

      cut : group ≡ take backlog (drop (g * backlog) (writes_of pass))
      cut = ap (λ (b : Bool). cond b (writes_of pass) (take backlog (drop (g * backlog) (writes_of pass)))) (ne_eqb backlog 0 (λ none. omega (arith, none, some)))

      short : length group ≤ backlog
      short = omega (arith, ap length cut, length-take backlog (drop (g * backlog) (writes_of pass)))

      rise : Rising 0 group
      rise = subst (λ (ds : List Draw). Rising 0 ds) (sym cut) (rising_take 0 backlog (drop (g * backlog) (writes_of pass)) (rising_drop 0 (g * backlog) (writes_of pass) (rises pass own)))

      by_case : (o : Option Draw) → slice_get group (backlog - 1) ≡ o → is_below o k ≡ (below k group == backlog)
      by_case None none =
          elim (cases_lt (backlog - 1) (length group)) [
            | inl within ↦ absurd (let item = item_at group (backlog - 1) within in cc)
            | inr past ↦ sym (ne_eqb (below k group) backlog (λ same. let few = few_below k group in omega (arith, same, few, past, some)))
          ]
      by_case (Some d) at =
          let few = few_below k group in
          place_below group k (backlog - 1) d rise at
          ∙ elim (cases_lt (backlog - 1) (below k group)) [
            | inl all ↦ lt-ltb (backlog - 1) (below k group) all ∙ sym (eq-eqb (below k group) backlog (omega (arith, all, few, short, some)))
            | inr less ↦ le-ltb (backlog - 1) (below k group) less ∙ sym (ne_eqb (below k group) backlog (λ same. omega (arith, same, less, some)))
          ]

-- the middle of a range lies in it
pub middle_within : (low high most : ℕ) → low < high → high ≤ most → low + (high - low) / 2 < most
middle_within low high most some within = omega (arith, some, within)
