-- The round of a group: when it is due and closed, and what it has still to check.
use Rattle.std.proofs.Common.{◌≡◌, ℕ, suc, ◌*◌, ◌<◌, ◌≤◌, List, [], ◌∷◌, length, drop, map, Bool, true, false, cond, ◌&&◌, ◌||◌, not, refl, sym, ◌∙◌, ap, arith, inl, inr, zero-add, length-take}
use Rattle.std.specs.Prelude.{◌⊎◌, Some, slice_get, nat_lt, ◌==◌, filter, min}
use Rattle.std.specs.List.{list_any, list_all, range_with_len}
use Rattle.std.proofs.lemmas.Bool.{and_parts, and_from, and_right, eqb-true, eq-eqb, ne_eqb, lt-ltb, le-ltb, cases_lt, cases_Bool, not-true, not_from_true, not_from_false, false≢true}
use Rattle.std.proofs.lemmas.Option.{slice_get_within}
use Rattle.std.proofs.Math.Bool.{or-false, or_comm}
use Rattle.jr_model.specs.declared.events.Event.{Event}
use Rattle.jr_model.specs.declared.events.WriteId.{WriteId}
use Rattle.jr_model.specs.declared.workloads.Draw.{Draw}
use Rattle.jr_model.specs.Draws.{draws_of_job}
use Rattle.jr_model.specs.Plan.{SubJob}
use Rattle.jr_model.specs.Rounds.{pass_of, write_id, is_write_draw, issued_count, all_issued, issued_among, is_settled, is_full, is_closed, waits_for_round, has_rounds, group_of, group_count, group_index, writes_of}
use Rattle.jr_model.proofs.PlaceLemmas.{all_from, first_fails, any_found, any_at, got_ranged, made_at, ranged_at}
use Rattle.jr_model.proofs.BoolLemmas.{same_truth}
use Rattle.jr_laws_quiet.proofs.Tallies.{count_by-total}
use Rattle.jr_laws_quiet.proofs.Issues.{all_at}
use Rattle.jr_laws_quiet.proofs.Groups.{rank, rank_le_length, group_is, got_filter}
use Rattle.jr_laws_quiet.proofs.Members.{InGroup, member_is, full_issued}
use Rattle.jr_backlog.specs.Rounds.{Round, is_due}
use Rattle.jr_backlog.specs.Rounds as kept
use Rattle.jr_backlog.specs.CurrentRound.{is_left}
use Rattle.jr_laws_rounds.specs.Standing.{is_under_way}

-- the round of the writes of a group
abbrev pub round_in : SubJob → List Event → ℕ → ℕ → Round
round_in job h p g =
    let pass = pass_of job p in
    let group = group_of pass g in
    record {
      limit = job.backlog;
      count = min job.backlog (issued_among h pass group);
      exhausted = all_issued h pass;
      to_check = map (write_id pass) (filter (is_left h pass) group);
    }

second_fails : (a b : Bool) → a ≡ true → (a && b) ≡ false → b ≡ false
second_fails true b one g = g
second_fails false b one g = absurd (false≢true one)

-- no more of a group are issued than the backlog
pub few_issued : (h : List Event) (job : SubJob) (p g : ℕ) → 0 < job.backlog → issued_among h (pass_of job p) (group_of (pass_of job p) g) ≤ job.backlog
few_issued h job p g above =
    let some : (job.backlog == 0) ≡ false = ne_eqb job.backlog 0 (λ same. absurd (omega (arith, same, above))) in
    let group = group_of (pass_of job p) g in
    let n = issued_count h (pass_of job p) in
    let short : length group ≤ job.backlog = omega (arith, ap length (group_is job p g some), length-take job.backlog (drop (g * job.backlog) (writes_of (pass_of job p)))) in
    let count : issued_among h (pass_of job p) group ≡ rank group n = count_by-total (λ (draw : Draw). nat_lt draw.number n) group in
    omega (arith, count, rank_le_length group n, short)

-- the round of a group is due where the group is full
pub due_is_full : (h : List Event) (job : SubJob) (p g : ℕ) → is_due (round_in job h p g) ≡ is_full h (pass_of job p) g
due_is_full h job p g = by_backlog (cases_lt 0 job.backlog)
  where
    count : ℕ
    count = issued_among h (pass_of job p) (group_of (pass_of job p) g)

    all : Bool
    all = all_issued h (pass_of job p)

    by_backlog : (0 < job.backlog) ⊎ (job.backlog ≤ 0) → ((nat_lt 0 job.backlog && (min job.backlog count == job.backlog)) || all) ≡ (all || (nat_lt 0 job.backlog && (count == job.backlog)))
    by_backlog (inl some) =
        let few : count ≤ job.backlog = few_issued h job p g some in
        let least : min job.backlog count ≡ count = omega (arith, few) in
        ap (λ (m : ℕ). (nat_lt 0 job.backlog && (m == job.backlog)) || all) least
        ∙ or_comm (nat_lt 0 job.backlog && (count == job.backlog)) all
    by_backlog (inr none) =
        let none_wanted : nat_lt 0 job.backlog ≡ false = le-ltb 0 job.backlog none in
        ap (λ (b : Bool). (b && (min job.backlog count == job.backlog)) || all) none_wanted
        ∙ sym (ap (λ (b : Bool). all || (b && (count == job.backlog))) none_wanted ∙ or-false all)

pub filter_none : {X : Type 0} (p : X → Bool) (xs : List X) → ((k : ℕ) (x : X) → slice_get xs k ≡ Some x → p x ≡ false) → filter p xs ≡ []
filter_none p [] each = refl
filter_none {X = X} p (x ∷ xs) each =
    ap (λ (b : Bool). cond b (x ∷ filter p xs) (filter p xs)) (each 0 x refl)
    ∙ filter_none p xs (λ (k : ℕ) (y : X) (at : slice_get xs k ≡ Some y). each (suc k) y at)

-- what a closed group has is settled
pub member_settled : (h : List Event) (job : SubJob) (p g : ℕ) (d : Draw) → is_closed h (pass_of job p) g ≡ true → InGroup job p g d → is_settled h (write_id (pass_of job p) d) ≡ true
member_settled h job p g d closed member =
    let pass = pass_of job p in
    let settled : Draw → Bool = λ (draw : Draw). is_settled h (write_id pass draw) in
    all_at settled (group_of pass g) member.place d (and_parts (is_full h pass g) (list_all settled (group_of pass g)) closed).1 member.at

-- so its round has nothing to check
pub closed_empties : (h : List Event) (job : SubJob) (p g : ℕ) → is_closed h (pass_of job p) g ≡ true → (round_in job h p g).to_check ≡ []
closed_empties h job p g closed =
    let pass = pass_of job p in
    ap (map (write_id pass))
    (filter_none (is_left h pass) (group_of pass g)
    (λ (k : ℕ) (d : Draw) (at : slice_get (group_of pass g) k ≡ Some d).
    and_right (nat_lt d.number (issued_count h pass)) (not (is_settled h (write_id pass d)))
    (not_from_true (is_settled h (write_id pass d)) (member_settled h job p g d closed (record { place = k; at = at })))))

-- a round with nothing to check is not under way
pub nothing_under_way : (round : Round) → round.to_check ≡ [] → is_under_way round ≡ false
nothing_under_way round none =
    ap (λ (ws : List WriteId). is_due round && not (is_due round && (length ws == 0))) none ∙ never (is_due round)
  where
    never : (b : Bool) → (b && not (b && true)) ≡ false
    never true = refl
    never false = refl

-- the round of a full group is closed where the group is
pub closed_is : (h : List Event) (job : SubJob) (p g : ℕ) → g < group_count (pass_of job p) → is_full h (pass_of job p) g ≡ true → kept.is_closed (round_in job h p g) ≡ is_closed h (pass_of job p) g
closed_is h job p g below full =
    ap (λ (b : Bool). b && (length writes == 0)) (due_is_full h job p g ∙ full)
    ∙ same_truth (length writes == 0) (list_all settled group) to from
    ∙ sym (ap (λ (b : Bool). b && list_all settled group) full)
  where
    group : List Draw
    group = group_of (pass_of job p) g

    writes : List WriteId
    writes = map (write_id (pass_of job p)) (filter (is_left h (pass_of job p)) group)

    settled : Draw → Bool
    settled d = is_settled h (write_id (pass_of job p) d)

    one_settled : (k : ℕ) (d : Draw) → (length writes == 0) ≡ true → slice_get group k ≡ Some d → (settled d ≡ true) ⊎ (settled d ≡ false) → settled d ≡ true
    one_settled k d none at (inl done) = done
    one_settled k d none at (inr fails) =
        let issued = full_issued h job p g d full (record { place = k; at = at }) below in
        let left : is_left h (pass_of job p) d ≡ true =
        and_from (nat_lt d.number (issued_count h (pass_of job p))) (not (settled d)) (lt-ltb d.number (issued_count h (pass_of job p)) issued) (not_from_false (settled d) fails) in
        let found = got_filter (is_left h (pass_of job p)) group k d at left in
        let there = made_at (write_id (pass_of job p)) (filter (is_left h (pass_of job p)) group) found.0 d found.1 in
        absurd (omega (arith, slice_get_within writes found.0 (write_id (pass_of job p) d) there, eqb-true (length writes) 0 none))

    to : (length writes == 0) ≡ true → list_all settled group ≡ true
    to none = all_from settled group (λ (k : ℕ) (d : Draw) (at : slice_get group k ≡ Some d). one_settled k d none at (cases_Bool (settled d)))

    from : list_all settled group ≡ true → (length writes == 0) ≡ true
    from all =
        let closed : is_closed h (pass_of job p) g ≡ true = and_from (is_full h (pass_of job p) g) (list_all settled group) full all in
        eq-eqb (length writes) 0 (ap length (closed_empties h job p g closed))

-- a write that a full group waits for
pub record IsWaitedFor (job : SubJob) (h : List Event) (p g : ℕ) : Type 0 where
  pub draw : Draw
  pub drawn : slice_get (draws_of_job job p) draw.number ≡ Some draw
  pub writes : is_write_draw draw ≡ true
  pub issued : draw.number < issued_count h (pass_of job p)
  pub index : group_index (pass_of job p) draw.number ≡ g
  pub unsettled : is_settled h (write_id (pass_of job p) draw) ≡ false

pub waited_for : (h : List Event) (job : SubJob) (p g : ℕ) → g < group_count (pass_of job p) → is_full h (pass_of job p) g ≡ true → is_closed h (pass_of job p) g ≡ false → IsWaitedFor job h p g
waited_for h job p g below full still =
    let pass = pass_of job p in
    let settled : Draw → Bool = λ (draw : Draw). is_settled h (write_id pass draw) in
    let found = first_fails settled (group_of pass g) (second_fails (is_full h pass g) (list_all settled (group_of pass g)) full still) in
    let inside : InGroup job p g found.1 = record { place = found.0; at = found.2 } in
    let member = member_is job p g found.1 inside below in
    record {
      draw = found.1;
      drawn = member.drawn;
      writes = member.writes;
      issued = full_issued h job p g found.1 full inside below;
      index = member.index;
      unsettled = found.3;
    }

-- a group of the pass waits for its checks
pub record IsWaiting (job : SubJob) (h : List Event) (p : ℕ) : Type 0 where
  pub group : ℕ
  pub below : group < group_count (pass_of job p)
  pub full : is_full h (pass_of job p) group ≡ true
  pub unclosed : is_closed h (pass_of job p) group ≡ false

pub waiting_group : (h : List Event) (job : SubJob) (p : ℕ) → waits_for_round h (pass_of job p) ≡ true → IsWaiting job h p
waiting_group h job p waits =
    let pass = pass_of job p in
    let test : ℕ → Bool = λ (g : ℕ). is_full h pass g && not (is_closed h pass g) in
    let any = (and_parts (has_rounds job) (list_any test (range_with_len 0 (group_count pass))) waits).1 in
    let found = any_found test (range_with_len 0 (group_count pass)) any in
    let place = got_ranged 0 (group_count pass) found.0 found.1 found.2 in
    let parts = and_parts (is_full h pass found.1) (not (is_closed h pass found.1)) found.3 in
    record {
      group = found.1;
      below = omega (arith, place.0, place.1);
      full = parts.0;
      unclosed = not-true (is_closed h pass found.1) parts.1;
    }

pub waits_with : (h : List Event) (job : SubJob) (p g : ℕ) → has_rounds job ≡ true → g < group_count (pass_of job p) → is_full h (pass_of job p) g ≡ true → is_closed h (pass_of job p) g ≡ false → waits_for_round h (pass_of job p) ≡ true
waits_with h job p g rounds below full still =
    let pass = pass_of job p in
    let test : ℕ → Bool = λ (i : ℕ). is_full h pass i && not (is_closed h pass i) in
    and_from (has_rounds job) (list_any test (range_with_len 0 (group_count pass))) rounds
    (any_at test (range_with_len 0 (group_count pass)) g g (ranged_at 0 (group_count pass) g below ∙ ap Some (zero-add g))
    (and_from (is_full h pass g) (not (is_closed h pass g)) full (not_from_false (is_closed h pass g) still)))
